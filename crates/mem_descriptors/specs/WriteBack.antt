-- What a write at an address changes, and that it is read there (EHCI 1.0, 3.3).
--     SlotChangesNoMore     no word but that of the microframe is changed
--     StateChangesNoMore    no word but the three of the state is changed
--     SlotIsRead            of an iTD that is there a written microframe changes that microframe alone
use Rattle.std.specs.Prelude.{◌≡◌, ℕ, ◌+◌, ◌%◌, ◌<◌, ◌≤◌, ◌⊎◌, ◌^◌, List, length, slice_index, slice_set, Some}
use Rattle.word_mem.specs.Memory.{Mem, IsShaped, word_at}
use Rattle.link_words.specs.Layout.{IsWordInRange}
use Rattle.itd_sitd.specs.Slot.{slot_rows}
use Rattle.itd_sitd.specs.declared.slot.ItdSlot.{ItdSlot}
use Rattle.itd_sitd.specs.declared.itd.Itd.{Itd}
use Rattle.mem_descriptors.specs.Descriptors.{itd_at_address, slot_address, slot_written, state_written}

-- each word has 32 bits
abbrev pub AreWords : Mem → Type 0
AreWords m = (i : ℕ) → slice_index m.words i < 2 ^ 32

abbrev pub SlotChangesNoMore : Type 0
SlotChangesNoMore = (m : Mem) (a k : ℕ) (s : ItdSlot) (other : ℕ) → a % 4 ≡ 0
    → (other < slot_address a k) ⊎ (slot_address a k + 4 ≤ other) → word_at (slot_written m a k s) other ≡ word_at m other

abbrev pub StateChangesNoMore : Type 0
StateChangesNoMore = (m : Mem) (a : ℕ) (ws : List ℕ) (other : ℕ) → a % 4 ≡ 0 → length ws ≡ 3
    → (other < a + 12) ⊎ (a + 24 ≤ other) → word_at (state_written m a ws) other ≡ word_at m other

abbrev pub SlotIsRead : Type 0
SlotIsRead = (m : Mem) (a k : ℕ) (s : ItdSlot) (v : Itd) → IsShaped m → AreWords m → a % 32 ≡ 0 → k < 8 → IsWordInRange slot_rows s
    → itd_at_address m a ≡ Some v → itd_at_address (slot_written m a k s) a ≡ Some (record v { slots = slice_set v.slots k s })
