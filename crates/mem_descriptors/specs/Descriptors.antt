-- What the controller reads at an address, and what it writes back (EHCI 1.0, 3.3, 3.4, 4.7.1 and 4.12.3). An iTD has 16 words and so
-- lies in two blocks of 8 words, a siTD has 7 and lies in one. Addresses are byte addresses, multiples of 32.
--     itd_at_address m a       the iTD at a; None where one of its blocks isn't Lent or its words have a reserved bit
--     sitd_at_address m a      the siTD at a; None where its block isn't Lent or its words have a reserved bit
--     itd_was_read m a         memory after the read: where a block isn't Lent one more refusal is counted
--     sitd_was_read m a        the same for a siTD
--     slot_address a k         the address of the word of microframe k
--     slot_written m a k s     the word of microframe k of the iTD at a
--     state_words v            words 3 to 5 of a siTD: its transfer state and both buffer pointers
--     state_written m a ws     these words are written there
use Rattle.std.specs.Prelude.{ℕ, ◌+◌, ◌*◌, Bool, ◌&&◌, List, take, drop, Option, None, if◌then◌else◌}
use Rattle.std.specs.Result.{result_ok}
use Rattle.word_mem.specs.Memory.{Mem, reaches, refused, with_word}
use Rattle.word_mem.specs.Views.{words_at, with_words}
use Rattle.itd_sitd.specs.declared.slot.ItdSlot.{ItdSlot}
use Rattle.itd_sitd.specs.declared.itd.Itd.{Itd}
use Rattle.itd_sitd.specs.declared.sitd.Sitd.{Sitd}
use Rattle.itd_sitd.specs.Slot.{slot_word}
use Rattle.itd_sitd.specs.Itd.{itd_read}
use Rattle.itd_sitd.specs.Sitd.{sitd_read, sitd_words}

-- ---- reading

-- the controller may touch both blocks of an iTD
abbrev pub reaches_itd : Mem → ℕ → Bool
reaches_itd m a = reaches m a && reaches m (a + 32)

abbrev pub itd_at_address : Mem → ℕ → Option Itd
itd_at_address m a = if reaches_itd m a then result_ok (itd_read (words_at m a 16)) else None

abbrev pub itd_was_read : Mem → ℕ → Mem
itd_was_read m a = if reaches_itd m a then m else refused m

abbrev pub sitd_at_address : Mem → ℕ → Option Sitd
sitd_at_address m a = if reaches m a then result_ok (sitd_read (words_at m a 7)) else None

abbrev pub sitd_was_read : Mem → ℕ → Mem
sitd_was_read m a = if reaches m a then m else refused m

-- ---- writing

-- the eight microframes are words 1 to 8 (3.3.2); the last of them lies in the second block
abbrev pub slot_address : ℕ → ℕ → ℕ
slot_address a k = a + (4 + 4 * k)

abbrev pub slot_written : Mem → ℕ → ℕ → ItdSlot → Mem
slot_written m a k s = if reaches m (slot_address a k) then with_word m (slot_address a k) (slot_word s) else refused m

abbrev pub state_words : Sitd → List ℕ
state_words v = take 3 (drop 3 (sitd_words v))

abbrev pub state_written : Mem → ℕ → List ℕ → Mem
state_written m a ws = if reaches m a then with_words m (a + 12) ws else refused m
