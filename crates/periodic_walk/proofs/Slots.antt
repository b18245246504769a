-- The word of a microframe of an iTD: written and read again.
use Rattle.std.proofs.Common.{◌≡◌, ℕ, zero, suc, ◌^◌, ◌<◌, List, [], ◌∷◌, Option, None, Some, refl, sym, ap, ◌∙◌, arith}
use Rattle.std.specs.Prelude.{slice_index}
use Rattle.link_words.specs.declared.refusal.Bad.{Bad}
use Rattle.link_words.specs.Layout.{BitRow, IsWordInRange, first_bad_bit, ranges_of, bad_or_later}
use Rattle.link_words.proofs.Tables.{Says, words_of-says, says-words_of}
use Rattle.itd_sitd.specs.declared.slot.ItdSlot.{ItdSlot}
use Rattle.itd_sitd.specs.Slot.{slot_rows, slot_at, slot_word}
use Rattle.itd_sitd.proofs.SlotLaws.{slot_says, slot_same}

abbrev layout : List (List (BitRow ItdSlot))
layout = slot_rows ∷ []

no_bad : (o : Option ℕ) → bad_or_later 0 o None ≡ None → o ≡ None
no_bad None e = refl
no_bad (Some bit) e = absurd cc

one_word : (w k : ℕ) → w < 2 ^ 32 → slice_index (w ∷ []) k < 2 ^ 32
one_word w zero small = small
one_word w (suc k) small = omega arith

-- a microframe in its range is read from its word, which has no reserved value
pub slot_back : (s : ItdSlot) → IsWordInRange slot_rows s
    → (first_bad_bit (ranges_of slot_rows) (slot_word s) ≡ None) × (slot_at (slot_word s) ≡ s)
unfolding slot_word
slot_back s range =
    let said = says-words_of layout (slot_word s ∷ []) s refl (range, tt) refl in
    (no_bad (first_bad_bit (ranges_of slot_rows) (slot_word s)) said.1, sym (slot_same (slot_word s) s said.0.0))

-- a word without a reserved value is that of the microframe that it is read as
pub slot_whole : (w : ℕ) → w < 2 ^ 32 → first_bad_bit (ranges_of slot_rows) w ≡ None
    → (slot_word (slot_at w) ≡ w) × IsWordInRange slot_rows (slot_at w)
unfolding slot_word
slot_whole w small free =
    let whole =
    words_of-says layout (w ∷ []) (slot_at w) refl refl (λ k. one_word w k small) (slot_says w, tt)
    (ap (λ o. bad_or_later 0 o None) free) in
    (ap (λ (ws : List ℕ). slice_index ws 0) whole.0, whole.1.0)
