-- The status and control of one microframe of an isochronous transfer descriptor (EHCI 1.0, 3.3.2).
use Rattle.std.specs.Prelude.{ℕ, false, List, [], ◌∷◌}
use Rattle.link_words.specs.Layout.{BitRow, Number, Flag, Free, Above, word_of, bits, is_set}
use Rattle.itd_sitd.specs.declared.slot.ItdSlot.{ItdSlot}

abbrev pub slot_rows : List (BitRow ItdSlot)
slot_rows =
    Flag 31 (λ s. s.active) ∷
    Flag 30 (λ s. s.buffer_error) ∷
    Flag 29 (λ s. s.babble) ∷
    Flag 28 (λ s. s.xact_err) ∷
    Number 27 16 Free (λ s. s.length) ∷
    Flag 15 (λ s. s.ioc) ∷
    Number 14 12 (Above 6) (λ s. s.pg) ∷
    Number 11 0 Free (λ s. s.offset) ∷ []

-- the word of a microframe
unfoldable pub slot_word : ItdSlot → ℕ
slot_word s = word_of slot_rows s

-- the fields of a word, reserved values too
unfoldable pub slot_at : ℕ → ItdSlot
slot_at w = record {
  offset = bits 11 0 w;
  pg = bits 14 12 w;
  ioc = is_set 15 w;
  length = bits 27 16 w;
  xact_err = is_set 28 w;
  babble = is_set 29 w;
  buffer_error = is_set 30 w;
  active = is_set 31 w;
}

-- a microframe with nothing to do, for a place past the eight
abbrev pub no_slot : ItdSlot
no_slot = record {
  offset = 0;
  pg = 0;
  ioc = false;
  length = 0;
  xact_err = false;
  babble = false;
  buffer_error = false;
  active = false;
}
