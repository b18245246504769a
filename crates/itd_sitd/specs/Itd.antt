-- The isochronous transfer descriptor (EHCI 1.0, 3.3), word by word.
use Rattle.std.specs.Prelude.{◌≡◌, ℕ, List, [], ◌∷◌, length, Option, Result, slice_index, slice_index_or}
use Rattle.link_words.specs.declared.refusal.Bad.{Bad}
use Rattle.link_words.specs.Layout.{BitRow, Number, Flag, Gap, Free, Above, Zero, within, words_of, IsInRange, bits, is_set, first_bad, unless_bad}
use Rattle.link_words.specs.Fields.{link_rows, link_at, page_rows}
use Rattle.itd_sitd.specs.declared.itd.Itd.{Itd}
use Rattle.itd_sitd.specs.declared.slot.ItdSlot.{ItdSlot}
use Rattle.itd_sitd.specs.Slot.{slot_rows, slot_at, no_slot}

-- a microframe of a descriptor
abbrev pub slot_of : ℕ → Itd → ItdSlot
slot_of k v = slice_index_or v.slots k no_slot

-- the buffer page pointers that have other fields beside them (3.3.3)
abbrev pub endpoint_rows : List (BitRow Itd)
endpoint_rows =
    Number 31 12 Free (λ v. v.page0) ∷
    Number 11 8 Free (λ v. v.ep) ∷
    Gap 7 7 ∷
    Number 6 0 Free (λ v. v.addr) ∷ []

abbrev pub packet_rows : List (BitRow Itd)
packet_rows =
    Number 31 12 Free (λ v. v.page1) ∷
    Flag 11 (λ v. v.dir_in) ∷
    Number 10 0 (Above 0x400) (λ v. v.max) ∷ []

abbrev pub multi_rows : List (BitRow Itd)
multi_rows =
    Number 31 12 Free (λ v. v.page2) ∷
    Gap 11 2 ∷
    Number 1 0 Zero (λ v. v.multi) ∷ []

abbrev pub itd_layout : List (List (BitRow Itd))
itd_layout =
    within (λ v. v.link) link_rows ∷
    within (slot_of 0) slot_rows ∷
    within (slot_of 1) slot_rows ∷
    within (slot_of 2) slot_rows ∷
    within (slot_of 3) slot_rows ∷
    within (slot_of 4) slot_rows ∷
    within (slot_of 5) slot_rows ∷
    within (slot_of 6) slot_rows ∷
    within (slot_of 7) slot_rows ∷
    endpoint_rows ∷
    packet_rows ∷
    multi_rows ∷
    page_rows (λ v. v.page3) ∷
    page_rows (λ v. v.page4) ∷
    page_rows (λ v. v.page5) ∷
    page_rows (λ v. v.page6) ∷ []

-- there are eight microframes, and each field is in its range
pub record IsItdInRange (v : Itd) : Type 0 where
  pub eight : length v.slots ≡ 8
  pub fields : IsInRange itd_layout v

-- the sixteen words
unfoldable pub itd_words : Itd → List ℕ
itd_words v = words_of itd_layout v

-- the first bit that breaks a row: a reserved bit that is 1, or the lowest bit of a reserved value
unfoldable pub itd_bad : List ℕ → Option Bad
itd_bad ws = first_bad itd_layout ws

-- the fields of sixteen words, reserved values too
unfoldable pub itd_at : List ℕ → Itd
itd_at ws = record {
  link = link_at (slice_index ws 0);
  slots =
      slot_at (slice_index ws 1) ∷ slot_at (slice_index ws 2) ∷ slot_at (slice_index ws 3) ∷ slot_at (slice_index ws 4)
      ∷ slot_at (slice_index ws 5) ∷ slot_at (slice_index ws 6) ∷ slot_at (slice_index ws 7) ∷ slot_at (slice_index ws 8) ∷ [];
  addr = bits 6 0 (slice_index ws 9);
  ep = bits 11 8 (slice_index ws 9);
  page0 = bits 31 12 (slice_index ws 9);
  max = bits 10 0 (slice_index ws 10);
  dir_in = is_set 11 (slice_index ws 10);
  page1 = bits 31 12 (slice_index ws 10);
  multi = bits 1 0 (slice_index ws 11);
  page2 = bits 31 12 (slice_index ws 11);
  page3 = bits 31 12 (slice_index ws 12);
  page4 = bits 31 12 (slice_index ws 13);
  page5 = bits 31 12 (slice_index ws 14);
  page6 = bits 31 12 (slice_index ws 15);
}

-- what reading answers
unfoldable pub itd_read : List ℕ → Result Itd Bad
itd_read ws = unless_bad (itd_bad ws) (itd_at ws)
