-- The split-transaction isochronous transfer descriptor (EHCI 1.0, 3.4), word by word.
use Rattle.std.specs.Prelude.{ℕ, List, [], ◌∷◌, Option, Result, slice_index}
use Rattle.link_words.specs.declared.refusal.Bad.{Bad}
use Rattle.link_words.specs.Layout.{BitRow, Number, Flag, Gap, Free, within, words_of, IsInRange, bits, is_set, first_bad, unless_bad}
use Rattle.link_words.specs.Fields.{link_rows, link_at, short_link_rows, short_link_at}
use Rattle.itd_sitd.specs.declared.sitd.Sitd.{Sitd}

-- endpoint capabilities and characteristics (3.4.2)
abbrev pub endpoint_rows : List (BitRow Sitd)
endpoint_rows =
    Flag 31 (λ v. v.dir_in) ∷
    Number 30 24 Free (λ v. v.port) ∷
    Gap 23 23 ∷
    Number 22 16 Free (λ v. v.hub) ∷
    Gap 15 12 ∷
    Number 11 8 Free (λ v. v.ep) ∷
    Gap 7 7 ∷
    Number 6 0 Free (λ v. v.addr) ∷ []

-- the microframe schedule (3.4.2)
abbrev pub mask_rows : List (BitRow Sitd)
mask_rows =
    Gap 31 16 ∷
    Number 15 8 Free (λ v. v.cmask) ∷
    Number 7 0 Free (λ v. v.smask) ∷ []

-- the transfer state (3.4.3)
abbrev pub state_rows : List (BitRow Sitd)
state_rows =
    Flag 31 (λ v. v.ioc) ∷
    Flag 30 (λ v. v.page_select) ∷
    Gap 29 26 ∷
    Number 25 16 Free (λ v. v.total) ∷
    Number 15 8 Free (λ v. v.c_prog) ∷
    Flag 7 (λ v. v.active) ∷
    Flag 6 (λ v. v.err) ∷
    Flag 5 (λ v. v.buffer_error) ∷
    Flag 4 (λ v. v.babble) ∷
    Flag 3 (λ v. v.xact_err) ∷
    Flag 2 (λ v. v.missed) ∷
    Flag 1 (λ v. v.split_state) ∷
    Gap 0 0 ∷ []

-- the buffer pointers (3.4.4): transaction position 0 is all, 1 begin, 2 mid, 3 end
abbrev pub offset_rows : List (BitRow Sitd)
offset_rows =
    Number 31 12 Free (λ v. v.page0) ∷
    Number 11 0 Free (λ v. v.offset) ∷ []

abbrev pub position_rows : List (BitRow Sitd)
position_rows =
    Number 31 12 Free (λ v. v.page1) ∷
    Gap 11 5 ∷
    Number 4 3 Free (λ v. v.tp) ∷
    Number 2 0 Free (λ v. v.t_count) ∷ []

abbrev pub sitd_layout : List (List (BitRow Sitd))
sitd_layout =
    within (λ v. v.link) link_rows ∷
    endpoint_rows ∷
    mask_rows ∷
    state_rows ∷
    offset_rows ∷
    position_rows ∷
    within (λ v. v.back) short_link_rows ∷ []

-- each field is in its range
abbrev pub IsSitdInRange : Sitd → Type 0
IsSitdInRange v = IsInRange sitd_layout v

-- the seven words
unfoldable pub sitd_words : Sitd → List ℕ
sitd_words v = words_of sitd_layout v

-- the first bit that breaks a row: a reserved bit that is 1
unfoldable pub sitd_bad : List ℕ → Option Bad
sitd_bad ws = first_bad sitd_layout ws

-- the fields of seven words, whatever their reserved bits hold
unfoldable pub sitd_at : List ℕ → Sitd
sitd_at ws = record {
  link = link_at (slice_index ws 0);
  addr = bits 6 0 (slice_index ws 1);
  ep = bits 11 8 (slice_index ws 1);
  hub = bits 22 16 (slice_index ws 1);
  port = bits 30 24 (slice_index ws 1);
  dir_in = is_set 31 (slice_index ws 1);
  smask = bits 7 0 (slice_index ws 2);
  cmask = bits 15 8 (slice_index ws 2);
  split_state = is_set 1 (slice_index ws 3);
  missed = is_set 2 (slice_index ws 3);
  xact_err = is_set 3 (slice_index ws 3);
  babble = is_set 4 (slice_index ws 3);
  buffer_error = is_set 5 (slice_index ws 3);
  err = is_set 6 (slice_index ws 3);
  active = is_set 7 (slice_index ws 3);
  c_prog = bits 15 8 (slice_index ws 3);
  total = bits 25 16 (slice_index ws 3);
  page_select = is_set 30 (slice_index ws 3);
  ioc = is_set 31 (slice_index ws 3);
  offset = bits 11 0 (slice_index ws 4);
  page0 = bits 31 12 (slice_index ws 4);
  t_count = bits 2 0 (slice_index ws 5);
  tp = bits 4 3 (slice_index ws 5);
  page1 = bits 31 12 (slice_index ws 5);
  back = short_link_at (slice_index ws 6);
}

-- what reading answers
unfoldable pub sitd_read : List ℕ → Result Sitd Bad
sitd_read ws = unless_bad (sitd_bad ws) (sitd_at ws)
