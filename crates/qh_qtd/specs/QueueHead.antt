-- The queue head (EHCI 1.0, 3.6), word by word.
use Rattle.std.specs.Prelude.{ℕ, List, [], ◌∷◌, Option, Result, slice_index}
use Rattle.link_words.specs.declared.refusal.Bad.{Bad}
use Rattle.link_words.specs.Layout.{BitRow, Number, Flag, Address, Gap, Free, Above, within, words_of, IsInRange, bits, is_set, high_bits, first_bad, unless_bad}
use Rattle.link_words.specs.Fields.{link_rows, link_at, short_link_rows, short_link_at, page_rows}
use Rattle.qh_qtd.specs.declared.queue_head.Qh.{Qh}
use Rattle.qh_qtd.specs.Token.{token_rows, token_at}

-- endpoint characteristics (3.6.2): speed 0 is full, 1 low, 2 high
abbrev pub characteristics_rows : List (BitRow Qh)
characteristics_rows =
    Number 31 28 Free (λ q. q.rl) ∷
    Flag 27 (λ q. q.control) ∷
    Number 26 16 (Above 0x400) (λ q. q.max) ∷
    Flag 15 (λ q. q.head) ∷
    Flag 14 (λ q. q.dtc) ∷
    Number 13 12 (Above 2) (λ q. q.eps) ∷
    Number 11 8 Free (λ q. q.ep) ∷
    Flag 7 (λ q. q.inactivate) ∷
    Number 6 0 Free (λ q. q.addr) ∷ []

-- endpoint capabilities (3.6.2)
abbrev pub capabilities_rows : List (BitRow Qh)
capabilities_rows =
    Number 31 30 Free (λ q. q.mult) ∷
    Number 29 23 Free (λ q. q.port) ∷
    Number 22 16 Free (λ q. q.hub) ∷
    Number 15 8 Free (λ q. q.cmask) ∷
    Number 7 0 Free (λ q. q.smask) ∷ []

-- the current descriptor (3.6.3)
abbrev pub current_rows : List (BitRow Qh)
current_rows = Address 5 (λ q. q.current) ∷ Gap 4 0 ∷ []

-- the overlay (3.6.3)
abbrev pub alternate_rows : List (BitRow Qh)
alternate_rows =
    Address 5 (λ q. q.alternate.address) ∷
    Number 4 1 Free (λ q. q.nak_cnt) ∷
    Flag 0 (λ q. q.alternate.t) ∷ []

abbrev pub offset_rows : List (BitRow Qh)
offset_rows =
    Number 31 12 Free (λ q. q.page0) ∷
    Number 11 0 Free (λ q. q.offset) ∷ []

abbrev pub progress_rows : List (BitRow Qh)
progress_rows =
    Number 31 12 Free (λ q. q.page1) ∷
    Gap 11 8 ∷
    Number 7 0 Free (λ q. q.c_prog) ∷ []

abbrev pub frame_rows : List (BitRow Qh)
frame_rows =
    Number 31 12 Free (λ q. q.page2) ∷
    Number 11 5 Free (λ q. q.s_bytes) ∷
    Number 4 0 Free (λ q. q.frame_tag) ∷ []

abbrev pub qh_layout : List (List (BitRow Qh))
qh_layout =
    within (λ q. q.link) link_rows ∷
    characteristics_rows ∷
    capabilities_rows ∷
    current_rows ∷
    within (λ q. q.next) short_link_rows ∷
    alternate_rows ∷
    within (λ q. q.token) token_rows ∷
    offset_rows ∷
    progress_rows ∷
    frame_rows ∷
    page_rows (λ q. q.page3) ∷
    page_rows (λ q. q.page4) ∷ []

-- each field is in its range
abbrev pub IsQhInRange : Qh → Type 0
IsQhInRange q = IsInRange qh_layout q

-- the twelve words
unfoldable pub qh_words : Qh → List ℕ
qh_words q = words_of qh_layout q

-- the first bit that breaks a row: a reserved bit that is 1, or the lowest bit of a reserved value
unfoldable pub qh_bad : List ℕ → Option Bad
qh_bad ws = first_bad qh_layout ws

-- the fields of twelve words, reserved values too
unfoldable pub qh_at : List ℕ → Qh
qh_at ws = record {
  link = link_at (slice_index ws 0);
  addr = bits 6 0 (slice_index ws 1);
  inactivate = is_set 7 (slice_index ws 1);
  ep = bits 11 8 (slice_index ws 1);
  eps = bits 13 12 (slice_index ws 1);
  dtc = is_set 14 (slice_index ws 1);
  head = is_set 15 (slice_index ws 1);
  max = bits 26 16 (slice_index ws 1);
  control = is_set 27 (slice_index ws 1);
  rl = bits 31 28 (slice_index ws 1);
  smask = bits 7 0 (slice_index ws 2);
  cmask = bits 15 8 (slice_index ws 2);
  hub = bits 22 16 (slice_index ws 2);
  port = bits 29 23 (slice_index ws 2);
  mult = bits 31 30 (slice_index ws 2);
  current = high_bits 5 (slice_index ws 3);
  next = short_link_at (slice_index ws 4);
  alternate = short_link_at (slice_index ws 5);
  nak_cnt = bits 4 1 (slice_index ws 5);
  token = token_at (slice_index ws 6);
  offset = bits 11 0 (slice_index ws 7);
  page0 = bits 31 12 (slice_index ws 7);
  c_prog = bits 7 0 (slice_index ws 8);
  page1 = bits 31 12 (slice_index ws 8);
  frame_tag = bits 4 0 (slice_index ws 9);
  s_bytes = bits 11 5 (slice_index ws 9);
  page2 = bits 31 12 (slice_index ws 9);
  page3 = bits 31 12 (slice_index ws 10);
  page4 = bits 31 12 (slice_index ws 11);
}

-- what reading answers
unfoldable pub qh_read : List ℕ → Result Qh Bad
qh_read ws = unless_bad (qh_bad ws) (qh_at ws)
