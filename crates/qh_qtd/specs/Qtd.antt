-- The queue element transfer descriptor (EHCI 1.0, 3.5), word by word.
use Rattle.std.specs.Prelude.{ℕ, List, [], ◌∷◌, Option, Result, slice_index}
use Rattle.link_words.specs.declared.refusal.Bad.{Bad}
use Rattle.link_words.specs.Layout.{BitRow, Number, Free, within, words_of, IsInRange, bits, first_bad, unless_bad}
use Rattle.link_words.specs.Fields.{short_link_rows, short_link_at, page_rows}
use Rattle.qh_qtd.specs.declared.qtd.Qtd.{Qtd}
use Rattle.qh_qtd.specs.Token.{token_rows, token_at}

-- the place in the first page (3.5.4)
abbrev pub buffer_rows : List (BitRow Qtd)
buffer_rows =
    Number 31 12 Free (λ q. q.page0) ∷
    Number 11 0 Free (λ q. q.offset) ∷ []

abbrev pub qtd_layout : List (List (BitRow Qtd))
qtd_layout =
    within (λ q. q.next) short_link_rows ∷
    within (λ q. q.alternate) short_link_rows ∷
    within (λ q. q.token) token_rows ∷
    buffer_rows ∷
    page_rows (λ q. q.page1) ∷
    page_rows (λ q. q.page2) ∷
    page_rows (λ q. q.page3) ∷
    page_rows (λ q. q.page4) ∷ []

-- each field is in its range
abbrev pub IsQtdInRange : Qtd → Type 0
IsQtdInRange q = IsInRange qtd_layout q

-- the eight words
unfoldable pub qtd_words : Qtd → List ℕ
qtd_words q = words_of qtd_layout q

-- the first bit that breaks a row: a reserved bit that is 1, or the lowest bit of a reserved value
unfoldable pub qtd_bad : List ℕ → Option Bad
qtd_bad ws = first_bad qtd_layout ws

-- the fields of eight words, reserved values too
unfoldable pub qtd_at : List ℕ → Qtd
qtd_at ws = record {
  next = short_link_at (slice_index ws 0);
  alternate = short_link_at (slice_index ws 1);
  token = token_at (slice_index ws 2);
  offset = bits 11 0 (slice_index ws 3);
  page0 = bits 31 12 (slice_index ws 3);
  page1 = bits 31 12 (slice_index ws 4);
  page2 = bits 31 12 (slice_index ws 5);
  page3 = bits 31 12 (slice_index ws 6);
  page4 = bits 31 12 (slice_index ws 7);
}

-- what reading answers
unfoldable pub qtd_read : List ℕ → Result Qtd Bad
qtd_read ws = unless_bad (qtd_bad ws) (qtd_at ws)
