-- The link fields of structures (EHCI 1.0, 3.3.1, 3.5.1 and 3.6.1): their rows, and what a word says there.
use Rattle.std.specs.Prelude.{ℕ, List, [], ◌∷◌}
use Rattle.link_words.specs.declared.fields.LinkBits.{LinkBits}
use Rattle.link_words.specs.declared.fields.ShortLink.{ShortLink}
use Rattle.link_words.specs.Layout.{BitRow, Number, Flag, Address, Gap, Free, bits, is_set, high_bits}

-- a link to a structure of any type
abbrev pub link_rows : List (BitRow LinkBits)
link_rows =
    Address 5 (λ l. l.address) ∷
    Gap 4 3 ∷
    Number 2 1 Free (λ l. l.typ) ∷
    Flag 0 (λ l. l.t) ∷ []

-- a link to a structure of one type
abbrev pub short_link_rows : List (BitRow ShortLink)
short_link_rows =
    Address 5 (λ l. l.address) ∷
    Gap 4 1 ∷
    Flag 0 (λ l. l.t) ∷ []

-- the fields of a word, whatever its reserved bits hold
abbrev pub link_at : ℕ → LinkBits
link_at w = record { t = is_set 0 w; typ = bits 2 1 w; address = high_bits 5 w }

abbrev pub short_link_at : ℕ → ShortLink
short_link_at w = record { t = is_set 0 w; address = high_bits 5 w }

-- a page of a buffer, alone in its word
abbrev pub page_rows : {A : Type 0} → (A → ℕ) → List (BitRow A)
page_rows page = Number 31 12 Free page ∷ Gap 11 0 ∷ []
