-- Packets of worked rows: one of two bytes, and one of one.
use Rattle.std.specs.Prelude.{ℕ, List, [], ◌∷◌}

abbrev pub first : List ℕ
first = 1 ∷ 2 ∷ []

abbrev pub second : List ℕ
second = 3 ∷ []

abbrev pub packets : List (List ℕ)
packets = first ∷ second ∷ []
