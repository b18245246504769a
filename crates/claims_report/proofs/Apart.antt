-- What isn't alike.
use Rattle.std.proofs.Common.{◌≡◌, ℕ, inl, inr, List, [], ◌∷◌, length, slice_index, Option, Some, None, ap, arith}
use Rattle.claims_report.specs.Samples.{read_two, read_unknown}
use Rattle.claims_report.specs.Acts.{IsOnce}

-- the fourth byte of the first of some lists
abbrev fourth : List (List ℕ) → ℕ
fourth [] = 0
fourth (x ∷ xs) = slice_index x 3

pub other_setup : IsOnce read_unknown (read_two ∷ []) → ⊥
other_setup h = elim h [ inl e ↦ omega (arith, ap length e) | inr e ↦ omega (arith, ap fourth e) ]

abbrev number : Option ℕ → ℕ
number None = 0
number (Some n) = n

-- two numbers that are there
pub same_number : (k n : ℕ) → Some k ≡ Some n → k ≡ n
same_number k n e = ap number e
