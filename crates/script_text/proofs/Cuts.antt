-- Cutting a text into lines, and a line into words.
use Rattle.std.proofs.Common.{◌≡◌, ℕ, ◌+◌, ◌<◌, ◌≤◌, Bool, List, [], ◌∷◌, length, take, drop, arith}
use Rattle.std.specs.List.{slice_split, position_or_len}
use Rattle.std.proofs.lemmas.List.Splits.{slice_split_none, slice_split_first}
use Rattle.std.proofs.lemmas.List.Sums.{fails_before_first}

-- where no element passes, the list is the one part
pub cut_none : (p : ℕ → Bool) (xs : List ℕ) → length xs ≤ position_or_len p xs → slice_split p xs ≡ xs ∷ []
cut_none p xs e = slice_split_none p xs (λ k d h. fails_before_first p xs k d (omega arith))

-- the part before the first element that passes, and the parts behind it
pub cut_some : (p : ℕ → Bool) (xs : List ℕ) (at : ℕ) → at ≡ position_or_len p xs → at < length xs → slice_split p xs ≡ take at xs ∷ slice_split p (drop (at + 1) xs)
cut_some p xs at e h = let g : position_or_len p xs < length xs = omega arith in rw e (slice_split_first p xs 0 g)
