-- One entry's work in numbers: a byte-times are placed from microframe s on, its starts call for c, d were worked, and g
-- microframes brought no part; v is the present microframe.
use Rattle.std.proofs.Common.{◌≡◌, ℕ, ◌+◌, ◌-◌, ◌*◌, ◌<◌, ◌≤◌, min, inl, inr, arith}
use Rattle.std.proofs.lemmas.Bool.{cases_lt}

-- before its turn
pub record Ready (a s v c d g : ℕ) : Type 0 where
  pub below : d ≤ c
  pub kept : min (min a (188 * (v - 1 - s))) (c + 188 * g) ≤ d + 188 * g
  pub fits : d < c → c + 188 * g ≤ a

-- after it
pub record Done (a s v c d g : ℕ) : Type 0 where
  pub below : d ≤ c
  pub kept : min (min a (188 * (v - s))) (c + 188 * g) ≤ d + 188 * g

pub ready_even : (a s v c d g : ℕ) → d ≡ c → Ready a s v c d g
ready_even a s v c d g e = record { below = omega arith; kept = omega arith; fits = λ less. absurd (omega arith) }

enough : (a s v c d g room : ℕ) → d < c → min (min a (188 * (v - 1 - s))) (c + 188 * g) ≤ d + 188 * g → min a (188 * (v - s)) - min a (188 * (v - 1 - s)) ≤ room → min (min a (188 * (v - s))) (c + 188 * g) ≤ d + min room (c - d) + 188 * g
enough a s v c d g room less kept fits = omega arith

pub work_one : (a s v c d g room : ℕ) → Ready a s v c d g → min a (188 * (v - s)) - min a (188 * (v - 1 - s)) ≤ room → Done a s v c (d + min room (c - d)) g
work_one a s v c d g room ready fits =
    elim (cases_lt d c) [
      | inl less ↦ record { below = omega arith; kept = enough a s v c d g room less ready.kept fits }
      | inr most ↦ record { below = omega (arith, ready.below); kept = omega (arith, ready.below) }
    ]

some_used : (a s v c d g room : ℕ) → d < c → c + 188 * g ≤ a → min (min a (188 * (v - 1 - s))) (c + 188 * g) ≤ d + 188 * g → a ≤ min a (188 * (v - s)) → min room (c - d) ≤ min a (188 * (v - s)) - min a (188 * (v - 1 - s))
some_used a s v c d g room less fits kept whole = omega arith

pub work_used : (a s v c d g room : ℕ) → Ready a s v c d g → a ≤ min a (188 * (v - s)) → min room (c - d) ≤ min a (188 * (v - s)) - min a (188 * (v - 1 - s))
work_used a s v c d g room ready whole =
    elim (cases_lt d c) [
      | inl less ↦ some_used a s v c d g room less (ready.fits less) ready.kept whole
      | inr most ↦ omega arith
    ]

pub even_more : (a s v c d g : ℕ) → Done a s v c d g → c + 188 * g ≡ 188 * (v - s) → c + 188 * g ≤ a → d ≡ c
even_more a s v c d g done e fits = omega (arith, done.below, done.kept)

pub even_same : (c d room : ℕ) → d ≡ c → d + min room (c - d) ≡ c
even_same c d room e = omega arith
