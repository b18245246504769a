use Rattle.std.proofs.Common.{ℕ, zero, suc, ◌+◌, ◌/◌, ◌≤◌, [], ◌∷◌, get_or, arith}
use Rattle.test_words.proofs.of_mem_bytes.around_the_seam.Goals as goal

up_to_two : (i : ℕ) → get_or (2 ∷ 0 ∷ []) i 0 ≤ 2
up_to_two (suc zero) = omega arith
up_to_two _ = omega arith

pub load-requires-clause-there : goal.load-requires-clause-there
load-requires-clause-there c i below = omega (arith, up_to_two ((4092 + i) / 4096))
