use Rattle.std.proofs.Common.{◌≡◌, ℕ, ◌*◌, ◌≤◌, ◌<◌}
use Rattle.drv_endpoints.specs.Working.{bit_of}
use Rattle.drv_endpoints.proofs.bits.first_from_word.Given as goal

abbrev pub invariant-loop-word : goal.invariant-loop-word
invariant-loop-word l = (k : ℕ) → 64 * l.from ≤ k → k < 64 * l.word → bit_of l.words k ≡ 0
