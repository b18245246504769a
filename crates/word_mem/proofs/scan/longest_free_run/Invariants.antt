use Rattle.std.proofs.Common.{◌≡◌, ◌+◌, ◌≤◌, ◌⊎◌, ℕ}
use Rattle.word_mem.specs.Free.{IsFreeRun}
use Rattle.word_mem.proofs.FreeTail.{IsFreeTail}
use Rattle.word_mem.proofs.scan.longest_free_run.Given as goal

-- the best is the length of a run, and no run that ends before the block is longer
abbrev pub invariant-loop-block : goal.invariant-loop-block
invariant-loop-block l =
    record {
      tail : IsFreeTail l.states l.block l.tail;
      there : (l.best ≡ 0) ⊎ ((first : ℕ) × IsFreeRun l.states first l.best);
      best : (first other : ℕ) → IsFreeRun l.states first other → first + other ≤ l.block → other ≤ l.best;
    }
