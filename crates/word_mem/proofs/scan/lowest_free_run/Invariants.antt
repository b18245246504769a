use Rattle.std.proofs.Common.{◌+◌, ◌<◌, ℕ}
use Rattle.word_mem.specs.Free.{IsFreeRun}
use Rattle.word_mem.proofs.FreeTail.{IsFreeTail}
use Rattle.word_mem.proofs.scan.lowest_free_run.Given as goal

-- no run of n ends before the block, and the tail is shorter than n
abbrev pub invariant-loop-block : goal.invariant-loop-block
invariant-loop-block l =
    record {
      tail : IsFreeTail l.states l.block l.tail;
      short : l.tail < l.n;
      none : (other : ℕ) → IsFreeRun l.states other l.n → l.block < other + l.n;
    }
