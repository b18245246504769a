use Rattle.std.proofs.Common.{arith}
use Rattle.word_mem.proofs.FreeTail.{run_within, longest_more, tail_next, tail_reached}
use Rattle.word_mem.proofs.scan.longest_free_run.Goals as goal
use Rattle.word_mem.proofs.scan.longest_free_run.Goals.{then-best-tail, else-best-tail}

pub loop-block-preserved : goal.loop-block-preserved
loop-block-preserved c =
    let tail = tail_next _ _ _ _ c.loop-block.invariant.tail c.free_tail-tail.ensures.goes_on c.free_tail-tail.ensures.begins c.free_tail-tail.ensures.ends in
    elim c.if-best-tail.branch [
      | then-best-tail w ↦
          record {
            tail = tail;
            there = rw w.best-is (tail_reached _ _ _ tail);
            best = longest_more _ _ _ _ _ tail (omega arith) (omega arith) c.loop-block.invariant.best;
          }
      | else-best-tail w ↦
          record {
            tail = tail;
            there = rw w.best-is c.loop-block.invariant.there;
            best = longest_more _ _ _ _ _ tail (omega arith) (omega arith) c.loop-block.invariant.best;
          }
    ]

pub returns : goal.returns
returns c =
    record {
      there = c.loop-block.invariant.there;
      longest = λ first other run. c.loop-block.invariant.best first other run (omega (arith, run_within _ _ _ run));
    }
