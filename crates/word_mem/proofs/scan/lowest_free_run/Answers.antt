use Rattle.std.proofs.Common.{arith}
use Rattle.word_mem.proofs.FreeTail.{run_within, lowest_more, tail_next}
use Rattle.word_mem.proofs.scan.lowest_free_run.Goals as goal

pub loop-block-preserved : goal.loop-block-preserved
loop-block-preserved c =
    let tail = tail_next _ _ _ _ c.loop-block.invariant.tail c.free_tail-tail.ensures.goes_on c.free_tail-tail.ensures.begins c.free_tail-tail.ensures.ends in
    record {
      tail = tail;
      short = omega (arith, tail.short, c.loop-block.invariant.short);
      none = lowest_more _ _ _ _ tail (omega arith) c.loop-block.invariant.none;
    }

pub returns-clause-place : goal.returns-clause-place
returns-clause-place c = λ first run. omega (arith, c.loop-block.invariant.none first run, run_within _ _ _ run)
