use Rattle.law_queues.proofs.lemmas.mended_heads.Queues.{mend_leaves_met, mend_leaves_ends, mend_leaves_fed, mend_leaves_last, mend_leaves_out}
use Rattle.law_queues.proofs.mended_heads.laws.it_leaves_the_queues.Goals as goal

pub returns : goal.returns
returns c = record {
  met = mend_leaves_met;
  streams = mend_leaves_ends;
  fed = mend_leaves_fed;
  last = mend_leaves_last;
  outs =
      mend_leaves_out;
}
