use Rattle.law_queues.proofs.lemmas.mended_heads.Queues.{mend_leaves_front, mend_leaves_tail, mend_leaves_passed, mend_leaves_within, mend_leaves_rising}
use Rattle.law_queues.proofs.mended_heads.laws.it_leaves_fronts_and_tails.Goals as goal

pub returns : goal.returns
returns c = record {
  front = mend_leaves_front;
  tail = mend_leaves_tail;
  passed = mend_leaves_passed;
  within = mend_leaves_within;
  rising =
      mend_leaves_rising;
}
