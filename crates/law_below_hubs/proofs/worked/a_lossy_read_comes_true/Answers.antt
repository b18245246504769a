use Rattle.law_below_hubs.proofs.WorkedRequests.{hub_rests_first, answer_is_lost, is_after_microframe, works_first, loss_heard, acted_once, both_asked_breaks}
use Rattle.law_below_hubs.proofs.worked.a_lossy_read_comes_true.Goals as goal

pub returns : goal.returns
returns c = record {
  rests = hub_rests_first;
  lost = answer_is_lost;
  after = is_after_microframe;
  works = works_first;
  heard = loss_heard;
  once = acted_once;
  breaks = both_asked_breaks;
}
