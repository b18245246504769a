use Rattle.law_below_hubs.specs.ControlAsks.{IsRequestAsk}
use Rattle.law_below_hubs.specs.HubsKeys.{IsOfKind}
use Rattle.law_below_hubs.specs.OutWork.{IsPut}
use Rattle.law_below_hubs.proofs.RightAsks.{keeps_right, works_rightly}
use Rattle.law_below_hubs.proofs.work.asks_are_of_their_kind.Goals as goal

pub returns : goal.returns
returns g c = record {
  keeps = λ k. keeps_right (IsOfKind k);
  work = λ k. works_rightly (IsOfKind k) g.W.Wire.transacts;
  put_keeps = λ k. keeps_right (IsPut k);
  put_work = λ k. works_rightly (IsPut k) g.W.Wire.transacts;
  request_keeps = λ r addr num. keeps_right (IsRequestAsk r addr num);
  request_work = λ r addr num. works_rightly (IsRequestAsk r addr num) g.W.Wire.transacts;
}
