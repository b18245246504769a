use Rattle.law_below_hubs.specs.ControlAsks.{IsRequestAsk}
use Rattle.law_below_hubs.specs.HubsKeys.{IsOfKind}
use Rattle.law_below_hubs.specs.OutWork.{IsPut}
use Rattle.law_below_hubs.proofs.Kept.{transactions_keep_right}
use Rattle.law_below_hubs.proofs.work.transactions_keep_asks_of_their_kind.Goals as goal

pub returns : goal.returns
returns c = record {
  kind = λ k. transactions_keep_right (IsOfKind k);
  put = λ k. transactions_keep_right (IsPut k);
  request = λ r addr num. transactions_keep_right (IsRequestAsk r addr num);
}
