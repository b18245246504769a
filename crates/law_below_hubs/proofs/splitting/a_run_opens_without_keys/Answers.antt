use Rattle.law_below_hubs.specs.ControlAsks.{IsRequestAsk}
use Rattle.law_below_hubs.specs.HubsKeys.{IsOfKind}
use Rattle.law_below_hubs.specs.OutWork.{IsPut}
use Rattle.law_below_hubs.proofs.Opening.{opens_without_keys, opens_right}
use Rattle.law_below_hubs.proofs.splitting.a_run_opens_without_keys.Goals as goal

pub returns : goal.returns
returns c = record {
  keys = opens_without_keys;
  kind = λ k. opens_right (IsOfKind k);
  put = λ k. opens_right (IsPut k);
  request = λ r addr num. opens_right (IsRequestAsk r addr num);
}
