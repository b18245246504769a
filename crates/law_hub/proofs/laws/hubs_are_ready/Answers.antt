use Rattle.std.proofs.Common.{refl}
use Rattle.law_hub.proofs.Ready.{requested_ready, answered_ready, acked_ready, transacted_ready, worked_ready}
use Rattle.law_hub.proofs.laws.hubs_are_ready.Goals as goal

pub returns : goal.returns
returns g c = record {
  opened = λ text. record { max = refl; naks = refl };
  by_request = requested_ready;
  by_answer = answered_ready;
  by_acknowledgement = acked_ready;
  by_split = transacted_ready;
  by_work = worked_ready g.W.Wire.transacts;
}
