use Rattle.law_translated.proofs.HubCalls.{hub_work_by_key}
use Rattle.law_translated.proofs.slots.hub_work_by_key.Goals as goal

pub returns : goal.returns
returns g c = hub_work_by_key g.W.Wire.transacts
