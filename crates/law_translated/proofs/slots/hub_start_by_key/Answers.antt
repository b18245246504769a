use Rattle.law_translated.proofs.HubCalls.{hub_start_by_key}
use Rattle.law_translated.proofs.slots.hub_start_by_key.Goals as goal

pub returns : goal.returns
returns c = hub_start_by_key
