use Rattle.law_translated.proofs.HubCalls.{hub_clear_by_key}
use Rattle.law_translated.proofs.slots.hub_clear_by_key.Goals as goal

pub returns : goal.returns
returns c = hub_clear_by_key
