use Rattle.law_queues.proofs.lemmas.told_endpoints.Tellings.{adds_held, adds_bytes}
use Rattle.law_queues.proofs.told_endpoints.laws.harvests_add_bytes.Goals as goal

pub returns-clause-held : goal.returns-clause-held
returns-clause-held c = adds_held

pub returns-clause-told : goal.returns-clause-told
returns-clause-told c = adds_bytes
