use Rattle.law_queues.proofs.lemmas.told_endpoints.Tellings.{open_adds_endpoint}
use Rattle.law_queues.proofs.told_endpoints.laws.open_adds_endpoint.Goals as goal

pub returns : goal.returns
returns c = open_adds_endpoint
