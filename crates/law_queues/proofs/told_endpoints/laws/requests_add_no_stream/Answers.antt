use Rattle.law_queues.proofs.lemmas.told_endpoints.Tellings.{requests_add_no_stream}
use Rattle.law_queues.proofs.told_endpoints.laws.requests_add_no_stream.Goals as goal

pub returns : goal.returns
returns c = requests_add_no_stream
