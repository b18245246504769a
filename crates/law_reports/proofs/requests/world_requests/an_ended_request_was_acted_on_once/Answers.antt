use Rattle.law_reports.proofs.lemmas.requests.lemmas.world_requests.Turning.{world_ended}
use Rattle.law_reports.proofs.requests.world_requests.an_ended_request_was_acted_on_once.Goals as goal

pub returns : goal.returns
returns c = world_ended
