use Rattle.law_reports.proofs.lemmas.requests.Gone.{first_ends}
use Rattle.law_reports.proofs.requests.queue_laws.first_ends.Goals as goal

pub returns : goal.returns
returns c = first_ends
