use Rattle.law_reports.proofs.lemmas.answers.Seated.{bus_has_endpoints}
use Rattle.law_reports.proofs.answers.bus_has_endpoints.Goals as goal

pub returns : goal.returns
returns c = bus_has_endpoints
