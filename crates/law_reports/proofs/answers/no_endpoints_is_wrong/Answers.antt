use Rattle.law_reports.proofs.lemmas.answers.Seated.{no_endpoints_is_wrong}
use Rattle.law_reports.proofs.answers.no_endpoints_is_wrong.Goals as goal

pub returns : goal.returns
returns c = no_endpoints_is_wrong
