use Rattle.law_reports.proofs.lemmas.answers.Seated.{a_hub_is_seated}
use Rattle.law_reports.proofs.answers.a_hub_is_seated.Goals as goal

pub returns : goal.returns
returns c = a_hub_is_seated
