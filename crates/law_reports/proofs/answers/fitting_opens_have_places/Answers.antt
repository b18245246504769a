use Rattle.law_reports.proofs.lemmas.answers.Placing.{fitting_opens_have_places}
use Rattle.law_reports.proofs.answers.fitting_opens_have_places.Goals as goal

pub returns : goal.returns
returns c = fitting_opens_have_places
