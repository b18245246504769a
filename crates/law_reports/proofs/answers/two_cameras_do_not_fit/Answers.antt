use Rattle.law_reports.proofs.lemmas.answers.PlacingSamples.{cameras_do_not_fit}
use Rattle.law_reports.proofs.answers.two_cameras_do_not_fit.Goals as goal

pub returns : goal.returns
returns c = cameras_do_not_fit
