use Rattle.law_reports.proofs.lemmas.answers.PlacingSamples.{keyboards_fit}
use Rattle.law_reports.proofs.answers.two_keyboards_fit.Goals as goal

pub returns : goal.returns
returns c = keyboards_fit
