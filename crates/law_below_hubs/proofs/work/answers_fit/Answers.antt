use Rattle.law_below_hubs.proofs.ControlFits.{answers_fit}
use Rattle.law_below_hubs.proofs.work.answers_fit.Goals as goal

pub returns : goal.returns
returns c = answers_fit
