use Rattle.law_reports.proofs.lemmas.lines.ToldReturns.{return_telling}
use Rattle.law_reports.proofs.lines.telling_steps.return_tells.Goals as goal

pub returns : goal.returns
returns c = return_telling
