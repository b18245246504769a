use Rattle.law_reports.proofs.lemmas.lines.ToldMends.{mend_telling}
use Rattle.law_reports.proofs.lines.telling_steps.mend_tells.Goals as goal

pub returns : goal.returns
returns c = mend_telling
