use Rattle.law_reports.proofs.lemmas.lines.ToldLends.{lend_telling}
use Rattle.law_reports.proofs.lines.telling_steps.lend_tells.Goals as goal

pub returns : goal.returns
returns c = lend_telling
