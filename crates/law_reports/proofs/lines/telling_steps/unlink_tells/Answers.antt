use Rattle.law_reports.proofs.lemmas.lines.ToldStays.{unlink_telling}
use Rattle.law_reports.proofs.lines.telling_steps.unlink_tells.Goals as goal

pub returns : goal.returns
returns c = unlink_telling
