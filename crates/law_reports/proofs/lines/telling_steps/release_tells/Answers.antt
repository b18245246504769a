use Rattle.law_reports.proofs.lemmas.lines.ToldGoes.{release_tells}
use Rattle.law_reports.proofs.lines.telling_steps.release_tells.Goals as goal

pub returns : goal.returns
returns c = release_tells
