use Rattle.law_world.proofs.lemmas.streams.lemmas.right_reports.Right.{report_is_right}
use Rattle.law_world.proofs.streams.right_reports.laws.report_is_right.Goals as goal

pub returns : goal.returns
returns c = report_is_right
