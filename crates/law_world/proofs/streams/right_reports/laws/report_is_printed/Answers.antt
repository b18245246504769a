use Rattle.law_world.proofs.lemmas.streams.lemmas.right_reports.Printed.{report_is_printed}
use Rattle.law_world.proofs.streams.right_reports.laws.report_is_printed.Goals as goal

pub returns : goal.returns
returns c = report_is_printed
