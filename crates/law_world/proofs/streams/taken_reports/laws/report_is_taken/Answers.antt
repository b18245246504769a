use Rattle.law_world.proofs.lemmas.streams.lemmas.taken_reports.Telling.{report_is_taken}
use Rattle.law_world.proofs.streams.taken_reports.laws.report_is_taken.Goals as goal

pub returns : goal.returns
returns c = report_is_taken
