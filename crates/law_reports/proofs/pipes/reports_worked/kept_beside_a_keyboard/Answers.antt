use Rattle.law_reports.proofs.lemmas.pipes.lemmas.high_streams.Kept.{beside_kept}
use Rattle.law_reports.proofs.pipes.reports_worked.kept_beside_a_keyboard.Goals as goal

pub returns : goal.returns
returns c = beside_kept
