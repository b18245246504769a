use Rattle.law_reports.proofs.lemmas.quiet.Rows.{answers_count_none}
use Rattle.law_reports.proofs.quiet.answers_count_none.Goals as goal

pub returns : goal.returns
returns c = answers_count_none
