use Rattle.law_reports.proofs.lemmas.pipes.lemmas.high_streams.Names.{beside_mixed, beside_names}
use Rattle.law_reports.proofs.pipes.reports_worked.the_premises_beside_a_keyboard.Goals as goal

pub returns-clause-script : goal.returns-clause-script
returns-clause-script c = beside_mixed

pub returns-clause-names : goal.returns-clause-names
returns-clause-names c = beside_names
