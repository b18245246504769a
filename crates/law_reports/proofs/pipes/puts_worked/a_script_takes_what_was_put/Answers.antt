use Rattle.law_reports.proofs.lemmas.pipes.lemmas.puts.Sampled.{beside_paid, beside_begins}
use Rattle.law_reports.proofs.pipes.puts_worked.a_script_takes_what_was_put.Goals as goal

pub returns-clause-moments : goal.returns-clause-moments
returns-clause-moments c = beside_paid

pub returns-clause-begins : goal.returns-clause-begins
returns-clause-begins c = beside_begins
