use Rattle.law_reports.proofs.lemmas.pipes.lemmas.high_streams.Names.{beside_mixed}
use Rattle.law_reports.proofs.lemmas.pipes.lemmas.puts.Sampled.{beside_declares, beside_moments, beside_takers}
use Rattle.law_reports.proofs.pipes.puts_worked.a_script_sends_whole.Goals as goal

pub returns-clause-script : goal.returns-clause-script
returns-clause-script c = beside_mixed

pub returns-clause-declared : goal.returns-clause-declared
returns-clause-declared c = beside_declares

pub returns-clause-moments : goal.returns-clause-moments
returns-clause-moments c = beside_moments

pub returns-clause-takers : goal.returns-clause-takers
returns-clause-takers c = beside_takers
