use Rattle.law_world.proofs.lemmas.streams.lemmas.sending_worlds.ReportSampling.{unopened, takers, takes, sent, others, unsent}
use Rattle.law_world.proofs.streams.sending_worlds.report_worked.a_run_of_two_puts.Goals as goal

pub returns-clause-before : goal.returns-clause-before
returns-clause-before c = unopened.0

pub returns-clause-unopened : goal.returns-clause-unopened
returns-clause-unopened c = unopened.1

pub returns-clause-takers : goal.returns-clause-takers
returns-clause-takers c = takers

pub returns-clause-takes : goal.returns-clause-takes
returns-clause-takes c = takes

pub returns-clause-closing : goal.returns-clause-closing
returns-clause-closing c = sent.0

pub returns-clause-sent : goal.returns-clause-sent
returns-clause-sent c = sent.1

pub returns-clause-others : goal.returns-clause-others
returns-clause-others c = others

pub returns-clause-unsent : goal.returns-clause-unsent
returns-clause-unsent c = unsent
