use Rattle.law_reports.proofs.lemmas.pipes.lemmas.puts.Sampled.{working_sent, halted_sent, short_not_sent}
use Rattle.law_reports.proofs.pipes.puts_worked.queues_are_sent_whole.Goals as goal

pub returns-clause-working : goal.returns-clause-working
returns-clause-working c = working_sent

pub returns-clause-halted : goal.returns-clause-halted
returns-clause-halted c = halted_sent

pub returns-clause-short : goal.returns-clause-short
returns-clause-short c = short_not_sent
