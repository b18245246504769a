use Rattle.law_queues.proofs.lemmas.commanded_queues.Tails.{reaches_open, reaches_asked}
use Rattle.law_queues.proofs.commanded_queues.laws.commands_leave_tails.Goals as goal

pub returns-clause-opened : goal.returns-clause-opened
returns-clause-opened c = reaches_open

pub returns-clause-asked : goal.returns-clause-asked
returns-clause-asked c = reaches_asked
