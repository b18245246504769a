use Rattle.law_queues.proofs.lemmas.commanded_queues.Extending.{extents_open, extents_asked}
use Rattle.law_queues.proofs.commanded_queues.laws.commands_leave_extents.Goals as goal

pub returns-clause-opened : goal.returns-clause-opened
returns-clause-opened c = extents_open

pub returns-clause-asked : goal.returns-clause-asked
returns-clause-asked c = extents_asked
