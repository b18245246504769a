use Rattle.law_queues.proofs.lemmas.leaving_drivers.Telling.{commands_leave_told, commands_only_tell}
use Rattle.law_queues.proofs.leaving_drivers.told.commands_leave_what_was_told.Goals as goal

pub returns-clause-leave : goal.returns-clause-leave
returns-clause-leave c = commands_leave_told

pub returns-clause-only : goal.returns-clause-only
returns-clause-only c = commands_only_tell
