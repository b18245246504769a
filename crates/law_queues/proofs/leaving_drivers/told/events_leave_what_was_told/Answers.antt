use Rattle.law_queues.proofs.lemmas.leaving_drivers.Telling.{events_leave_told, events_only_tell}
use Rattle.law_queues.proofs.leaving_drivers.told.events_leave_what_was_told.Goals as goal

pub returns-clause-leave : goal.returns-clause-leave
returns-clause-leave c = events_leave_told

pub returns-clause-only : goal.returns-clause-only
returns-clause-only c = events_only_tell
