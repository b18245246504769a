use Rattle.law_reports.proofs.lemmas.requests.lemmas.told_requests.Growing.{transfer_adds_window, event_keeps_windows, command_keeps_told, acts_may_grow}
use Rattle.law_reports.proofs.requests.told_requests.laws.windows_of_a_driver_grow.Goals as goal

pub returns-clause-transfer : goal.returns-clause-transfer
returns-clause-transfer c = transfer_adds_window

pub returns-clause-event : goal.returns-clause-event
returns-clause-event c = event_keeps_windows

pub returns-clause-command : goal.returns-clause-command
returns-clause-command c = command_keeps_told

pub returns-clause-acts : goal.returns-clause-acts
returns-clause-acts c = acts_may_grow
