use Rattle.law_reports.proofs.lemmas.requests.AskedSampled.{cancelled_told, device_then, was_cancelled, cancelled_window}
use Rattle.law_reports.proofs.requests.asked_worked.a_cancelled_endpoint_is_told.Goals as goal

pub returns-clause-over : goal.returns-clause-over
returns-clause-over c = cancelled_told.0

pub returns-clause-device : goal.returns-clause-device
returns-clause-device c = device_then

pub returns-clause-cancelled : goal.returns-clause-cancelled
returns-clause-cancelled c = was_cancelled

pub returns-clause-window : goal.returns-clause-window
returns-clause-window c = cancelled_window

pub returns-clause-lines : goal.returns-clause-lines
returns-clause-lines c = cancelled_told.1

pub returns-clause-before : goal.returns-clause-before
returns-clause-before c = cancelled_told.2
