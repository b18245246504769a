use Rattle.law_reports.proofs.lemmas.requests.lemmas.told_requests.Asking.{event_keeps_requests, command_takes_requests}
use Rattle.law_reports.proofs.lemmas.requests.lemmas.told_requests.Moments.{tick_takes_requests, asks_stay}
use Rattle.law_reports.proofs.requests.told_requests.laws.a_command_takes_its_request.Goals as goal

pub returns-clause-event : goal.returns-clause-event
returns-clause-event c = event_keeps_requests

pub returns-clause-command : goal.returns-clause-command
returns-clause-command c = command_takes_requests

pub returns-clause-tick : goal.returns-clause-tick
returns-clause-tick c = tick_takes_requests

pub returns-clause-stay : goal.returns-clause-stay
returns-clause-stay c = asks_stay
