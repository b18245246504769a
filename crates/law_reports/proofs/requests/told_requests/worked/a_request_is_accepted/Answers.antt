use Rattle.law_reports.proofs.lemmas.requests.lemmas.told_requests.Sampled.{accepted}
use Rattle.law_reports.proofs.requests.told_requests.worked.a_request_is_accepted.Goals as goal

pub returns-clause-transfers : goal.returns-clause-transfers
returns-clause-transfers c = accepted.0

pub returns-clause-requests : goal.returns-clause-requests
returns-clause-requests c = accepted.1

pub returns-clause-windows : goal.returns-clause-windows
returns-clause-windows c = accepted.2

pub returns-clause-taken : goal.returns-clause-taken
returns-clause-taken c = accepted.3

pub returns-clause-script : goal.returns-clause-script
returns-clause-script c = accepted.4
