use Rattle.law_reports.proofs.lemmas.requests.lemmas.told_requests.Sampled.{refused}
use Rattle.law_reports.proofs.requests.told_requests.worked.a_request_is_refused.Goals as goal

pub returns-clause-over : goal.returns-clause-over
returns-clause-over c = refused.0

pub returns-clause-transfers : goal.returns-clause-transfers
returns-clause-transfers c = refused.1

pub returns-clause-told : goal.returns-clause-told
returns-clause-told c = refused.2

pub returns-clause-requests : goal.returns-clause-requests
returns-clause-requests c = refused.3

pub returns-clause-script : goal.returns-clause-script
returns-clause-script c = refused.4
