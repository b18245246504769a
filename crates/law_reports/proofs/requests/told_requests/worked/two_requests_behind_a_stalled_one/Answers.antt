use Rattle.law_reports.proofs.lemmas.requests.lemmas.told_requests.Sampled.{both_wait}
use Rattle.law_reports.proofs.requests.told_requests.worked.two_requests_behind_a_stalled_one.Goals as goal

pub returns-clause-waiting : goal.returns-clause-waiting
returns-clause-waiting c = both_wait.0

pub returns-clause-lines : goal.returns-clause-lines
returns-clause-lines c = both_wait.1

pub returns-clause-none_waits : goal.returns-clause-none_waits
returns-clause-none_waits c = both_wait.2
