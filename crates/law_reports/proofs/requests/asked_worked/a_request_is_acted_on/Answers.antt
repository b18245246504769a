use Rattle.law_reports.proofs.lemmas.requests.AskedSampled.{begun, acts}
use Rattle.law_reports.proofs.requests.asked_worked.a_request_is_acted_on.Goals as goal

pub returns-clause-begun : goal.returns-clause-begun
returns-clause-begun c = begun

pub returns-clause-acted : goal.returns-clause-acted
returns-clause-acted c = acts
