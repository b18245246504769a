use Rattle.law_reports.proofs.lemmas.requests.lemmas.told_requests.Driver.{done_is_told, halt_is_told}
use Rattle.law_reports.proofs.requests.told_requests.laws.a_driver_tells_of_a_request.Goals as goal

pub returns-clause-done : goal.returns-clause-done
returns-clause-done c = done_is_told

pub returns-clause-halted : goal.returns-clause-halted
returns-clause-halted c = halt_is_told
