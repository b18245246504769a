use Rattle.law_driver.proofs.lemmas.chained_transfers.WorkedRequests.{request_owners, request_turns}
use Rattle.law_driver.proofs.chained_transfers.worked.a_stalled_driver_takes_turns.Goals as goal

pub returns : goal.returns
returns c = record { owners = request_owners; turns = request_turns }
