use Rattle.law_queues.proofs.lemmas.harvest_laws.ReadRows.{harvest_row_is_told, wait_is_told}
use Rattle.law_queues.proofs.lemmas.harvest_laws.Requests.{other_harvest_is_told}
use Rattle.law_queues.proofs.harvest_laws.read_laws.the_row_of_a_harvest_is_told.Goals as goal

pub returns-clause-done : goal.returns-clause-done
returns-clause-done c = harvest_row_is_told

pub returns-clause-active : goal.returns-clause-active
returns-clause-active c = wait_is_told

pub returns-clause-other : goal.returns-clause-other
returns-clause-other c = other_harvest_is_told
