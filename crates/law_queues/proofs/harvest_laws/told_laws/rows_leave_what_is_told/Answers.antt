use Rattle.law_queues.proofs.lemmas.harvest_laws.Standing.{alike_is_told, met_is_told, returned_is_told}
use Rattle.law_queues.proofs.harvest_laws.told_laws.rows_leave_what_is_told.Goals as goal

pub returns-clause-alike : goal.returns-clause-alike
returns-clause-alike c = alike_is_told

pub returns-clause-met : goal.returns-clause-met
returns-clause-met c = met_is_told

pub returns-clause-returned : goal.returns-clause-returned
returns-clause-returned c = returned_is_told
