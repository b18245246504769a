use Rattle.law_queues.proofs.lemmas.harvest_laws.Standing.{refused_is_told}
use Rattle.law_queues.proofs.lemmas.harvest_laws.Commanding.{opened_is_told, asked_is_told, requested_is_told}
use Rattle.law_queues.proofs.harvest_laws.told_laws.commands_leave_what_is_told.Goals as goal

pub returns-clause-refused : goal.returns-clause-refused
returns-clause-refused c = refused_is_told

pub returns-clause-opened : goal.returns-clause-opened
returns-clause-opened c = opened_is_told

pub returns-clause-asked : goal.returns-clause-asked
returns-clause-asked c = asked_is_told

pub returns-clause-requested : goal.returns-clause-requested
returns-clause-requested c = requested_is_told
