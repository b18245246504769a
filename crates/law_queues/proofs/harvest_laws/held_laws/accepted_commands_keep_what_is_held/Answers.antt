use Rattle.law_queues.proofs.lemmas.harvest_laws.Opening.{open_holds}
use Rattle.law_queues.proofs.lemmas.harvest_laws.Asking.{asked_holds, requested_holds}
use Rattle.law_queues.proofs.harvest_laws.held_laws.accepted_commands_keep_what_is_held.Goals as goal

pub returns-clause-open : goal.returns-clause-open
returns-clause-open c = open_holds

pub returns-clause-asked : goal.returns-clause-asked
returns-clause-asked c = asked_holds

pub returns-clause-requested : goal.returns-clause-requested
returns-clause-requested c = requested_holds
