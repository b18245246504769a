use Rattle.law_world.proofs.lemmas.worked_streams.lemmas.small_receiver.Moments.{a_get}
use Rattle.law_world.proofs.worked_streams.small_receiver.worked.a_get.Goals as goal

pub returns-clause-asked : goal.returns-clause-asked
returns-clause-asked c = a_get.0

pub returns-clause-none_made : goal.returns-clause-none_made
returns-clause-none_made c = a_get.1

pub returns-clause-taken : goal.returns-clause-taken
returns-clause-taken c = a_get.2

pub returns-clause-to_lend : goal.returns-clause-to_lend
returns-clause-to_lend c = a_get.3

pub returns-clause-lent : goal.returns-clause-lent
returns-clause-lent c = a_get.4

pub returns-clause-one_made : goal.returns-clause-one_made
returns-clause-one_made c = a_get.5

pub returns-clause-first_store : goal.returns-clause-first_store
returns-clause-first_store c = a_get.6

pub returns-clause-last_store : goal.returns-clause-last_store
returns-clause-last_store c = a_get.7

pub returns-clause-published : goal.returns-clause-published
returns-clause-published c = a_get.8
