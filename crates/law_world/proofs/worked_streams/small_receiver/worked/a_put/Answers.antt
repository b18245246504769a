use Rattle.law_world.proofs.lemmas.worked_streams.lemmas.small_receiver.Moments.{a_put}
use Rattle.law_world.proofs.worked_streams.small_receiver.worked.a_put.Goals as goal

pub returns-clause-asked : goal.returns-clause-asked
returns-clause-asked c = a_put.0

pub returns-clause-none_made : goal.returns-clause-none_made
returns-clause-none_made c = a_put.1

pub returns-clause-taken : goal.returns-clause-taken
returns-clause-taken c = a_put.2

pub returns-clause-written : goal.returns-clause-written
returns-clause-written c = a_put.3

pub returns-clause-to_lend : goal.returns-clause-to_lend
returns-clause-to_lend c = a_put.4

pub returns-clause-lent : goal.returns-clause-lent
returns-clause-lent c = a_put.5

pub returns-clause-one_made : goal.returns-clause-one_made
returns-clause-one_made c = a_put.6

pub returns-clause-last_store : goal.returns-clause-last_store
returns-clause-last_store c = a_put.7

pub returns-clause-published : goal.returns-clause-published
returns-clause-published c = a_put.8
