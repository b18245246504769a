use Rattle.law_world.proofs.lemmas.worked_streams.lemmas.small_receiver.Moments.{an_open}
use Rattle.law_world.proofs.worked_streams.small_receiver.worked.an_open.Goals as goal

pub returns-clause-accepted : goal.returns-clause-accepted
returns-clause-accepted c = an_open.0

pub returns-clause-none_made : goal.returns-clause-none_made
returns-clause-none_made c = an_open.1

pub returns-clause-to_lend : goal.returns-clause-to_lend
returns-clause-to_lend c = an_open.2

pub returns-clause-lent : goal.returns-clause-lent
returns-clause-lent c = an_open.3

pub returns-clause-one_made : goal.returns-clause-one_made
returns-clause-one_made c = an_open.4

pub returns-clause-to_link : goal.returns-clause-to_link
returns-clause-to_link c = an_open.5

pub returns-clause-linked : goal.returns-clause-linked
returns-clause-linked c = an_open.6
