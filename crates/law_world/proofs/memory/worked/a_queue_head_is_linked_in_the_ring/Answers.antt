use Rattle.law_world.proofs.lemmas.memory.SampledMoments.{a_second}
use Rattle.law_world.proofs.memory.worked.a_queue_head_is_linked_in_the_ring.Goals as goal

pub returns-clause-accepted : goal.returns-clause-accepted
returns-clause-accepted c = a_second.0

pub returns-clause-not_yet : goal.returns-clause-not_yet
returns-clause-not_yet c = a_second.1

pub returns-clause-to_link : goal.returns-clause-to_link
returns-clause-to_link c = a_second.2

pub returns-clause-linked : goal.returns-clause-linked
returns-clause-linked c = a_second.3

pub returns-clause-head : goal.returns-clause-head
returns-clause-head c = a_second.4

pub returns-clause-back : goal.returns-clause-back
returns-clause-back c = a_second.5
