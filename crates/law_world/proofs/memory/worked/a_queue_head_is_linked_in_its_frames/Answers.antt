use Rattle.law_world.proofs.lemmas.memory.SampledMoments.{a_queue_head}
use Rattle.law_world.proofs.memory.worked.a_queue_head_is_linked_in_its_frames.Goals as goal

pub returns-clause-accepted : goal.returns-clause-accepted
returns-clause-accepted c = a_queue_head.0

pub returns-clause-to_lend : goal.returns-clause-to_lend
returns-clause-to_lend c = a_queue_head.1

pub returns-clause-to_link : goal.returns-clause-to_link
returns-clause-to_link c = a_queue_head.2

pub returns-clause-nowhere : goal.returns-clause-nowhere
returns-clause-nowhere c = a_queue_head.3

pub returns-clause-element : goal.returns-clause-element
returns-clause-element c = a_queue_head.4

pub returns-clause-next_element : goal.returns-clause-next_element
returns-clause-next_element c = a_queue_head.5

pub returns-clause-linked : goal.returns-clause-linked
returns-clause-linked c = a_queue_head.6

pub returns-clause-last_element : goal.returns-clause-last_element
returns-clause-last_element c = a_queue_head.7
