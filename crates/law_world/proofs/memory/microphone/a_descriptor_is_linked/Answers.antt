use Rattle.law_world.proofs.lemmas.memory.MicrophoneMoments.{a_descriptor}
use Rattle.law_world.proofs.memory.microphone.a_descriptor_is_linked.Goals as goal

pub returns-clause-accepted : goal.returns-clause-accepted
returns-clause-accepted c = a_descriptor.0

pub returns-clause-gets_a_frame : goal.returns-clause-gets_a_frame
returns-clause-gets_a_frame c = a_descriptor.1

pub returns-clause-to_lend : goal.returns-clause-to_lend
returns-clause-to_lend c = a_descriptor.2

pub returns-clause-to_link : goal.returns-clause-to_link
returns-clause-to_link c = a_descriptor.3

pub returns-clause-linked : goal.returns-clause-linked
returns-clause-linked c = a_descriptor.4

pub returns-clause-element : goal.returns-clause-element
returns-clause-element c = a_descriptor.5

pub returns-clause-ends : goal.returns-clause-ends
returns-clause-ends c = a_descriptor.6
