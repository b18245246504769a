use Rattle.law_queues.proofs.lemmas.leaving_drivers.Leaving.{bell_is_as_before, status_is_as_before, frame_is_as_before}
use Rattle.law_queues.proofs.leaving_drivers.before.the_doorbell_leaves_the_rest.Goals as goal

pub returns-clause-bell : goal.returns-clause-bell
returns-clause-bell c = bell_is_as_before

pub returns-clause-status : goal.returns-clause-status
returns-clause-status c = status_is_as_before

pub returns-clause-frame : goal.returns-clause-frame
returns-clause-frame c = frame_is_as_before
