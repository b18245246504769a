use Rattle.law_frames.proofs.QueueStepStepping.{copied_event}
use Rattle.law_frames.proofs.queue_step_laws.each_event_at_a_queue_head.Goals as goal

pub returns : goal.returns
returns g c met parts k made p wire new after = copied_event g.W.Wire.transacts met parts wire after p new k made
