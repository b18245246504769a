use Rattle.law_frames.proofs.WritingBack.{each_event_at_a_settled_queue_head}
use Rattle.law_frames.proofs.queue_step_laws.each_event_at_a_settled_queue_head.Goals as goal

pub returns : goal.returns
returns g c met parts k s made p wire new after is heard =
    each_event_at_a_settled_queue_head g.W.Wire.transacts met parts wire after p new k s made is
