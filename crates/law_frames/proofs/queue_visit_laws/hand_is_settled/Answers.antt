use Rattle.law_frames.proofs.QueueBacks.{hand_is_settled}
use Rattle.law_frames.proofs.queue_visit_laws.hand_is_settled.Goals as goal

pub returns : goal.returns
returns c = hand_is_settled
