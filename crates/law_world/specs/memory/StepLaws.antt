-- A law of steps of queues: where only links of queue heads differ, memory and either walk's hand tell the same of each queue.
--     StaysTellsTheSame     the law
use Rattle.law_ring.specs.Told.{SameTold}
use Rattle.law_frames.specs.FrameHand.{queue_hand}
use Rattle.law_world.specs.memory.Mixed.{Standing}
use Rattle.law_world.specs.memory.Steps.{AreTold}

abbrev pub StaysTellsTheSame : Type 0
StaysTellsTheSame = (s t : Standing) → AreTold s t
    → SameTold s.hand s.parts t.hand t.parts × SameTold (queue_hand s.frame) s.parts (queue_hand t.frame) t.parts
