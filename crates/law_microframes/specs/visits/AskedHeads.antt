-- Whom either walk asks next, in a world with endpoints of every kind (EHCI 1.0, 4.6, 4.8 and 4.10).
--     AskedIsNear    a copy in hand that works is one of a queue head that has its queue: one that is being opened rests
use Rattle.law_controller.specs.frame_control.Joined.{joined}
use Rattle.law_descriptors.specs.queue_events.Pipes.{AskedAreNear}
use Rattle.bus_world.specs.World.{World}
use Rattle.law_world.specs.memory.Mixed.{Standing, IsMixedAt}

abbrev pub AskedIsNear : Type 0
AskedIsNear = (s : Standing) (w : World) → IsMixedAt s w → AskedAreNear s.near s.parts (joined s.hand s.frame)
