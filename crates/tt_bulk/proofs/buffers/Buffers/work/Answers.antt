-- The two turns are the work of the microframe, in the order in which the packets were taken.
use Rattle.tt_bulk.proofs.Turns.{second_then_first, first_then_second}
use Rattle.tt_bulk.proofs.buffers.Buffers.work.Goals as goal

pub returns-in-First : goal.returns-in-First
returns-in-First g c = rw (← c.self.view_is) (second_then_first _ _ _ _ _ _ _ _ _ _ _ c.in-First.is c.turn-left.ensures.left c.turn-left.ensures.turn c.turn.ensures.turn)

pub returns-in-Second : goal.returns-in-Second
returns-in-Second g c = rw (← c.self.view_is) (first_then_second _ _ _ _ _ _ _ _ _ _ _ c.in-Second.is c.turn-left-in-Second.ensures.left c.turn-left-in-Second.ensures.turn c.turn-in-Second.ensures.turn)
