use Rattle.law_ring.proofs.FrontGoing.{each_event_moves_the_front_on}
use Rattle.law_ring.proofs.front_laws.each_event_moves_the_front_on.Goals as goal

pub returns : goal.returns
returns g c = each_event_moves_the_front_on g.W.Wire.transacts
