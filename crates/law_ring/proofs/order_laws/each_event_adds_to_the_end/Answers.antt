use Rattle.law_ring.proofs.Adding.{each_event_adds_to_the_end}
use Rattle.law_ring.proofs.order_laws.each_event_adds_to_the_end.Goals as goal

pub returns : goal.returns
returns g c = each_event_adds_to_the_end g.W.Wire.transacts
