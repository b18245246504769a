use Rattle.law_ring.proofs.Stepping.{each_event}
use Rattle.law_ring.proofs.walk_laws.each_event.Goals as goal

pub returns : goal.returns
returns g c = each_event g.W.Wire.transacts
