use Rattle.law_driver_ring.proofs.Extending.{walk_keeps_extents}
use Rattle.law_driver_ring.proofs.release_laws.walk_keeps_extents.Goals as goal

pub returns : goal.returns
returns g c = walk_keeps_extents g.W.Wire.transacts
