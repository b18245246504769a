use Rattle.law_driver_ring.proofs.Quiet.{the_walk_leaves_it_driven}
use Rattle.law_driver_ring.proofs.part_laws.the_walk_leaves_it_driven.Goals as goal

pub returns : goal.returns
returns g c = the_walk_leaves_it_driven g.W.Wire.transacts
