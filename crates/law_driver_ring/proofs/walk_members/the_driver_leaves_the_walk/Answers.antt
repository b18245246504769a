use Rattle.law_driver_ring.proofs.lemmas.walk_members.Driving.{the_driver_leaves_the_walk}
use Rattle.law_driver_ring.proofs.walk_members.the_driver_leaves_the_walk.Goals as goal

pub returns : goal.returns
returns c = the_driver_leaves_the_walk
