use Rattle.law_driver_ring.proofs.lemmas.walk_members.Answering.{walk_bell}
use Rattle.law_driver_ring.proofs.walk_members.the_walk_keeps_the_bell.Goals as goal

pub returns : goal.returns
returns g c = λ d p before new after leads bell. walk_bell g.W.Wire.transacts d p before new after bell leads
