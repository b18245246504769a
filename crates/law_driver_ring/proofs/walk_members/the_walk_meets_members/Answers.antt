use Rattle.law_driver_ring.proofs.lemmas.walk_members.Walking.{event_in}
use Rattle.law_driver_ring.proofs.walk_members.the_walk_meets_members.Goals as goal

pub returns : goal.returns
returns g c = λ d p before new after leads ring fixed heads walk. event_in g.W.Wire.transacts d p before new after ring fixed heads walk leads
