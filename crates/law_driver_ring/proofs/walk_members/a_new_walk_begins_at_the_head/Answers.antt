use Rattle.law_driver_ring.proofs.lemmas.walk_members.Walking.{opening_in}
use Rattle.law_driver_ring.proofs.walk_members.a_new_walk_begins_at_the_head.Goals as goal

pub returns : goal.returns
returns c = opening_in
