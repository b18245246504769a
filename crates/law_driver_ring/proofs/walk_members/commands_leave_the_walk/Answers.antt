use Rattle.law_driver_ring.proofs.lemmas.walk_members.Offering.{commands_leave_the_walk}
use Rattle.law_driver_ring.proofs.walk_members.commands_leave_the_walk.Goals as goal

pub returns : goal.returns
returns c = commands_leave_the_walk
