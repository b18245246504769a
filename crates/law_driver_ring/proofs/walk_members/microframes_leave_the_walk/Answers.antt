use Rattle.std.proofs.Common.{refl}
use Rattle.law_driver_ring.proofs.lemmas.walk_members.Walking.{between_in}
use Rattle.law_driver_ring.proofs.walk_members.microframes_leave_the_walk.Goals as goal

pub returns : goal.returns
returns c = record {
  stopped = λ d r w old. (between_in d r r w 0 refl refl old).0;
  begun = λ d r w left old. (between_in d r r w left refl refl old).1;
}
