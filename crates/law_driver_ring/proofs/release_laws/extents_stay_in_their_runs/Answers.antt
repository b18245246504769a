use Rattle.law_driver_ring.proofs.Extending.{extents_stay}
use Rattle.law_driver_ring.proofs.Following.{extents_follow}
use Rattle.law_driver_ring.proofs.release_laws.extents_stay_in_their_runs.Goals as goal

pub returns : goal.returns
returns c = record { stay = extents_stay; follow = extents_follow }
