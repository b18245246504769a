use Rattle.std.proofs.Common.{refl}
use Rattle.bandwidth.specs.Placements.{first_in}
use Rattle.law_microframes.proofs.plans.worked.two_cameras_in_one_microframe.Goals as goal

pub returns : goal.returns
unfolding first_in
returns c = record { sum = refl }
