use Rattle.std.proofs.Common.{refl}
use Rattle.bandwidth.specs.Placements.{first_in}
use Rattle.law_microframes.proofs.plans.worked.a_camera_is_planned.Goals as goal

pub returns-clause-before : goal.returns-clause-before
unfolding first_in
returns-clause-before c = refl

pub returns-clause-first : goal.returns-clause-first
unfolding first_in
returns-clause-first c = refl

pub returns-clause-later : goal.returns-clause-later
unfolding first_in
returns-clause-later c = refl

pub returns-clause-other_frame : goal.returns-clause-other_frame
unfolding first_in
returns-clause-other_frame c = refl
