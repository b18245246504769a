use Rattle.std.proofs.Common.{refl, inl, arith}
use Rattle.bandwidth.specs.Placements.{first_in}
use Rattle.law_microframes.proofs.translators.worked.a_camera_follows_its_plan.Goals as goal

pub returns-clause-follows : goal.returns-clause-follows
unfolding first_in
returns-clause-follows c = record { placed = inl refl; on_time = refl; within = omega arith; classic = λ e. cc; part = omega arith }

pub returns-clause-late : goal.returns-clause-late
unfolding first_in
returns-clause-late c = λ f. let e = f.on_time in omega (arith, e)
