use Rattle.std.proofs.Common.{refl, arith}
use Rattle.bandwidth.specs.Placements.{first_in, mask, allowed, IsWant}
use Rattle.bandwidth.specs.Worked.{camera, keyboard}
use Rattle.law_translator.specs.hub_plans.Laws.{IsPlacedRight}
use Rattle.law_translator.specs.hub_plans.Samples.{camera_in_1, keyboard_in_0}
use Rattle.law_translator.proofs.hub_plans.worked.a_camera_beside_a_keyboard.Goals as goal

camera_wants : IsWant (camera 179)
camera_wants = record {
  period = refl;
  frames = omega arith;
  some_bytes = omega arith;
  bytes = omega arith;
  some_multi = omega arith;
  multi = omega arith;
  hub = refl;
  tt = omega arith;
}

keyboard_wants : IsWant keyboard
keyboard_wants = record {
  period = refl;
  frames = omega arith;
  some_bytes = omega arith;
  bytes = omega arith;
  some_multi = omega arith;
  multi = omega arith;
  hub = refl;
  tt = omega arith;
}

camera_right : IsPlacedRight camera_in_1
unfolding allowed mask
camera_right = record { want = camera_wants; place = 1; at = refl }

keyboard_right : IsPlacedRight keyboard_in_0
unfolding allowed mask
keyboard_right = record { want = keyboard_wants; place = 0; at = refl }

pub returns-clause-right : goal.returns-clause-right
returns-clause-right c = (camera_right, (keyboard_right, tt))

pub returns-clause-keyboard : goal.returns-clause-keyboard
unfolding first_in
returns-clause-keyboard c = refl

pub returns-clause-camera : goal.returns-clause-camera
unfolding first_in
returns-clause-camera c = refl

pub returns-clause-after : goal.returns-clause-after
unfolding first_in
returns-clause-after c = refl

pub returns-clause-first : goal.returns-clause-first
unfolding first_in
returns-clause-first c = refl
