use Rattle.law_frames.proofs.StepStepping.{step_in_hand, effect_in_hand}
use Rattle.law_frames.proofs.step_laws.the_event_is_that_of_what_is_in_hand.Goals as goal

pub returns : goal.returns
returns g c = record { kind = step_in_hand; effect = effect_in_hand g.W.Wire.transacts }
