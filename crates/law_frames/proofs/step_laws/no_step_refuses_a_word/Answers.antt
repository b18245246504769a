use Rattle.law_frames.proofs.StepStepping.{no_step_refuses_a_word}
use Rattle.law_frames.proofs.step_laws.no_step_refuses_a_word.Goals as goal

pub returns : goal.returns
returns g c = no_step_refuses_a_word g.W.Wire.transacts
