use Rattle.law_frames.proofs.StepStepping.{no_fault_has_an_effect}
use Rattle.law_frames.proofs.step_laws.no_fault_has_an_effect.Goals as goal

pub returns : goal.returns
returns g c = no_fault_has_an_effect g.W.Wire.transacts
