use Rattle.law_controller.proofs.lemmas.frame_control.Sampled.{begins_so, begun_streams}
use Rattle.law_controller.proofs.frame_control.worked.a_microframe_moves_nothing.Goals as goal

pub returns : goal.returns
returns c = record { effect = begins_so; streams = begun_streams }
