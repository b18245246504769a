use Rattle.law_controller.proofs.lemmas.controlled_streams.Outs.{an_event_keeps_an_out_stream}
use Rattle.law_controller.proofs.controlled_streams.out_pipe_laws.an_event_keeps_an_out_stream.Goals as goal

pub returns : goal.returns
returns g c = an_event_keeps_an_out_stream g.W.Wire.begins g.W.Wire.transacts
