use Rattle.law_controller.proofs.lemmas.controlled_streams.Outs.{a_harvest_keeps_an_out_stream}
use Rattle.law_controller.proofs.controlled_streams.out_pipe_laws.a_harvest_keeps_an_out_stream.Goals as goal

pub returns : goal.returns
returns c = a_harvest_keeps_an_out_stream
