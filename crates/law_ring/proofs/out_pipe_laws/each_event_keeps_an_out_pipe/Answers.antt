use Rattle.law_ring.proofs.Assembling.{each_event_keeps_an_out_pipe}
use Rattle.law_ring.proofs.out_pipe_laws.each_event_keeps_an_out_pipe.Goals as goal

pub returns : goal.returns
returns g c = each_event_keeps_an_out_pipe g.W.Wire.transacts
