use Rattle.law_ring.proofs.PipeAgreeing.{each_event_keeps_the_pipes}
use Rattle.law_ring.proofs.pipe_laws.each_event_keeps_the_pipes.Goals as goal

pub returns : goal.returns
returns g c = each_event_keeps_the_pipes g.W.Wire.transacts
