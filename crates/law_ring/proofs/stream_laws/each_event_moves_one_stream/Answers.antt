use Rattle.law_ring.proofs.StreamEvents.{each_event_moves_one_stream}
use Rattle.law_ring.proofs.stream_laws.each_event_moves_one_stream.Goals as goal

pub returns : goal.returns
returns g c = each_event_moves_one_stream g.W.Wire.transacts
