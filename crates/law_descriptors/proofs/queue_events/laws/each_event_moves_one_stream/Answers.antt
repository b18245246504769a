use Rattle.law_descriptors.proofs.lemmas.queue_events.Streams.{both_streams, both_adds}
use Rattle.law_descriptors.proofs.queue_events.laws.each_event_moves_one_stream.Goals as goal

pub returns : goal.returns
returns g c = record {
  streams = both_streams g.W.Wire.begins g.W.Wire.transacts;
  adds = both_adds g.W.Wire.begins g.W.Wire.transacts;
}
