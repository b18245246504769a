use Rattle.law_descriptors.proofs.lemmas.queue_events.Sending.{events_send_whole}
use Rattle.law_descriptors.proofs.queue_events.laws.events_send_whole.Goals as goal

pub returns : goal.returns
returns g c = events_send_whole g.W.Wire.begins g.W.Wire.transacts
