use Rattle.law_descriptors.proofs.lemmas.queue_events.Events.{both_keeps_structures, both_keeps_fed, both_keeps_last, both_keeps_links}
use Rattle.law_descriptors.proofs.queue_events.laws.each_event_keeps_queues.Goals as goal

pub returns : goal.returns
returns g c = record {
  structures = both_keeps_structures g.W.Wire.begins g.W.Wire.transacts;
  fed = both_keeps_fed g.W.Wire.begins g.W.Wire.transacts;
  last = both_keeps_last g.W.Wire.begins g.W.Wire.transacts;
  links = both_keeps_links g.W.Wire.begins g.W.Wire.transacts;
}
