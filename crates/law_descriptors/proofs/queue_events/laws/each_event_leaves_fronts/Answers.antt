use Rattle.law_descriptors.proofs.lemmas.queue_events.Events.{both_keeps_fronts, both_keeps_reaches, both_keeps_halts, both_leaves_halted, both_keeps_mends, both_keeps_parts}
use Rattle.law_descriptors.proofs.queue_events.laws.each_event_leaves_fronts.Goals as goal

pub returns : goal.returns
returns g c = record {
  fronts = both_keeps_fronts g.W.Wire.begins g.W.Wire.transacts;
  reaches = both_keeps_reaches g.W.Wire.begins g.W.Wire.transacts;
  halts = both_keeps_halts g.W.Wire.begins g.W.Wire.transacts;
  halted = both_leaves_halted g.W.Wire.begins g.W.Wire.transacts;
  mends = both_keeps_mends g.W.Wire.begins g.W.Wire.transacts;
  parts = both_keeps_parts g.W.Wire.begins g.W.Wire.transacts;
}
