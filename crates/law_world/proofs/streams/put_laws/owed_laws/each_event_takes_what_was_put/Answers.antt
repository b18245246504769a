use Rattle.law_world.proofs.lemmas.streams.lemmas.put_laws.BufferBytes.{buffers_are_rest, buffers_before_lend, buffers_around}
use Rattle.law_world.proofs.lemmas.streams.lemmas.put_laws.TakenBegins.{event_taken}
use Rattle.law_world.proofs.lemmas.streams.lemmas.put_laws.TakenStopped.{event_stopped}
use Rattle.law_world.proofs.streams.put_laws.owed_laws.each_event_takes_what_was_put.Goals as goal

pub returns : goal.returns
returns g c = record {
  taken = event_taken buffers_are_rest buffers_before_lend buffers_around g.W.Wire.begins g.W.Wire.transacts;
  stopped = event_stopped g.W.Wire.begins g.W.Wire.transacts;
}
