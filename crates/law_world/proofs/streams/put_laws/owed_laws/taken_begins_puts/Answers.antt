use Rattle.law_world.proofs.lemmas.streams.lemmas.put_laws.BufferBytes.{buffers_are_rest, buffers_before_lend, buffers_around}
use Rattle.law_world.proofs.lemmas.streams.lemmas.put_laws.TakenBegins.{taken_begins}
use Rattle.law_world.proofs.streams.put_laws.owed_laws.taken_begins_puts.Goals as goal

pub returns : goal.returns
returns c = taken_begins buffers_are_rest buffers_before_lend buffers_around
