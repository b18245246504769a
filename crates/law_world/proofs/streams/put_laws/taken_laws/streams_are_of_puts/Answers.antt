use Rattle.law_world.proofs.lemmas.streams.lemmas.put_laws.Ends.{streams_are_of_puts}
use Rattle.law_world.proofs.streams.put_laws.taken_laws.streams_are_of_puts.Goals as goal

pub returns : goal.returns
returns c = streams_are_of_puts
