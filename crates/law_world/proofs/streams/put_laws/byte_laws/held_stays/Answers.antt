use Rattle.law_world.proofs.lemmas.streams.lemmas.put_laws.Accepting.{held_stays}
use Rattle.law_world.proofs.streams.put_laws.byte_laws.held_stays.Goals as goal

pub returns : goal.returns
returns c = held_stays
