use Rattle.law_world.proofs.lemmas.streams.lemmas.put_laws.Rising.{texts_rise}
use Rattle.law_world.proofs.streams.put_laws.taken_laws.texts_rise.Goals as goal

pub returns : goal.returns
returns c = texts_rise
