use Rattle.law_world.proofs.lemmas.streams.lemmas.put_laws.Moments.{puts_stay}
use Rattle.law_world.proofs.streams.put_laws.taken_laws.puts_stay.Goals as goal

pub returns : goal.returns
returns c = puts_stay
