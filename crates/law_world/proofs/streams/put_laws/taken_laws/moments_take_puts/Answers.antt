use Rattle.law_world.proofs.lemmas.streams.lemmas.put_laws.Moments.{moments_take_puts}
use Rattle.law_world.proofs.streams.put_laws.taken_laws.moments_take_puts.Goals as goal

pub returns : goal.returns
returns c = moments_take_puts
