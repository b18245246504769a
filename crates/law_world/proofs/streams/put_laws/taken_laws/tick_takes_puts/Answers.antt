use Rattle.law_world.proofs.lemmas.streams.lemmas.put_laws.Moments.{tick_takes_puts}
use Rattle.law_world.proofs.streams.put_laws.taken_laws.tick_takes_puts.Goals as goal

pub returns : goal.returns
returns c = tick_takes_puts
