use Rattle.law_world.proofs.lemmas.streams.lemmas.put_laws.Cuts.{puts_filled}
use Rattle.law_world.proofs.streams.put_laws.byte_laws.puts_are_filled.Goals as goal

pub returns : goal.returns
returns c = puts_filled
