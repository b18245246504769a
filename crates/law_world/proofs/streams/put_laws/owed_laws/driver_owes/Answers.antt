use Rattle.law_world.proofs.lemmas.streams.lemmas.put_laws.Driver.{driver_owes}
use Rattle.law_world.proofs.streams.put_laws.owed_laws.driver_owes.Goals as goal

pub returns : goal.returns
returns c = driver_owes
