use Rattle.std.proofs.Common.{[], refl}
use Rattle.law_world.specs.streams.put_laws.OwedSamples.{half_sent}
use Rattle.law_world.proofs.streams.put_laws.owed_worked.a_put_that_is_published.Goals as goal

pub returns-clause-published : goal.returns-clause-published
returns-clause-published c = record { words = []; command = refl; number = 0; transfer = record half_sent { place = 0; left = 2 }; newest = refl; there = refl; its_endpoint = refl }
