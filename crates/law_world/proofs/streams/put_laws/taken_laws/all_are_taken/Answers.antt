use Rattle.law_world.proofs.lemmas.streams.lemmas.put_laws.Ends.{all_are_taken}
use Rattle.law_world.proofs.streams.put_laws.taken_laws.all_are_taken.Goals as goal

pub returns : goal.returns
returns c = all_are_taken
