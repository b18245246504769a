use Rattle.law_world.proofs.lemmas.memory.lemmas.running_worlds.Counting.{no_refusal_while_it_runs}
use Rattle.law_world.proofs.memory.running_worlds.laws.no_refusal_while_it_runs.Goals as goal

pub returns : goal.returns
returns c = no_refusal_while_it_runs
