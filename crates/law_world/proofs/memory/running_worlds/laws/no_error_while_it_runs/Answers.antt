use Rattle.law_world.proofs.lemmas.memory.lemmas.running_worlds.Errors.{no_error}
use Rattle.law_world.proofs.memory.running_worlds.laws.no_error_while_it_runs.Goals as goal

pub returns : goal.returns
returns c = no_error
