use Rattle.law_world.proofs.lemmas.memory.lemmas.pipe_steps.Opens.{an_open_begins_pipes}
use Rattle.law_world.proofs.memory.pipe_steps.laws.an_open_begins_pipes.Goals as goal

pub returns : goal.returns
returns g c = an_open_begins_pipes
