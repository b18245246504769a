use Rattle.law_world.proofs.lemmas.memory.lemmas.pipe_steps.StepPipes.{each_step_keeps_pipes}
use Rattle.law_world.proofs.memory.pipe_steps.laws.each_step_keeps_pipes.Goals as goal

pub returns : goal.returns
returns g c = each_step_keeps_pipes
