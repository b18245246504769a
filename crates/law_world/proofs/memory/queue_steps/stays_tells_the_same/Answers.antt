use Rattle.law_world.proofs.lemmas.memory.StepTelling.{stays_tells_the_same}
use Rattle.law_world.proofs.memory.queue_steps.stays_tells_the_same.Goals as goal

pub returns : goal.returns
returns c = stays_tells_the_same
