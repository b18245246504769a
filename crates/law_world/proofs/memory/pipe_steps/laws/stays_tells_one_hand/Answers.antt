use Rattle.law_world.proofs.lemmas.memory.lemmas.pipe_steps.Stays.{stays_tells_one_hand}
use Rattle.law_world.proofs.memory.pipe_steps.laws.stays_tells_one_hand.Goals as goal

pub returns : goal.returns
returns c = stays_tells_one_hand
