use Rattle.law_world.proofs.lemmas.memory.StepSampled.{key_moves, key_no_other}
use Rattle.law_world.proofs.memory.queue_steps.harvest_takes_no_other.Goals as goal

pub returns-clause-stays : goal.returns-clause-stays
returns-clause-stays c = key_moves

pub returns-clause-other : goal.returns-clause-other
returns-clause-other c = key_no_other
