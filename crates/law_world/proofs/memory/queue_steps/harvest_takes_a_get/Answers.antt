use Rattle.law_world.proofs.lemmas.memory.StepSampled.{key_row, key_before, key_after, key_beside, key_step}
use Rattle.law_world.proofs.memory.queue_steps.harvest_takes_a_get.Goals as goal

pub returns-clause-row : goal.returns-clause-row
returns-clause-row c = key_row

pub returns-clause-before : goal.returns-clause-before
returns-clause-before c = key_before

pub returns-clause-after : goal.returns-clause-after
returns-clause-after c = key_after

pub returns-clause-beside : goal.returns-clause-beside
returns-clause-beside c = key_beside

pub returns-clause-step : goal.returns-clause-step
returns-clause-step c = key_step
