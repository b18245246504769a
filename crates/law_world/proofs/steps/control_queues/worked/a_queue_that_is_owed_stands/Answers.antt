use Rattle.law_world.proofs.lemmas.steps.lemmas.control_queues.SampledWaiting.{owed_stands}
use Rattle.law_world.proofs.steps.control_queues.worked.a_queue_that_is_owed_stands.Goals as goal

pub returns : goal.returns
returns c = owed_stands
