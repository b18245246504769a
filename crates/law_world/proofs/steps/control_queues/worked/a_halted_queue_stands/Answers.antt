use Rattle.law_world.proofs.lemmas.steps.lemmas.control_queues.Sampled.{stands}
use Rattle.law_world.proofs.steps.control_queues.worked.a_halted_queue_stands.Goals as goal

pub returns : goal.returns
returns c = stands
