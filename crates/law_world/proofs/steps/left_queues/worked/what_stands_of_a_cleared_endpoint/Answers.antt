use Rattle.law_world.proofs.lemmas.steps.lemmas.left_queues.Samples.{cleared_stands}
use Rattle.law_world.proofs.steps.left_queues.worked.what_stands_of_a_cleared_endpoint.Goals as goal

pub returns-clause-stand : goal.returns-clause-stand
returns-clause-stand c = cleared_stands
