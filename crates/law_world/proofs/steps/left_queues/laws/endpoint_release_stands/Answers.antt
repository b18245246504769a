use Rattle.law_world.proofs.lemmas.steps.lemmas.left_queues.Returned.{endpoint_release_stands}
use Rattle.law_world.proofs.steps.left_queues.laws.endpoint_release_stands.Goals as goal

pub returns : goal.returns
returns c = endpoint_release_stands
