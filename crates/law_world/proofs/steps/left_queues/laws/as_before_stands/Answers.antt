use Rattle.law_world.proofs.lemmas.steps.lemmas.left_queues.Same.{as_before_stands}
use Rattle.law_world.proofs.steps.left_queues.laws.as_before_stands.Goals as goal

pub returns : goal.returns
returns c = as_before_stands
