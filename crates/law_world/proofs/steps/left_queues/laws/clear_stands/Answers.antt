use Rattle.law_world.proofs.lemmas.steps.lemmas.left_queues.Clearing.{clear_stands}
use Rattle.law_world.proofs.steps.left_queues.laws.clear_stands.Goals as goal

pub returns : goal.returns
returns c = clear_stands
