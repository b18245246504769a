use Rattle.law_world.proofs.lemmas.steps.lemmas.left_queues.Unmet.{cleared_unmet, cleared_is_no_head}
use Rattle.law_world.proofs.steps.left_queues.laws.the_cleared_are_unmet.Goals as goal

pub returns-clause-unmet : goal.returns-clause-unmet
returns-clause-unmet c = cleared_unmet

pub returns-clause-head : goal.returns-clause-head
returns-clause-head c = cleared_is_no_head
