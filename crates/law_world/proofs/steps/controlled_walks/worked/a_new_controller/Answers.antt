use Rattle.law_world.proofs.lemmas.steps.lemmas.controlled_walks.Controlling.{opening_bell}
use Rattle.law_driver_ring.proofs.lemmas.walk_members.Walking.{opening_in}
use Rattle.law_world.proofs.steps.controlled_walks.worked.a_new_controller.Goals as goal

pub returns-clause-walk : goal.returns-clause-walk
returns-clause-walk c = opening_in 2048 _

pub returns-clause-bell : goal.returns-clause-bell
returns-clause-bell c = opening_bell 2048 _
