use Rattle.drv_chains.proofs.Orders.{stand_together}
use Rattle.drv_chains.proofs.laws.frames_of_a_class_stand_together.Goals as goal

pub returns : goal.returns
returns c = stand_together
