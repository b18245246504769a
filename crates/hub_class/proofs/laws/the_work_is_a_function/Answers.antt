use Rattle.hub_class.proofs.Microframe.{work_told}
use Rattle.hub_class.proofs.laws.the_work_is_a_function.Goals as goal

pub returns : goal.returns
returns g c = work_told g.W.Wire.transacts
