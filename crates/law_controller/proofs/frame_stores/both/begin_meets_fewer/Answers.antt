use Rattle.law_controller.proofs.lemmas.frame_stores.Beside.{begin_meets_fewer}
use Rattle.law_controller.proofs.frame_stores.both.begin_meets_fewer.Goals as goal

pub returns : goal.returns
returns c = begin_meets_fewer
