use Rattle.law_resting.proofs.Resting.{drivers_rest_when_done}
use Rattle.law_resting.proofs.drivers_rest_when_done.Goals as goal

pub returns : goal.returns
returns c = drivers_rest_when_done
