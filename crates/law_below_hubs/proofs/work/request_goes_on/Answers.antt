use Rattle.law_below_hubs.proofs.ControlStands.{request_goes_on}
use Rattle.law_below_hubs.proofs.work.request_goes_on.Goals as goal

pub returns : goal.returns
returns c = request_goes_on
