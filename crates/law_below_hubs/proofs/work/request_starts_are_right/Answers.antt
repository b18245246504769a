use Rattle.law_below_hubs.proofs.ControlAsks.{request_starts_are_right}
use Rattle.law_below_hubs.proofs.work.request_starts_are_right.Goals as goal

pub returns : goal.returns
returns c = request_starts_are_right
