use Rattle.law_request.proofs.Steps.{windows_are_right}
use Rattle.law_request.proofs.laws.windows_are_right.Goals as goal

pub returns : goal.returns
returns c = windows_are_right
