use Rattle.law_request.proofs.Steps.{window_is_right}
use Rattle.law_request.proofs.laws.window_is_right.Goals as goal

pub returns : goal.returns
returns c = window_is_right
