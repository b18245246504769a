use Rattle.law_request.proofs.Steps.{window_opens}
use Rattle.law_request.proofs.laws.window_opens.Goals as goal

pub returns : goal.returns
returns c = window_opens
