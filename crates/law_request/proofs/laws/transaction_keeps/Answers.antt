use Rattle.law_request.proofs.Steps.{transaction_keeps}
use Rattle.law_request.proofs.laws.transaction_keeps.Goals as goal

pub returns : goal.returns
returns c = transaction_keeps
