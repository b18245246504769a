use Rattle.law_resting.proofs.Samples.{keeping_is_no_rest, holding_on_is_no_rest}
use Rattle.law_resting.proofs.worked.resting_is_broken_by_never_releasing.Goals as goal

pub returns : goal.returns
returns c = record { endpoint = keeping_is_no_rest; transfer = holding_on_is_no_rest }
