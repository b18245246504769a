use Rattle.law_resting.proofs.Samples.{linking_is_no_rest}
use Rattle.law_resting.proofs.worked.resting_is_broken_by_an_unfinished_command.Goals as goal

pub returns : goal.returns
returns c = linking_is_no_rest
