use Rattle.law_resting.proofs.Samples.{leaving_unread_is_no_rest}
use Rattle.law_resting.proofs.worked.resting_is_broken_by_never_harvesting.Goals as goal

pub returns : goal.returns
returns c = leaving_unread_is_no_rest
