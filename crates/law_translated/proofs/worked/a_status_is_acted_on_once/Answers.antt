use Rattle.law_translated.proofs.WorkedRequests.{repeated_status, acts_after_the_end}
use Rattle.law_translated.proofs.worked.a_status_is_acted_on_once.Goals as goal

pub returns : goal.returns
returns c = record { repeated = repeated_status; ended = acts_after_the_end }
