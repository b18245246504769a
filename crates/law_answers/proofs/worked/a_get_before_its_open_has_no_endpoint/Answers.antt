use Rattle.law_answers.proofs.Samples.{get_is_no_endpoint, busy_comes_first}
use Rattle.law_answers.proofs.worked.a_get_before_its_open_has_no_endpoint.Goals as goal

pub returns : goal.returns
returns c = record { none = get_is_no_endpoint; busy = busy_comes_first }
