use Rattle.law_below_hubs.proofs.HostFinds.{result_is_over}
use Rattle.law_below_hubs.proofs.hosts.a_result_is_the_last_answer.Goals as goal

pub returns : goal.returns
returns c = result_is_over
