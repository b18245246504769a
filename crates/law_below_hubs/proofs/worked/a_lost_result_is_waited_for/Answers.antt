use Rattle.law_below_hubs.proofs.WorkedHosts.{lost_waits, late_breaks, given_up_breaks}
use Rattle.law_below_hubs.proofs.worked.a_lost_result_is_waited_for.Goals as goal

pub returns : goal.returns
returns c = record { waits = lost_waits; late = late_breaks; given_up = given_up_breaks }
