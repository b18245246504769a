use Rattle.law_below_hubs.proofs.WorkedHosts.{is_below, high_breaks}
use Rattle.law_below_hubs.proofs.worked.a_queue_head_is_below.Goals as goal

pub returns : goal.returns
returns c = record { full = is_below; high = high_breaks }
