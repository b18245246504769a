use Rattle.law_below_hubs.proofs.HostOuts.{own_out_goes_on}
use Rattle.law_below_hubs.proofs.HostBeside.{others_leave_out, begin_leaves_out}
use Rattle.law_below_hubs.proofs.hosts.an_out_host_goes_on.Goals as goal

pub returns : goal.returns
returns c = record { own = own_out_goes_on; others = others_leave_out; begins = begin_leaves_out }
