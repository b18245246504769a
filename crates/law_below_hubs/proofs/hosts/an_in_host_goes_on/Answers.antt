use Rattle.law_below_hubs.proofs.HostIns.{own_in_goes_on}
use Rattle.law_below_hubs.proofs.HostInBeside.{others_leave_in, begin_leaves_in}
use Rattle.law_below_hubs.proofs.hosts.an_in_host_goes_on.Goals as goal

pub returns : goal.returns
returns c = record { own = own_in_goes_on; others = others_leave_in; begins = begin_leaves_in }
