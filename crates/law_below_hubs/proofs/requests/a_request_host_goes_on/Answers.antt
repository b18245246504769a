use Rattle.law_below_hubs.proofs.HostRequests.{own_request_goes_on}
use Rattle.law_below_hubs.proofs.RequestBeside.{others_leave_request, begin_leaves_request}
use Rattle.law_below_hubs.proofs.requests.a_request_host_goes_on.Goals as goal

pub returns : goal.returns
returns c = record { own = own_request_goes_on; others = others_leave_request; begins = begin_leaves_request }
