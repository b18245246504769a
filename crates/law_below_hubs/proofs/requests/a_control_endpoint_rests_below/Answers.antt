use Rattle.law_below_hubs.proofs.RequestRests.{request_opens, request_rests, others_leave_rest, begin_leaves_rest}
use Rattle.law_below_hubs.proofs.requests.a_control_endpoint_rests_below.Goals as goal

pub returns : goal.returns
returns c = record { opens = request_opens; rests = request_rests; others = others_leave_rest; begins = begin_leaves_rest }
