use Rattle.law_below_hubs.proofs.RequestQueues.{walk_keeps_queue}
use Rattle.law_below_hubs.proofs.requests.the_walk_keeps_requests_below.Goals as goal

pub returns : goal.returns
returns c = walk_keeps_queue
