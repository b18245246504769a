use Rattle.law_below_hubs.proofs.RequestTurns.{rest_opens_below, done_rests_below}
use Rattle.law_below_hubs.proofs.requests.a_queue_below_opens_and_rests.Goals as goal

pub returns : goal.returns
returns c = record { opens = rest_opens_below; rests = done_rests_below }
