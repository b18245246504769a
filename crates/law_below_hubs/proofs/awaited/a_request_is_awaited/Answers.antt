use Rattle.law_below_hubs.proofs.WorkedAwaited.{request_awaited, other_token_breaks}
use Rattle.law_below_hubs.proofs.awaited.a_request_is_awaited.Goals as goal

pub returns : goal.returns
returns c = record { request = request_awaited; breaks = other_token_breaks }
