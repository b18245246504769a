use Rattle.law_below_hubs.proofs.AwaitedEnds.{answers_suit}
use Rattle.law_below_hubs.proofs.awaited.answers_below_suit.Goals as goal

pub returns : goal.returns
returns c = answers_suit
