use Rattle.law_hearing.proofs.HeardBelow.{asks_are_heard_below}
use Rattle.law_hearing.proofs.asks_are_heard_below.Goals as goal

pub returns : goal.returns
returns c = asks_are_heard_below
