use Rattle.hc_microframe.proofs.Once as once
use Rattle.hc_microframe.proofs.laws.asks_once.Goals as goal

pub returns : goal.returns
returns c = once.asks_once
