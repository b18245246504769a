use Rattle.law_queues.proofs.lemmas.whole_sends.Takers.{idle_takes_nothing}
use Rattle.law_queues.proofs.whole_sends.laws.idle_takes_nothing.Goals as goal

pub returns : goal.returns
returns g c = idle_takes_nothing g.W.Wire.transacts
