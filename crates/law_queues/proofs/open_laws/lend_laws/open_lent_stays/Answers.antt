use Rattle.law_queues.proofs.lemmas.open_laws.LendWaiting.{open_lent_stays}
use Rattle.law_queues.proofs.open_laws.lend_laws.open_lent_stays.Goals as goal

pub returns : goal.returns
returns g c = open_lent_stays g.W.Wire.begins g.W.Wire.transacts
