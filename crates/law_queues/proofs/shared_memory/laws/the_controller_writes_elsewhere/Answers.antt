use Rattle.law_queues.proofs.lemmas.shared_memory.Sharing.{the_controller_writes_elsewhere}
use Rattle.law_queues.proofs.shared_memory.laws.the_controller_writes_elsewhere.Goals as goal

pub returns : goal.returns
returns g c = the_controller_writes_elsewhere g.W.Wire.begins g.W.Wire.transacts
