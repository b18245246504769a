use Rattle.law_queues.proofs.lemmas.shared_memory.Sharing.{the_controller_keeps_it_shared}
use Rattle.law_queues.proofs.shared_memory.laws.the_controller_keeps_it_shared.Goals as goal

pub returns : goal.returns
returns g c = the_controller_keeps_it_shared g.W.Wire.begins g.W.Wire.transacts
