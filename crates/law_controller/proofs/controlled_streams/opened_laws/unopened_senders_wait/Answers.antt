use Rattle.law_controller.proofs.lemmas.controlled_streams.Waiting.{unopened_senders_wait}
use Rattle.law_controller.proofs.controlled_streams.opened_laws.unopened_senders_wait.Goals as goal

pub returns : goal.returns
returns g c = unopened_senders_wait g.W.Wire.begins g.W.Wire.transacts
