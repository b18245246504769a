use Rattle.law_controller.proofs.lemmas.aligned_copies.Controlling.{each_event_keeps_addresses_aligned}
use Rattle.law_controller.proofs.aligned_copies.laws.each_event_keeps_addresses_aligned.Goals as goal

pub returns : goal.returns
returns g c = each_event_keeps_addresses_aligned g.W.Wire.begins g.W.Wire.transacts
