use Rattle.law_controller.proofs.lemmas.controlled_streams.Controlling.{each_event_of_the_controller}
use Rattle.law_controller.proofs.controlled_streams.control_laws.each_event_of_the_controller.Goals as goal

pub returns : goal.returns
returns g c = each_event_of_the_controller g.W.Wire.begins g.W.Wire.transacts
