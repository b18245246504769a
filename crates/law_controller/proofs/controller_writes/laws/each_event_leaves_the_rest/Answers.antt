use Rattle.law_controller.proofs.lemmas.controller_writes.Controlling.{each_event_leaves_the_rest}
use Rattle.law_controller.proofs.controller_writes.laws.each_event_leaves_the_rest.Goals as goal

pub returns : goal.returns
returns g c = each_event_leaves_the_rest g.W.Wire.begins g.W.Wire.transacts
