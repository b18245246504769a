use Rattle.law_controller.proofs.lemmas.event_places.Controlling.{each_event_writes_its_places}
use Rattle.law_controller.proofs.event_places.laws.each_event_writes_its_places.Goals as goal

pub returns : goal.returns
returns g c = each_event_writes_its_places g.W.Wire.begins g.W.Wire.transacts
