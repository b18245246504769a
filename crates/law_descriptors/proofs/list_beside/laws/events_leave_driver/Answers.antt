use Rattle.law_descriptors.proofs.lemmas.list_beside.Running.{events_leave_driver}
use Rattle.law_descriptors.proofs.list_beside.laws.events_leave_driver.Goals as goal

pub returns : goal.returns
returns g c = events_leave_driver g.W.Wire.begins g.W.Wire.transacts
