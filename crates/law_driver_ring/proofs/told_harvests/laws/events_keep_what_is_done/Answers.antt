use Rattle.law_driver_ring.proofs.lemmas.told_harvests.Keeping.{events_keep_what_is_done}
use Rattle.law_driver_ring.proofs.told_harvests.laws.events_keep_what_is_done.Goals as goal

pub returns : goal.returns
returns g c = events_keep_what_is_done g.W.Wire.transacts
