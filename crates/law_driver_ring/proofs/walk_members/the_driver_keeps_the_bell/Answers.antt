use Rattle.law_driver_ring.proofs.lemmas.walk_members.Ringing.{the_driver_keeps_the_bell}
use Rattle.law_driver_ring.proofs.walk_members.the_driver_keeps_the_bell.Goals as goal

pub returns : goal.returns
returns c = the_driver_keeps_the_bell
