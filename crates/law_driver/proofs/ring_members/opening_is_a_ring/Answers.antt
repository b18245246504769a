use Rattle.law_driver.proofs.lemmas.ring_members.Opened.{opening_is_a_ring}
use Rattle.law_driver.proofs.ring_members.opening_is_a_ring.Goals as goal

pub returns : goal.returns
returns c = opening_is_a_ring
