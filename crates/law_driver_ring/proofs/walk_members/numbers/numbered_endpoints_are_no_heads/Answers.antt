use Rattle.law_driver_ring.proofs.lemmas.walk_members.Descriptions.{numbered_endpoints_are_no_heads}
use Rattle.law_driver_ring.proofs.walk_members.numbers.numbered_endpoints_are_no_heads.Goals as goal

pub returns : goal.returns
returns c = numbered_endpoints_are_no_heads
