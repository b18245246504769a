use Rattle.law_driver_ring.proofs.lemmas.walk_members.Descriptions.{a_numbered_endpoint_is_no_head}
use Rattle.law_driver_ring.proofs.walk_members.numbers.a_numbered_endpoint_is_no_head.Goals as goal

pub returns : goal.returns
returns c = a_numbered_endpoint_is_no_head
