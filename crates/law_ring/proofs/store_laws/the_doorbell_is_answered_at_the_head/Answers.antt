use Rattle.law_ring.proofs.Answering.{answer_at_head}
use Rattle.law_ring.proofs.store_laws.the_doorbell_is_answered_at_the_head.Goals as goal

pub returns : goal.returns
returns g c = λ p new wire after lead off on. answer_at_head g.W.Wire.transacts p wire new after lead off on
