use Rattle.law_ring.proofs.Answering.{answer_leaves_ring}
use Rattle.law_ring.proofs.store_laws.answer_leaves_ring.Goals as goal

pub returns : goal.returns
returns c = answer_leaves_ring
