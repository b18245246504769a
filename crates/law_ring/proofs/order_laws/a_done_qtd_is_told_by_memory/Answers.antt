use Rattle.law_ring.proofs.Ordering.{a_done_qtd_is_told_by_memory}
use Rattle.law_ring.proofs.order_laws.a_done_qtd_is_told_by_memory.Goals as goal

pub returns : goal.returns
returns c = a_done_qtd_is_told_by_memory
