use Rattle.drv_chains.proofs.Sequence.{stores_in_order}
use Rattle.drv_chains.proofs.laws.stores_come_in_order.Goals as goal

pub returns : goal.returns
returns c = stores_in_order
