use Rattle.drv_chains.proofs.Orders.{in_order, each_below, all_below, comes_once}
use Rattle.drv_chains.proofs.laws.frames_come_in_order.Goals as goal

pub returns : goal.returns
returns c = record { order = in_order; each = each_below; no_other = all_below; once = comes_once }
