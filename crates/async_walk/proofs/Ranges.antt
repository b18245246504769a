-- A queue head stays in its ranges, whatever is counted.
use Rattle.std.proofs.Common.{◌≤◌, Bool, arith}
use Rattle.qh_qtd.specs.declared.queue_head.Qh.{Qh}
use Rattle.qh_qtd.specs.QueueHead.{IsQhInRange}
use Rattle.async_walk.specs.declared.state.ReloadMode.{ReloadMode}
use Rattle.async_walk.specs.declared.state.ReloadMode.TheVariants.{Reload}
use Rattle.async_walk.specs.Naks.{reloaded, naks_after, counted_queue}

pub reloaded_in_range : (mode : ReloadMode) (q : Qh) → IsQhInRange q → IsQhInRange (reloaded mode q)
unfolding reloaded
reloaded_in_range Reload q (link, (chars, (caps, (current, (next, ((alternate, (naks, _)), rest)))))) =
    (link, (chars, (caps, (current, (next, ((alternate, (chars.0, tt)), rest))))))
reloaded_in_range _ q r = r

fewer : (counted : Bool) (q : Qh) → naks_after counted q ≤ q.nak_cnt
fewer counted q = grind arith

pub counted_in_range : (counted : Bool) (q : Qh) → IsQhInRange q → IsQhInRange (counted_queue counted q)
unfolding counted_queue
counted_in_range counted q (link, (chars, (caps, (current, (next, ((alternate, (naks, _)), rest)))))) =
    (link, (chars, (caps, (current, (next, ((alternate, (omega (arith, naks, fewer counted q), tt)), rest))))))
