use Rattle.std.proofs.Common.{◌≡◌, length}
use Rattle.endpoint_script.specs.Resets.{next_epoch}
use Rattle.endpoint_script.proofs.item_list.ItemList.begin_epoch.Given as goal

abbrev pub invariant-loop-item : goal.invariant-loop-item
invariant-loop-item l = next_epoch l.self ≡ next_epoch l.fn.self

abbrev pub decreases-loop-item : goal.decreases-loop-item
decreases-loop-item l = length l.self
