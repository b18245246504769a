use Rattle.std.proofs.Common.{◌≡◌, take}
use Rattle.endpoint_script.proofs.item_list.ItemList.copy_of.Given as goal

abbrev pub invariant-loop-item : goal.invariant-loop-item
invariant-loop-item l = l.copies.items ≡ take l.item-index l.items
