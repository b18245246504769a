use Rattle.std.proofs.Common.{◌≡◌, ◌^◌, ◌-◌, min, take, map}
use Rattle.std.specs.Prelude.{sum}
use Rattle.endpoint_script.specs.Items.{naks_in}
use Rattle.endpoint_script.proofs.control_endpoint.naks.Given as goal

abbrev pub invariant-loop-item : goal.invariant-loop-item
invariant-loop-item l = l.all ≡ min (sum (map naks_in (take l.item-index l.items))) (2 ^ 64 - 1)
