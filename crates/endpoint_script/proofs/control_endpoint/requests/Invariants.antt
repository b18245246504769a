use Rattle.std.proofs.Common.{◌≡◌, take}
use Rattle.std.specs.Prelude.{filter_map}
use Rattle.endpoint_script.specs.Items.{request_in}
use Rattle.endpoint_script.proofs.control_endpoint.requests.Given as goal

abbrev pub invariant-loop-item : goal.invariant-loop-item
invariant-loop-item l = l.known.items ≡ filter_map request_in (take l.item-index l.items)
