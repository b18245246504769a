use Rattle.std.proofs.Common.{◌≡◌, ◌++◌, map, take, drop}
use Rattle.endpoint_script.specs.Device.{endpoint_begun}
use Rattle.endpoint_script.proofs.device.begin_all.Given as goal

abbrev pub invariant-loop-endpoint : goal.invariant-loop-endpoint
invariant-loop-endpoint l = l.endpoint-items ≡ map endpoint_begun (take l.endpoint-index l.fn.endpoints.items) ++ drop l.endpoint-index l.fn.endpoints.items
