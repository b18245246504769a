use Rattle.std.proofs.Common.{◌≡◌, map, take}
use Rattle.endpoint_script.specs.Device.{opened_endpoint}
use Rattle.endpoint_script.proofs.device.open_all.Given as goal

abbrev pub invariant-loop-text : goal.invariant-loop-text
invariant-loop-text l = l.endpoints.items ≡ map opened_endpoint (take l.text-index l.texts)
