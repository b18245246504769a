use Rattle.std.proofs.Common.{◌≡◌, ◌++◌, map, drop, IsTrue}
use Rattle.std.specs.List.{list_all}
use Rattle.endpoint_script.specs.Device.{opening, is_scripted}
use Rattle.bus_wire.proofs.build.devices_of.Given as goal

abbrev pub invariant-loop-text : goal.invariant-loop-text
invariant-loop-text l = record {
  made : l.devices.items ++ map opening (drop l.text-index l.texts) ≡ map opening l.texts;
  rest : IsTrue (list_all is_scripted (drop l.text-index l.texts));
}
