use Rattle.std.proofs.Common.{◌≡◌, ◌++◌, map, drop, IsTrue}
use Rattle.std.specs.List.{list_all}
use Rattle.hub_class.specs.HubContent.{opening, has_few_ports}
use Rattle.bus_wire.proofs.build.hubs_of.Given as goal

abbrev pub invariant-loop-text : goal.invariant-loop-text
invariant-loop-text l = record {
  made : l.hubs.items ++ map opening (drop l.text-index l.texts) ≡ map opening l.texts;
  rest : IsTrue (list_all has_few_ports (drop l.text-index l.texts));
}
