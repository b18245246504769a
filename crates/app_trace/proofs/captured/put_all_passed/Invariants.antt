use Rattle.std.proofs.Common.{◌≡◌, ◌++◌, take}
use Rattle.std.specs.List.{flat_map}
use Rattle.app_trace.specs.Captured.{passed_packets}
use Rattle.app_trace.proofs.captured.put_all_passed.Given as goal

abbrev pub invariant-loop-passed : goal.invariant-loop-passed
invariant-loop-passed l = l.text.items ≡ l.initial.text.items ++ flat_map (passed_packets l.ps) (take l.passed-index l.all)
