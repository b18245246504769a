use Rattle.std.proofs.Common.{◌≡◌, ◌++◌, take}
use Rattle.std.specs.List.{flat_map}
use Rattle.app_trace_lines.specs.Lines.{passed_text}
use Rattle.app_trace_lines.proofs.lines.put_all_passed.Given as goal

abbrev pub invariant-loop-passed : goal.invariant-loop-passed
invariant-loop-passed l = l.text.items ≡ l.initial.text.items ++ flat_map passed_text (take l.passed-index l.all)
