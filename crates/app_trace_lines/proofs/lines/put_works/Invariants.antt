use Rattle.std.proofs.Common.{◌≡◌, ◌++◌, take}
use Rattle.std.specs.List.{flat_map}
use Rattle.app_trace_lines.specs.Lines.{work_text}
use Rattle.app_trace_lines.proofs.lines.put_works.Given as goal

abbrev pub invariant-loop-work : goal.invariant-loop-work
invariant-loop-work l = l.text.items ≡ l.initial.text.items ++ flat_map work_text (take l.work-index l.works)
