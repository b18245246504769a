use Rattle.std.proofs.Common.{◌≡◌, ◌++◌}
use Rattle.script_load.specs.Load.{part_text}
use Rattle.script_load.proofs.text.put_part.Given as goal

abbrev pub invariant-loop-i : goal.invariant-loop-i
invariant-loop-i l = l.text.items ≡ l.initial.text.items ++ part_text l.part l.draws l.i
