use Rattle.std.proofs.Common.{◌≡◌, ◌+◌, ◌-◌, ◌%◌, ◌++◌, map}
use Rattle.std.specs.List.{range_with_len}
use Rattle.script_world.specs.Draft.{filled}
use Rattle.script_world.proofs.bytes.filled.Given as goal

abbrev pub invariant-loop-i : goal.invariant-loop-i
invariant-loop-i l = l.bytes.items ++ map (λ i. (l.seed + i) % 256) (range_with_len l.i (l.len - l.i)) ≡ filled l.len l.seed
