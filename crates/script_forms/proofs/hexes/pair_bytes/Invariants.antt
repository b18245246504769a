use Rattle.std.proofs.Common.{◌≡◌, ◌-◌, ◌++◌, length, drop}
use Rattle.std.specs.Option.{option_map}
use Rattle.script_forms.specs.Syntax.{pairs}
use Rattle.script_forms.proofs.hexes.pair_bytes.Given as goal

abbrev pub invariant-loop-at : goal.invariant-loop-at
invariant-loop-at l = option_map (λ bs. l.bytes.items ++ bs) (pairs (drop l.at l.word)) ≡ pairs l.word

abbrev pub decreases-loop-at : goal.decreases-loop-at
decreases-loop-at l = length l.word - l.at
