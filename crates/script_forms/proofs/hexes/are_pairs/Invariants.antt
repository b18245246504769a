use Rattle.std.proofs.Common.{◌≡◌, ◌-◌, length, drop, is_some}
use Rattle.script_forms.specs.Syntax.{pairs}
use Rattle.script_forms.proofs.hexes.are_pairs.Given as goal

abbrev pub invariant-loop-at : goal.invariant-loop-at
invariant-loop-at l = is_some (pairs (drop l.at l.word)) ≡ is_some (pairs l.word)

abbrev pub decreases-loop-at : goal.decreases-loop-at
decreases-loop-at l = length l.word - l.at
