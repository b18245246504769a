use Rattle.std.proofs.Common.{◌≡◌, ◌-◌, length, drop}
use Rattle.script_forms.specs.Fitting.{all_ranged}
use Rattle.script_forms.proofs.fitting.are_ranged.Given as goal

abbrev pub invariant-loop-at : goal.invariant-loop-at
invariant-loop-at l = all_ranged (drop l.at l.slots) (drop l.at l.words) ≡ all_ranged l.slots l.words

abbrev pub decreases-loop-at : goal.decreases-loop-at
decreases-loop-at l = length l.words - l.at
