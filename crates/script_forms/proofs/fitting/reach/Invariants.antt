use Rattle.std.proofs.Common.{◌≡◌, ◌+◌, ◌-◌, length, drop}
use Rattle.script_forms.specs.Fitting.{reach}
use Rattle.script_forms.proofs.fitting.reach.Given as goal

abbrev pub invariant-loop-at : goal.invariant-loop-at
invariant-loop-at l = l.at + reach (drop l.at l.slots) (drop l.at l.words) ≡ reach l.slots l.words

abbrev pub decreases-loop-at : goal.decreases-loop-at
decreases-loop-at l = length l.words - l.at
