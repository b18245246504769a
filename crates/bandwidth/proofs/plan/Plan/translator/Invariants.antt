use Rattle.std.proofs.Common.{◌≡◌, drop}
use Rattle.bandwidth.specs.Admission.{translator_in}
use Rattle.bandwidth.proofs.plan.Plan.translator.Given as goal

abbrev pub invariant-loop-x : goal.invariant-loop-x
invariant-loop-x l = translator_in (drop l.x-index l.x-items) l.id ≡ translator_in l.x-items l.id
