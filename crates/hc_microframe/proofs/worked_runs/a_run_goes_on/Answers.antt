use Rattle.std.proofs.Common.{true, refl}
use Rattle.hc_microframe.specs.Microframe.Goes.{none, next}
use Rattle.hc_microframe.proofs.worked_runs.a_run_goes_on.Goals as goal

pub returns-clause-goes : goal.returns-clause-goes
returns-clause-goes c =
    next 0 _ _ _ _ none (record { allowed = true; asked = (refl, refl); contents = refl }) refl refl

pub returns-clause-over : goal.returns-clause-over
returns-clause-over c = record {
  earlier = 1;
  old = _;
  before = _;
  goes = next 0 _ _ _ _ none (record { allowed = true; asked = (refl, refl); contents = refl }) refl refl;
  event = (refl, refl);
  answered = refl;
  last = refl;
  count = refl;
  hand = refl;
}
