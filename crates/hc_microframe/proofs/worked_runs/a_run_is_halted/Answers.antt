use Rattle.std.proofs.Common.{true, refl}
use Rattle.hc_microframe.specs.Microframe.Goes.{none}
use Rattle.hc_microframe.proofs.worked_runs.a_run_is_halted.Goals as goal

pub returns-clause-over : goal.returns-clause-over
returns-clause-over c = record {
  earlier = 0;
  old = _;
  before = _;
  goes = none;
  event = record { allowed = true; asked = (refl, refl); contents = refl };
  answered = refl;
  last = refl;
  count = refl;
  hand = refl;
}
