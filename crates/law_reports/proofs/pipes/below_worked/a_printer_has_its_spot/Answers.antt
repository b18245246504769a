use Rattle.std.proofs.Common.{refl}
use Rattle.law_reports.proofs.pipes.below_worked.a_printer_has_its_spot.Goals as goal

pub returns-clause-has : goal.returns-clause-has
returns-clause-has c = refl

pub returns-clause-hub : goal.returns-clause-hub
returns-clause-hub c = refl

pub returns-clause-place : goal.returns-clause-place
returns-clause-place c = refl

pub returns-clause-other : goal.returns-clause-other
returns-clause-other c = refl
