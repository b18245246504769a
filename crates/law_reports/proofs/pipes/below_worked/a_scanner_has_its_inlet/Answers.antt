use Rattle.std.proofs.Common.{refl}
use Rattle.law_reports.proofs.pipes.below_worked.a_scanner_has_its_inlet.Goals as goal

pub returns-clause-hub : goal.returns-clause-hub
returns-clause-hub c = refl

pub returns-clause-place : goal.returns-clause-place
returns-clause-place c = refl

pub returns-clause-packets : goal.returns-clause-packets
returns-clause-packets c = refl

pub returns-clause-own : goal.returns-clause-own
returns-clause-own c = refl

pub returns-clause-other : goal.returns-clause-other
returns-clause-other c = refl
