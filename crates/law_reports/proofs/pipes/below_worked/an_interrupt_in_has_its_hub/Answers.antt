use Rattle.std.proofs.Common.{refl}
use Rattle.law_reports.proofs.pipes.below_worked.an_interrupt_in_has_its_hub.Goals as goal

pub returns-clause-bulk : goal.returns-clause-bulk
returns-clause-bulk c = refl

pub returns-clause-interrupt : goal.returns-clause-interrupt
returns-clause-interrupt c = refl

pub returns-clause-low : goal.returns-clause-low
returns-clause-low c = refl

pub returns-clause-high : goal.returns-clause-high
returns-clause-high c = refl

pub returns-clause-fifth : goal.returns-clause-fifth
returns-clause-fifth c = refl

pub returns-clause-outward : goal.returns-clause-outward
returns-clause-outward c = refl

pub returns-clause-control : goal.returns-clause-control
returns-clause-control c = refl
