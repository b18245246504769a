use Rattle.std.proofs.Common.{refl}
use Rattle.law_reports.proofs.pipes.below_worked.an_in_endpoint_has_its_hub.Goals as goal

pub returns-clause-last : goal.returns-clause-last
returns-clause-last c = refl

pub returns-clause-fifth : goal.returns-clause-fifth
returns-clause-fifth c = refl

pub returns-clause-other : goal.returns-clause-other
returns-clause-other c = refl

pub returns-clause-outward : goal.returns-clause-outward
returns-clause-outward c = refl

pub returns-clause-inward : goal.returns-clause-inward
returns-clause-inward c = refl
