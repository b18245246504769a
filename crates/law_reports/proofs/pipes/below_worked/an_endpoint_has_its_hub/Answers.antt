use Rattle.std.proofs.Common.{refl}
use Rattle.law_reports.proofs.pipes.below_worked.an_endpoint_has_its_hub.Goals as goal

pub returns-clause-last : goal.returns-clause-last
returns-clause-last c = refl

pub returns-clause-fifth : goal.returns-clause-fifth
returns-clause-fifth c = refl

pub returns-clause-unnumbered : goal.returns-clause-unnumbered
returns-clause-unnumbered c = refl

pub returns-clause-other : goal.returns-clause-other
returns-clause-other c = refl

pub returns-clause-alone : goal.returns-clause-alone
returns-clause-alone c = refl
