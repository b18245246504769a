use Rattle.std.proofs.Common.{refl}
use Rattle.law_reports.proofs.pipes.below_worked.a_clear_throws_away.Goals as goal

pub returns-clause-kept : goal.returns-clause-kept
returns-clause-kept c = refl

pub returns-clause-cleared : goal.returns-clause-cleared
returns-clause-cleared c = refl

pub returns-clause-reset : goal.returns-clause-reset
returns-clause-reset c = refl
