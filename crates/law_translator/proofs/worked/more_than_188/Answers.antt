use Rattle.std.proofs.Common.{arith}
use Rattle.law_translator.proofs.worked.more_than_188.Goals as goal

pub returns-clause-unfit : goal.returns-clause-unfit
returns-clause-unfit c = λ fits. let all = fits 0 in absurd (omega arith)
