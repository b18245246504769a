use Rattle.std.proofs.Common.{arith}
use Rattle.law_world.proofs.streams.put_laws.taken_worked.numbers.Goals as goal

pub returns-clause-rise : goal.returns-clause-rise
returns-clause-rise c = (omega arith, (omega arith, (omega arith, (omega arith, tt))))

pub returns-clause-disorder : goal.returns-clause-disorder
returns-clause-disorder c = λ h. let later = h.1.1.0 in omega (arith, later)
