use Rattle.std.proofs.Common.{refl, arith}
use Rattle.law_microframes.proofs.translators.worked.stuffed_bits_count.Goals as goal

pub returns-clause-some : goal.returns-clause-some
returns-clause-some c = λ few. let e = few 1 _ refl in omega (arith, e)
