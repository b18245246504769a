use Rattle.law_translator.proofs.Works.{works_told}
use Rattle.law_translator.proofs.laws.works_by_functions.Goals as goal

pub returns : goal.returns
returns g c = λ reply_of wire_after is_function. works_told g.W.Wire.transacts reply_of wire_after is_function
