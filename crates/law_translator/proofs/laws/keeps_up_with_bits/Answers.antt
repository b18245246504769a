use Rattle.law_translator.proofs.KeepsStuffed.{keeps_up_with_bits}
use Rattle.law_translator.proofs.laws.keeps_up_with_bits.Goals as goal

pub returns : goal.returns
returns c = keeps_up_with_bits
