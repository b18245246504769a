use Rattle.hc_microframe.proofs.Words as words
use Rattle.hc_microframe.proofs.laws.words_keep_registers.Goals as goal

pub returns : goal.returns
returns c = words.words_keep_registers
