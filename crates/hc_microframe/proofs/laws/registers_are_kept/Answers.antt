use Rattle.hc_microframe.proofs.KeptRegisters as kept
use Rattle.hc_microframe.proofs.laws.registers_are_kept.Goals as goal

pub returns : goal.returns
returns c = kept.registers_are_kept
