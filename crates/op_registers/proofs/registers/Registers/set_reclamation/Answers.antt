use Rattle.std.proofs.Common.{arith, lit<}
use Rattle.op_registers.proofs.Bits.{has-set}
use Rattle.op_registers.proofs.registers.Registers.set_reclamation.Goals as goal

pub returns : goal.returns
returns c = grind (arith, has-set 0 0x2000 (lit< tt) (lit< tt), has-set 1 0x2000 (lit< tt) (lit< tt), has-set 2 0x2000 (lit< tt) (lit< tt), has-set 3 0x2000 (lit< tt) (lit< tt), has-set 4 0x2000 (lit< tt) (lit< tt), has-set 5 0x2000 (lit< tt) (lit< tt), has-set 13 0x2000 (lit< tt) (lit< tt))
