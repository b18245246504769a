use Rattle.op_registers.proofs.Bits.{has-or, has-and}
use Rattle.op_registers.proofs.registers.Registers.raise.Goals as goal

pub returns : goal.returns
returns c = rw (← c.self.view_is) (simp (c.insert.ensures tt, c.intersection.ensures tt, has-or 0, has-or 1, has-or 2, has-or 3, has-or 4, has-or 5, has-or 13, has-and 0, has-and 1, has-and 2, has-and 3, has-and 4, has-and 5, has-and 13))
