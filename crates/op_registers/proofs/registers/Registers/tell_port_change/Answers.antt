use Rattle.op_registers.proofs.Bits.{has-or}
use Rattle.op_registers.proofs.registers.Registers.tell_port_change.Goals as goal

pub returns : goal.returns
returns c = rw (← c.self.view_is) (simp (c.insert.ensures tt, has-or 0, has-or 1, has-or 2, has-or 3, has-or 4, has-or 5, has-or 13))
