use Rattle.std.proofs.Common.{lit<}
use Rattle.op_registers.proofs.Bits.{has-or, has-without}
use Rattle.op_registers.proofs.registers.Registers.advance.Goals as goal

pub returns : goal.returns
returns c =
    rw (← c.self.view_is)
    (simp (
      c.insert.ensures tt,
      c.remove.ensures tt,
      has-or 0,
      has-or 1,
      has-or 2,
      has-or 3,
      has-or 4,
      has-or 5,
      has-or 13,
      has-without 0 0x40 (lit< tt) (lit< tt),
      has-without 4 0x40 (lit< tt) (lit< tt),
      has-without 5 0x40 (lit< tt) (lit< tt),
      has-without 6 0x40 (lit< tt) (lit< tt),
    ))
