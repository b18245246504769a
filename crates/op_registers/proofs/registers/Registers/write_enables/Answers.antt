use Rattle.std.proofs.Common.{◌/◌}
use Rattle.std.proofs.lemmas.Nat.{and_mask}
use Rattle.op_registers.proofs.Bits.{has_bit, has-or, has-and, set-test}
use Rattle.op_registers.proofs.registers.Registers.write_enables.Goals as goal

pub returns : goal.returns
returns c =
    rw (← c.self.view_is)
    (simp (
      c.union-self-inside.ensures tt,
      c.intersection.ensures tt,
      c.intersection-rung.ensures tt,
      c.from_bits_retain-written.ensures tt,
      has-or 0,
      has-or 4,
      has-or 5,
      has-or 6,
      has-and 0,
      has-and 4,
      has-and 5,
      has-and 6,
      has_bit 0 c.args.word,
      has_bit 4 c.args.word,
      has_bit 5 c.args.word,
      has_bit 6 c.args.word,
      set-test,
      and_mask (c.args.word / 65536) 8,
    ))
