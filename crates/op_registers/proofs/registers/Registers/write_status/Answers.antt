use Rattle.std.proofs.Common.{arith, lit<, ◌<◌, ◌^◌}
use Rattle.std.specs.Int.RustNames.{bit_and}
use Rattle.std.proofs.lemmas.Nat.{and_le_r}
use Rattle.op_registers.proofs.Bits.{has_bit, has-and, has-without, clear-test}
use Rattle.op_registers.proofs.registers.Registers.write_status.Goals as goal

pub returns : goal.returns
returns c =
    let few : bit_and c.args.word 63 < 2 ^ 32 = omega (arith, and_le_r c.args.word 63) in
    rw (← c.self.view_is)
    (simp (
      c.remove.ensures tt,
      c.intersection.ensures tt,
      c.from_bits_retain-written.ensures tt,
      has-without 0 (bit_and c.args.word 63) few (lit< tt),
      has-without 1 (bit_and c.args.word 63) few (lit< tt),
      has-without 2 (bit_and c.args.word 63) few (lit< tt),
      has-without 3 (bit_and c.args.word 63) few (lit< tt),
      has-without 4 (bit_and c.args.word 63) few (lit< tt),
      has-without 5 (bit_and c.args.word 63) few (lit< tt),
      has-without 13 (bit_and c.args.word 63) few (lit< tt),
      has-and 0,
      has-and 1,
      has-and 2,
      has-and 3,
      has-and 4,
      has-and 5,
      has-and 13,
      has_bit 0 c.args.word,
      has_bit 1 c.args.word,
      has_bit 2 c.args.word,
      has_bit 3 c.args.word,
      has_bit 4 c.args.word,
      has_bit 5 c.args.word,
      clear-test,
    ))
