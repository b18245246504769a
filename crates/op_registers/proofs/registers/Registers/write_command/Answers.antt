use Rattle.std.proofs.Common.{◌≡◌, ◌/◌, ◌%◌, ◌∙◌, true, false, refl, sym, ap}
use Rattle.std.specs.Prelude.{◌==◌}
use Rattle.op_registers.specs.Events.{has}
use Rattle.op_registers.proofs.Bits.{has_bit}
use Rattle.op_registers.proofs.registers.Registers.write_command.Goals as goal

pub returns-then-contains : goal.returns-then-contains
returns-then-contains c =
    let asked : (c.args.word / 2 % 2 == 1) ≡ true =
    sym (has_bit 1 c.args.word) ∙ ap (λ n. has n 2) (sym (c.from_bits_retain.ensures tt)) ∙ sym (c.contains.ensures tt) ∙ c.if-contains.true
    in
    rw (asked) c.restart.ensures

pub returns : goal.returns
returns c =
    let asked : (c.args.word / 2 % 2 == 1) ≡ false =
    sym (has_bit 1 c.args.word) ∙ ap (λ n. has n 2) (sym (c.from_bits_retain.ensures tt)) ∙ sym (c.contains.ensures tt) ∙ c.if-contains.false
    in
    rw (asked) (c.write_enables.ensures ∙ rw (c.write_list_size.ensures) refl)
