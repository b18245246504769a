use Rattle.std.proofs.Common.{arith, sym, ◌∙◌}
use Rattle.link_words.proofs.Bits.{bits_zero, first_bit_none, first_set_is}
use Rattle.link_words.proofs.word_bits.first_set.Goals as goal

pub returns-then-gap-eq0 : goal.returns-then-gap-eq0
returns-then-gap-eq0 c =
    let a = c.args in
    sym (first_bit_none _ a.low _ (λ k from to. bits_zero a.word a.low a.high c.requires.ordered (sym c.field-gap.ensures ∙ c.if-gap-eq0.true) k from (omega arith)))

pub returns : goal.returns
returns c =
    let a = c.args in
    rw c.field-gap.ensures (sym (first_set_is a.word a.low a.high c.requires.ordered c.requires.in_word (omega (arith, c.field-gap.ensures, c.if-gap-eq0.false))))
