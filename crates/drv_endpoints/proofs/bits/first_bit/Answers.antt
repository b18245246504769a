use Rattle.std.proofs.Common.{◌+◌, ◌*◌, ◌/◌, ◌%◌, arith, refl}
use Rattle.drv_endpoints.proofs.Words.{found_in, none_in, none_past, first_later, none_later}
use Rattle.drv_endpoints.proofs.bits.first_bit.Goals as goal

pub returns-then-word-words-clause-none : goal.returns-then-word-words-clause-none
returns-then-word-words-clause-none c = λ k a. none_past c.args.words.now k (omega (arith, a, c.if-word-words.true))

pub returns-in-Some-clause-first : goal.returns-in-Some-clause-first
returns-in-Some-clause-first c =
    found_in c.args.words.now c.args.from (c.args.from / 64) (c.args.from % 64) c.in-Some.bit _ refl (omega arith)
    (λ k a b. absurd (omega (arith, a, b))) c.in-Some.ensures.first

pub returns-in-None-clause-first : goal.returns-in-None-clause-first
returns-in-None-clause-first c =
    first_later c.args.words.now c.args.from (64 * (c.args.from / 64 + 1)) c.first_from_word.result (omega arith)
    (none_in c.args.words.now c.args.from (c.args.from / 64) (c.args.from % 64) _ refl (λ k a b. absurd (omega (arith, a, b))) c.in-None.ensures.none)
    c.first_from_word.ensures.first

pub returns-in-None-clause-none : goal.returns-in-None-clause-none
returns-in-None-clause-none c =
    none_later c.args.words.now c.args.from (64 * (c.args.from / 64 + 1)) c.first_from_word.result
    (none_in c.args.words.now c.args.from (c.args.from / 64) (c.args.from % 64) _ refl (λ k a b. absurd (omega (arith, a, b))) c.in-None.ensures.none)
    c.first_from_word.ensures.none
