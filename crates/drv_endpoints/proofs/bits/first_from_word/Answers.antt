use Rattle.std.proofs.Common.{◌*◌, arith, refl, inl, inr}
use Rattle.std.proofs.lemmas.Bool.{cases_lt}
use Rattle.drv_endpoints.proofs.Words.{found_in, none_in, none_past}
use Rattle.drv_endpoints.proofs.bits.first_from_word.Goals as goal

pub returns-in-Some-clause-first : goal.returns-in-Some-clause-first
returns-in-Some-clause-first c =
    found_in c.args.words.now (64 * c.args.from) c.loop-word.word 0 c.in-Some.bit _ refl (omega (arith, c.loop-word.auto.word))
    (λ k a b. c.loop-word.invariant k a (omega (arith, b))) c.in-Some.ensures.first

pub loop-word-preserved : goal.loop-word-preserved
loop-word-preserved c =
    none_in c.args.words.now (64 * c.args.from) c.loop-word.word 0 _ refl (λ k a b. c.loop-word.invariant k a (omega (arith, b))) c.in_default.ensures.none

pub returns-clause-none : goal.returns-clause-none
returns-clause-none c = λ k a. elim (cases_lt k (64 * c.loop-word.word)) [
  | inl h ↦ c.loop-word.invariant k a h
  | inr h ↦ none_past c.args.words.now k (omega (arith, h, c.loop-word-test.false))
]
