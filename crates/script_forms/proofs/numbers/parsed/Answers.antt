use Rattle.std.proofs.Common.{refl}
use Rattle.std.specs.declared.num.ParseIntError.{ParseIntError}
use Rattle.script_forms.proofs.Decimals.{decimal_is_utf8, decimal_begins, parsed_is_decimal, unparsed_is_no_decimal}
use Rattle.script_forms.proofs.numbers.parsed.Goals as goal

pub returns-then-has_zero_or_plus-clause-none : goal.returns-then-has_zero_or_plus-clause-none
returns-then-has_zero_or_plus-clause-none c = λ n h e. decimal_begins c.args.word.now n h e (c.if-has_zero_or_plus.ensures.0 refl)

pub returns-in_default-clause-none : goal.returns-in_default-clause-none
returns-in_default-clause-none c = λ n h e. c.in_default.ensures.cases.0 (decimal_is_utf8 c.args.word.now n h e)

pub returns-in-Ok-parse-clause-some : goal.returns-in-Ok-parse-clause-some
returns-in-Ok-parse-clause-some c = parsed_is_decimal ParseIntError c.args.word.now c.in-Ok-parse.n
    (λ h. let t = c.if-has_zero_or_plus.ensures.1 h in cc)
    (rw c.in-Ok.ensures.cases.0 at c.in-Ok-parse.ensures.value.0)

pub returns-in-Err-clause-none : goal.returns-in-Err-clause-none
returns-in-Err-clause-none c = λ n h e. unparsed_is_no_decimal c.args.word.now n c.in-Err.field-0 h e
    (rw c.in-Ok.ensures.cases.0 at c.in-Err.ensures.value.0)
