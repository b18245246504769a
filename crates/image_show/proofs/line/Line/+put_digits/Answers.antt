use Rattle.std.proofs.Common.{ℕ, ◌+◌, ◌%◌, ◌/◌, ◌∷◌, [], List, ◌++◌, length, decimal, ap, sym, ◌∙◌, append_assoc, length-append, arith}
use Rattle.image_show.proofs.Decimals.{decimal_more, length-decimal_more}
use Rattle.image_show.proofs.line.Line.+put_digits.Goals as goal

pub put_digit-requires-2-clause-room : goal.put_digit-requires-2-clause-room
put_digit-requires-2-clause-room t c =
    let front = ap length c.put_digits.ensures ∙ length-append c.args.self.now (decimal (c.args.n / 10)) in
    let more = length-decimal_more c.args.n (omega arith) (omega arith) in
    omega (arith, front, more)

pub returns : goal.returns
returns t c =
    let last = (48 + c.args.n % 10) ∷ [] in
    c.put_digit-2.ensures ∙ ap (λ (text : List ℕ). text ++ last) c.put_digits.ensures ∙ append_assoc c.args.self.now (decimal (c.args.n / 10)) last
    ∙ ap (λ (text : List ℕ). c.args.self.now ++ text) (sym (decimal_more c.args.n (omega arith) (omega arith)))
