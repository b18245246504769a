use Rattle.std.proofs.Common.{length, arith, sym}
use Rattle.std.proofs.lemmas.List.Sums.{position_or_len_is}
use Rattle.script_text.proofs.lines.first_of.Goals as goal

pub returns-clause-place : goal.returns-clause-place
returns-clause-place c = sym (position_or_len_is _ c.args.text.now (length c.args.text.now) 0 (omega arith)
    (λ k h. c.loop-at.invariant k (omega arith)) (λ h. absurd (omega arith)))
