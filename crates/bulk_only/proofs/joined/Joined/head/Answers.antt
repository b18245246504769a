use Rattle.std.proofs.Common.{◌≡◌, ◌++◌, ◌+◌, ◌-◌, ◌∙◌, ap, arith, length, drop, min, length-drop}
use Rattle.bulk_only.proofs.Lists.{head_is}
use Rattle.bulk_only.proofs.joined.Joined.head.Goals as goal

pub returns : goal.returns
returns c =
    let n : (c.args.at + c.min.result) - c.args.at ≡ min (length (drop c.args.at c.args.self.now)) 31
    = rw (length-drop c.args.at c.args.self.now) (omega (arith, c.min.ensures, c.len.ensures, c.requires)) in
    c.append-2.ensures ∙ ap (λ t. t ++ c.part.result.1.now) (c.append.ensures ∙ ap (λ t. t ++ c.part.result.0.now) c.new-head.ensures)
    ∙ head_is c.part.result.0.now c.part.result.1.now (drop c.args.at c.args.self.now) _ c.part.ensures.bytes n
