use Rattle.std.proofs.Common.{arith, not, ap, ◌∙◌}
use Rattle.script_forms.proofs.Pairs.{keeps_pairs}
use Rattle.script_forms.proofs.hexes.are_pairs.Goals as goal

pub loop-at-preserved : goal.loop-at-preserved
loop-at-preserved c =
    keeps_pairs c.args.word.now c.loop-at.at c.byte.result (omega arith) c.byte.ensures (c.is_none.ensures ∙ ap not c.if-is_none.false)
    ∙ c.loop-at.invariant
