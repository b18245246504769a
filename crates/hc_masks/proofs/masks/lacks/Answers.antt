use Rattle.std.proofs.Common.{sym, ap, not, ◌&&◌, ◌||◌, ◌∙◌}
use Rattle.hc_masks.specs.Masks.{has}
use Rattle.hc_masks.proofs.Earlier.{lacks_none, lacks_more}
use Rattle.hc_masks.proofs.masks.lacks.Goals as goal

pub loop-earlier-init : goal.loop-earlier-init
loop-earlier-init c = sym (lacks_none c.args.mask c.args.done)

pub loop-earlier-preserved : goal.loop-earlier-preserved
loop-earlier-preserved c =
    c.is_open-open.ensures
    ∙ ap (λ b. b || (has c.args.mask c.loop-earlier.earlier && not (has c.args.done c.loop-earlier.earlier))) c.loop-earlier.invariant
    ∙ sym (lacks_more c.args.mask c.args.done c.loop-earlier.earlier)
