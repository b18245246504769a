use Rattle.std.proofs.Common.{◌<◌, sym, refl, arith, ◌∙◌}
use Rattle.std.proofs.lemmas.Bool.{leb-false}
use Rattle.bandwidth.specs.Placements.{placement_row}
use Rattle.bandwidth.proofs.Admits.{best_option, option_is_of, option_turns, all_steps, best_fits, best_is, best_none, some_not_none}
use Rattle.bandwidth.proofs.Spans.{few_starts}
use Rattle.bandwidth.proofs.plan.Plan.admit_counted.Goals as goal

pub bounds-shapes-first : goal.bounds-shapes-first
bounds-shapes-first g c =
    let opt = best_option _ _ c.args.want.now c.in-Some.placement c.requires.want (sym c.in-Some.ensures.best) in
    omega (arith, opt.first, c.first_bit-first.ensures.value, few_starts c.args.want.now)

pub join-requires-clause-shape : goal.join-requires-clause-shape
join-requires-clause-shape g c =
    let opt = best_option _ _ c.args.want.now c.in-Some.placement c.requires.want (sym c.in-Some.ensures.best) in
    let small : c.first_bit-first.result < (placement_row c.args.want.now).starts = rw c.first_bit-first.ensures.value opt.first in
    c.shapes_of-shapes.ensures.shapes c.first_bit-first.result _ small

pub join-requires-clause-place : goal.join-requires-clause-place
join-requires-clause-place g c =
    let opt = best_option _ _ c.args.want.now c.in-Some.placement c.requires.want (sym c.in-Some.ensures.best) in
    let small : c.first_bit-first.result < (placement_row c.args.want.now).starts = rw c.first_bit-first.ensures.value opt.first in
    option_is_of c.args.want.now c.in-Some.placement _ opt
    (c.shapes_of-shapes.ensures.shapes c.first_bit-first.result _ small)
    (c.shapes_of-shapes.ensures.first c.first_bit-first.result _ small ∙ c.first_bit-first.ensures.value)

pub join-requires-clause-fits : goal.join-requires-clause-fits
join-requires-clause-fits g c = best_fits _ _ c.args.want.now c.in-Some.placement (sym c.in-Some.ensures.best)

pub returns-in-Some-clause-placed : goal.returns-in-Some-clause-placed
returns-in-Some-clause-placed g c =
    rw (← c.self.view_is) (best_is _ _ c.args.want.now c.in-Some.placement (sym c.in-Some.ensures.best))

pub returns-in-Some-clause-fits : goal.returns-in-Some-clause-fits
returns-in-Some-clause-fits g c =
    rw c.join.ensures.placed (best_fits _ _ c.args.want.now c.in-Some.placement (sym c.in-Some.ensures.best))

pub returns-in-Some-clause-no_placement : goal.returns-in-Some-clause-no_placement
returns-in-Some-clause-no_placement g c =
    rw (← c.self.view_is)
    (λ e. cc, λ h. absurd (some_not_none _ _ c.args.want.now c.in-Some.placement (sym c.in-Some.ensures.best) h.1))

pub returns-in-Some-clause-steps : goal.returns-in-Some-clause-steps
returns-in-Some-clause-steps g c =
    let w = c.args.want.now in
    let opt = best_option _ _ w c.in-Some.placement c.requires.want (sym c.in-Some.ensures.best) in
    let joined = rw (option_turns w c.in-Some.placement opt) at c.join.ensures.steps in
    omega (arith, c.in-Some.ensures.steps, joined, all_steps w c.requires.want)

pub returns-in-None-clause-no_placement : goal.returns-in-None-clause-no_placement
returns-in-None-clause-no_placement g c =
    let free = leb-false _ _ (sym c.is_full.ensures.full ∙ c.if-is_full.false) in
    rw (← c.self.view_is) (λ e. (free, best_none _ _ c.args.want.now (sym c.in-None.ensures.best)), λ h. refl)

pub returns-in-None-clause-steps : goal.returns-in-None-clause-steps
returns-in-None-clause-steps g c = omega (arith, c.in-None.ensures.steps, all_steps c.args.want.now c.requires.want)
