use Rattle.std.proofs.Common.{◌≡◌, ◌<◌, ◌*◌, map, ap, sym, ◌∙◌, arith}
use Rattle.bandwidth.specs.Placements.{below, placement_at, placement_row}
use Rattle.bandwidth.specs.Choice.{choice, better}
use Rattle.bandwidth.specs.Shapes.{turns, cells}
use Rattle.bandwidth.proofs.Best.{choice_more, choice_none}
use Rattle.bandwidth.proofs.Cells.{turn_more}
use Rattle.bandwidth.proofs.search.best_in_phase.Goals as goal

pub loop-first-init : goal.loop-first-init
loop-first-init g c = record {
  best = choice_none c.args.rules c.args.accounts.now.placed c.args.want.now c.args.so_far;
  steps = omega arith;
}

pub loop-first-preserved : goal.loop-first-preserved
loop-first-preserved g c =
    let w = c.args.want.now in
    let phase = c.args.phase in
    let first = c.loop-first.first in
    let small : first < (placement_row w).starts = omega (arith, c.loop-first-test.true, c.starts-first-end.ensures.value) in
    let at = c.requires.shapes.first first _ small in
    record {
      best =
          c.better_of-best.ensures.better
          ∙ ap (λ s. better c.args.rules c.args.accounts.now.placed w c.loop-first.best (placement_at w phase s)) at
          ∙ ap (λ b. better c.args.rules c.args.accounts.now.placed w b (placement_at w phase first)) c.loop-first.invariant.best
          ∙ sym (choice_more c.args.rules c.args.accounts.now.placed w c.args.so_far (placement_at w phase) first);
      steps =
          omega (
            arith,
            c.better_of-best.ensures.steps,
            c.loop-first.invariant.steps,
            turn_more first (turns w.period * cells w),
          );
    }

pub better_of-best-requires-clause-shape : goal.better_of-best-requires-clause-shape
better_of-best-requires-clause-shape g c =
    c.requires.shapes.shapes c.loop-first.first _
    (omega (arith, c.loop-first-test.true, c.starts-first-end.ensures.value))

pub returns-clause-best : goal.returns-clause-best
returns-clause-best g c =
    let end : c.loop-first.first ≡ (placement_row c.args.want.now).starts = omega (arith, c.starts-first-end.ensures.value) in
    c.loop-first.invariant.best
    ∙ ap (λ n. choice c.args.rules c.args.accounts.now.placed c.args.want.now c.args.so_far (map (placement_at c.args.want.now c.args.phase) (below n))) end
