use Rattle.std.proofs.Common.{◌≡◌, ◌*◌, None, ap, sym, ◌∙◌, arith}
use Rattle.std.specs.List.{flat_map}
use Rattle.bandwidth.specs.Placements.{below, in_phase, frame_period, placement_row}
use Rattle.bandwidth.specs.Choice.{choice, place_in}
use Rattle.bandwidth.specs.Shapes.{turns, cells}
use Rattle.bandwidth.proofs.Best.{best_of, choice_phase, choice_none}
use Rattle.bandwidth.proofs.Cells.{turn_more}
use Rattle.bandwidth.proofs.search.best_placement.Goals as goal

pub loop-phase-init : goal.loop-phase-init
loop-phase-init g c = record {
  best = choice_none c.args.rules c.args.accounts.now.placed c.args.want.now None;
  steps = omega arith;
}

pub loop-phase-preserved : goal.loop-phase-preserved
loop-phase-preserved g c =
    let w = c.args.want.now in
    record {
      best =
          c.best_in_phase-best.ensures.best
          ∙ ap (λ b. choice c.args.rules c.args.accounts.now.placed w b (in_phase w c.loop-phase.phase)) c.loop-phase.invariant.best
          ∙ sym (choice_phase c.args.rules c.args.accounts.now.placed w None (in_phase w) c.loop-phase.phase);
      steps =
          omega (
            arith,
            c.best_in_phase-best.ensures.steps,
            c.loop-phase.invariant.steps,
            turn_more c.loop-phase.phase ((placement_row w).starts * (turns w.period * cells w)),
          );
    }

pub returns-clause-best : goal.returns-clause-best
returns-clause-best g c =
    let w = c.args.want.now in
    let end : c.loop-phase.phase ≡ frame_period w.period = omega (arith, c.frames_of-phase-end.ensures.value) in
    c.placement_in.ensures
    ∙ ap place_in
    (c.loop-phase.invariant.best
    ∙ ap (λ n. choice c.args.rules c.args.accounts.now.placed w None (flat_map (in_phase w) (below n))) end)
    ∙ best_of c.args.rules c.args.accounts.now.placed w
