use Rattle.std.proofs.Common.{◌≡◌, ◌/◌, ◌≤◌, ◌∙◌, arith, get_or}
use Rattle.bandwidth.specs.Placements.{frame_period}
use Rattle.bandwidth.specs.Sums.{is_active}
use Rattle.bandwidth.proofs.Cells.{set_cells, set_takes, not_yet}
use Rattle.bandwidth.proofs.Turns.{one_more}
use Rattle.bandwidth.proofs.tables.sub_frames.Goals as goal

pub loop-k-preserved : goal.loop-k-preserved
loop-k-preserved c =
    let p = c.args.placement.now in
    let n = c.active_frame.result in
    record {
      cells = set_cells c.loop-k.table c.sub.new.self n _ c.sub.ensures ∙ c.loop-k.invariant.cells;
      sums = λ f h.
          let step =
          one_more (is_active p f) (f / frame_period p.period) c.loop-k.k f n c.args.amount
          (λ (e : f ≡ n). rw e c.active_frame.ensures.active)
          (λ (e : f ≡ n). rw e c.active_frame.ensures.turn)
          (λ a t. c.active_frame.ensures.only f a t) in
          let enough : c.args.amount ≤ get_or c.loop-k.table n 0 =
          omega (
            arith,
            c.loop-k.invariant.sums n c.active_frame.ensures.bound,
            not_yet (is_active p n) (n / frame_period p.period) c.loop-k.k c.args.amount c.active_frame.ensures.turn,
            c.requires.enough n c.active_frame.ensures.bound c.active_frame.ensures.active,
          ) in
          let cell =
          set_takes c.loop-k.table c.sub.new.self n c.args.amount c.sub.ensures
          (omega (arith, c.active_frame.ensures.bound, c.loop-k.invariant.cells)) enough f in
          omega (arith, step, cell, c.loop-k.invariant.sums f h);
    }
