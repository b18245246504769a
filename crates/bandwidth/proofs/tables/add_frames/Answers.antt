use Rattle.std.proofs.Common.{◌≡◌, ◌/◌, ◌∙◌, arith}
use Rattle.bandwidth.specs.Placements.{frame_period}
use Rattle.bandwidth.specs.Sums.{is_active}
use Rattle.bandwidth.proofs.Cells.{set_cells, set_adds}
use Rattle.bandwidth.proofs.Turns.{one_more}
use Rattle.bandwidth.proofs.tables.add_frames.Goals as goal

pub loop-k-preserved : goal.loop-k-preserved
loop-k-preserved g c =
    let p = c.args.placement.now in
    let n = c.active_frame.result in
    record {
      cells = set_cells c.loop-k.table c.add.new.self n _ c.add.ensures.cells ∙ c.loop-k.invariant.cells;
      sums = λ f h.
          let step =
          one_more (is_active p f) (f / frame_period p.period) c.loop-k.k f n c.args.amount
          (λ (e : f ≡ n). rw e c.active_frame.ensures.active)
          (λ (e : f ≡ n). rw e c.active_frame.ensures.turn)
          (λ a t. c.active_frame.ensures.only f a t) in
          let cell =
          set_adds c.loop-k.table c.add.new.self n c.args.amount c.add.ensures.cells
          (omega (arith, c.active_frame.ensures.bound, c.loop-k.invariant.cells)) f in
          omega (arith, step, cell, c.loop-k.invariant.sums f h);
      steps = omega (arith, c.add.ensures.step, c.loop-k.invariant.steps);
    }
