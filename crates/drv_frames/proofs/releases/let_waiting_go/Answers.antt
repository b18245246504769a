use Rattle.std.proofs.Common.{arith, ap, ◌∙◌}
use Rattle.drv_table.specs.Removals.{let_go_waiting}
use Rattle.drv_harvests.proofs.Moved.{let_go_step}
use Rattle.drv_frames.proofs.releases.let_waiting_go.Goals as goal

pub loop-k-preserved : goal.loop-k-preserved
loop-k-preserved c =
    let f = let_go_waiting c.args.e c.args.told in
    record {
      items = let_go_step f c.args.transfers.now.items c.loop-k.transfers.items c.loop-k.k c.index.result.now c.let_if_waiting.result (omega (arith, c.loop-k-test.true, c.len-k-end.ensures)) c.loop-k.invariant.items (c.let_if_waiting.ensures ∙ ap f c.index.ensures);
      capacity = c.loop-k.invariant.capacity;
    }
