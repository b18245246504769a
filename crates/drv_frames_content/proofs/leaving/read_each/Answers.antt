use Rattle.std.proofs.Common.{arith, ◌∙◌}
use Rattle.drv_periodic_table.specs.Periodic.{read_once}
use Rattle.drv_frames_content.proofs.Readings.{step}
use Rattle.drv_frames_content.proofs.leaving.read_each.Goals as goal

pub loop-i-preserved : goal.loop-i-preserved
loop-i-preserved c = record {
  items = step (read_once c.args.frindex) c.args.removals.now.items c.loop-i.removals.items c.read_at.new.removals.items c.loop-i.i (omega (arith, c.loop-i-test.true, c.len-i-end.ensures)) c.loop-i.invariant.items c.read_at.ensures.items;
  capacity = c.read_at.ensures.capacity ∙ c.loop-i.invariant.capacity;
}
