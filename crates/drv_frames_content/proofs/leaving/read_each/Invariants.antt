use Rattle.std.proofs.Common.{◌≡◌, ◌++◌, map, take, drop}
use Rattle.std.specs.VecDeque.{deque_capacity}
use Rattle.drv_periodic_table.specs.Periodic.{read_once}
use Rattle.drv_frames_content.proofs.leaving.read_each.Given as goal

abbrev pub invariant-loop-i : goal.invariant-loop-i
invariant-loop-i l = record {
  items : l.removals.items ≡ map (read_once l.frindex) (take l.i l.fn.removals.items) ++ drop l.i l.fn.removals.items;
  capacity : deque_capacity l.removals ≡ deque_capacity l.fn.removals;
}
