use Rattle.std.proofs.Common.{◌≡◌, ◌≤◌, ◌*◌, take}
use Rattle.std.specs.Prelude.{sum_by}
use Rattle.report_load.specs.Summary.{waiting_at}
use Rattle.report_load.proofs.counting.sum_waiting.Given as goal

abbrev pub invariant-loop-seat : goal.invariant-loop-seat
invariant-loop-seat l = record {
  total : l.pending ≡ sum_by (waiting_at l.world.work.world.driver) (take l.seat-index l.seats);
  bound : l.pending ≤ l.seat-index * 4294967295;
}
