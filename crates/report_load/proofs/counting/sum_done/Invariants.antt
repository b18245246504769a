use Rattle.std.proofs.Common.{◌≡◌, ◌≤◌, ◌*◌, take}
use Rattle.std.specs.Prelude.{sum_by}
use Rattle.report_load.specs.Summary.{done_bytes}
use Rattle.report_load.proofs.counting.sum_done.Given as goal

abbrev pub invariant-loop-report : goal.invariant-loop-report
invariant-loop-report l = record {
  total : l.bytes ≡ sum_by done_bytes (take l.report-index l.reports);
  bound : l.bytes ≤ l.report-index * 4294967295;
}
