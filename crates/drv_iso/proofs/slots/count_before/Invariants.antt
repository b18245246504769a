use Rattle.std.proofs.Common.{◌≡◌, ◌≤◌}
use Rattle.drv_periodic_table.specs.Descriptors.{slots_before}
use Rattle.drv_iso.proofs.slots.count_before.Given as goal

abbrev pub invariant-loop-v : goal.invariant-loop-v
invariant-loop-v l = record {
  counted : l.count ≡ slots_before l.smask l.v;
  few : l.count ≤ l.v;
}
