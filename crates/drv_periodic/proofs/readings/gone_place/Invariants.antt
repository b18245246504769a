use Rattle.std.proofs.Common.{◌≡◌, ◌+◌, ◌≤◌, drop, length}
use Rattle.std.specs.List.{position_or_len}
use Rattle.drv_periodic.specs.Left.{is_gone}
use Rattle.drv_periodic.proofs.readings.gone_place.Given as goal

abbrev pub invariant-loop-place : goal.invariant-loop-place
invariant-loop-place l =
    record {
      so_far : l.place + position_or_len is_gone (drop l.place l.departures) ≡ position_or_len is_gone l.departures;
      within : l.place ≤ length l.departures;
    }
