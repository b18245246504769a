use Rattle.std.proofs.Common.{◌≡◌, ◌++◌, map, take, drop}
use Rattle.std.specs.Vec.{vec_capacity, vec_len}
use Rattle.drv_periodic.specs.Left.{read_by}
use Rattle.drv_periodic.proofs.readings.read_all.Given as goal

abbrev pub invariant-loop-place : goal.invariant-loop-place
invariant-loop-place l =
    record {
      so_far : l.departures.items ≡ map (read_by l.frindex) (take l.place l.fn.departures.items) ++ drop l.place l.fn.departures.items;
      len : vec_len l.departures ≡ vec_len l.fn.departures;
      capacity : vec_capacity l.departures ≡ vec_capacity l.fn.departures;
    }
