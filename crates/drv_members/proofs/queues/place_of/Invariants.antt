use Rattle.std.proofs.Common.{◌≡◌, ◌+◌, ◌≤◌, drop, length}
use Rattle.std.specs.List.{position_or_len}
use Rattle.drv_members.specs.Ranks.{is_named}
use Rattle.drv_members.proofs.queues.place_of.Given as goal

abbrev pub invariant-loop-place : goal.invariant-loop-place
invariant-loop-place l =
    record {
      so_far : l.place + position_or_len (is_named l.id) (drop l.place l.queues) ≡ position_or_len (is_named l.id) l.queues;
      within : l.place ≤ length l.queues;
    }
