use Rattle.std.proofs.Common.{◌≡◌, ◌+◌, ◌≤◌, drop, length}
use Rattle.std.specs.List.{position_or_len}
use Rattle.drv_members.specs.Ranks.{is_called}
use Rattle.drv_members.proofs.descriptors.place_of.Given as goal

abbrev pub invariant-loop-place : goal.invariant-loop-place
invariant-loop-place l =
    record {
      so_far : l.place + position_or_len (is_called l.id) (drop l.place l.descriptors) ≡ position_or_len (is_called l.id) l.descriptors;
      within : l.place ≤ length l.descriptors;
    }
