use Rattle.std.proofs.Common.{◌≡◌, drop}
use Rattle.std.specs.List.{find}
use Rattle.drv_chains.specs.Chains.{is_active}
use Rattle.drv_members.proofs.queues.first_from.Given as goal

abbrev pub invariant-loop-place : goal.invariant-loop-place
invariant-loop-place l = find (is_active l.frame) (drop l.place l.queues) ≡ find (is_active l.frame) (drop l.from l.queues)
