use Rattle.std.proofs.Common.{◌≡◌, drop}
use Rattle.drv_table.specs.Accepting.{oldest_of}
use Rattle.drv_queues.proofs.endpoints.oldest.Given as goal

abbrev pub invariant-loop-x : goal.invariant-loop-x
invariant-loop-x l = oldest_of (drop l.x-index l.endpoints) ≡ oldest_of l.endpoints
