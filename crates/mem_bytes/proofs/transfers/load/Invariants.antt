use Rattle.std.proofs.Common.{◌≡◌, ◌-◌, ◌≤◌, ◌++◌, length, drop}
use Rattle.mem_bytes.specs.Bytes.{bytes_at}
use Rattle.mem_bytes.proofs.transfers.load.Given as goal

abbrev pub invariant-loop-done : goal.invariant-loop-done
invariant-loop-done l = (l.done ≤ length l.initial.into) × (l.into ≡ bytes_at l.mem l.pages l.from l.done ++ drop l.done l.initial.into)

abbrev pub decreases-loop-done : goal.decreases-loop-done
decreases-loop-done l = length l.into - l.done
