use Rattle.std.proofs.Common.{◌≡◌, ◌-◌, ◌≤◌, ◌++◌, length, drop}
use Rattle.word_mem.specs.Access.{IsByController}
use Rattle.mem_bytes.specs.Bytes.{AreReached, bytes_at}
use Rattle.mem_bytes.proofs.transfers.hc_load.Given as goal

abbrev pub invariant-loop-done : goal.invariant-loop-done
invariant-loop-done g l =
    (l.done ≤ length l.initial.into)
    × (((g.M.HcMemory.mem l.mem) ≡ (g.M.HcMemory.mem l.initial.mem))
    × ((l.into ≡ bytes_at (g.M.HcMemory.mem l.initial.mem) l.pages l.from l.done ++ drop l.done l.initial.into)
    × (AreReached (g.M.HcMemory.mem l.initial.mem) l.pages l.from l.done
    × IsByController (g.M.HcMemory.mem l.initial.mem) (g.M.HcMemory.mem l.mem))))

abbrev pub decreases-loop-done : goal.decreases-loop-done
decreases-loop-done g l = length l.into - l.done
