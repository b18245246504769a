use Rattle.std.proofs.Common.{◌≡◌, ◌-◌, ◌≤◌, length, take}
use Rattle.word_mem.specs.Access.{IsByController}
use Rattle.mem_bytes.specs.Bytes.{AreReached, with_bytes}
use Rattle.mem_bytes.proofs.transfers.hc_store.Given as goal

abbrev pub invariant-loop-done : goal.invariant-loop-done
invariant-loop-done g l =
    (l.done ≤ length l.bytes)
    × (((g.M.HcMemory.mem l.mem) ≡ with_bytes (g.M.HcMemory.mem l.initial.mem) l.pages l.from (take l.done l.bytes))
    × (AreReached (g.M.HcMemory.mem l.initial.mem) l.pages l.from l.done
    × IsByController (g.M.HcMemory.mem l.initial.mem) (g.M.HcMemory.mem l.mem)))

abbrev pub decreases-loop-done : goal.decreases-loop-done
decreases-loop-done g l = length l.bytes - l.done
