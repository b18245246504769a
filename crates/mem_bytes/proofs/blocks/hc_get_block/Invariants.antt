use Rattle.std.proofs.Common.{◌≡◌, ◌*◌, ◌++◌, drop}
use Rattle.mem_bytes.specs.Bytes.{bytes_at}
use Rattle.mem_bytes.proofs.blocks.hc_get_block.Given as goal

abbrev pub invariant-loop-i : goal.invariant-loop-i
invariant-loop-i g l = l.into ≡ bytes_at (g.M.HcMemory.mem l.mem) l.pages l.k (4 * l.i) ++ drop (4 * l.i) l.initial.into
