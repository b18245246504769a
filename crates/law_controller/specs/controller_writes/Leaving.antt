-- What an event of the controller leaves of memory, where it runs over a ring that is told by its structures (EHCI 1.0, 3.6, 4.8 and 4.10).
--     LeavesRest parts m new     what isn't Lent stays, and of each queue head that is told its link, its characteristics and its capabilities,
--                                words 0 to 2, which it never writes (3.6)
use Rattle.std.specs.Prelude.{◌≡◌, ℕ, ◌+◌, ◌*◌, ◌<◌, Some}
use Rattle.word_mem.specs.Memory.{Mem, word_at}
use Rattle.qh_qtd.specs.declared.queue_head.Qh.{Qh}
use Rattle.law_structures.specs.lent_structures.Structures.{QueueHead, StructureSets}
use Rattle.law_ring.specs.walk_writes.Writes.{WritesLent}

pub record LeavesRest (parts : StructureSets) (m new : Mem) : Type 0 where
  pub lent : WritesLent m new
  pub heads : (n a : ℕ) (q : Qh) (i : ℕ) → parts n a ≡ Some (QueueHead q) → i < 3 → word_at new (a + 4 * i) ≡ word_at m (a + 4 * i)
