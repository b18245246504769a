-- The words of structures that no event of the controller writes (EHCI 1.0, 3.1 and 3.3 to 3.6).
--     LeavesStructures parts m new   what isn't Lent stays, and of each structure that is told: words 0 to 2 of a queue head, which are its link, its
--                                    characteristics and its capabilities; of a qTD all but word 2, its token; of an iTD all but words 1 to 8, its
--                                    microframes; of a siTD words 0 to 2 and word 6, all but its state and its place; and all of a table
--     IsWithin some parts            each of these structures is one of those
use Rattle.std.specs.Prelude.{◌≡◌, ℕ, ◌+◌, ◌*◌, ◌<◌, ◌≤◌, ◌⊎◌, List, length, Some}
use Rattle.word_mem.specs.Memory.{Mem, word_at}
use Rattle.qh_qtd.specs.declared.qtd.Qtd.{Qtd}
use Rattle.qh_qtd.specs.declared.queue_head.Qh.{Qh}
use Rattle.itd_sitd.specs.declared.itd.Itd.{Itd}
use Rattle.itd_sitd.specs.declared.sitd.Sitd.{Sitd}
use Rattle.law_structures.specs.lent_structures.Structures.{Structure, QueueHead, Element, Table, Isochronous, SplitIsochronous, StructureSets}
use Rattle.law_ring.specs.walk_writes.Writes.{WritesLent}

-- word i of what begins at a is as it was
abbrev pub LeavesWord : Mem → Mem → ℕ → ℕ → Type 0
LeavesWord m new a i = word_at new (a + 4 * i) ≡ word_at m (a + 4 * i)

pub record LeavesStructures (parts : StructureSets) (m new : Mem) : Type 0 where
  pub lent : WritesLent m new
  pub heads : (n a : ℕ) (q : Qh) (i : ℕ) → parts n a ≡ Some (QueueHead q) → i < 3 → LeavesWord m new a i
  pub elements : (n a : ℕ) (t : Qtd) (i : ℕ) → parts n a ≡ Some (Element t) → (i < 2) ⊎ ((3 ≤ i) × (i < 8)) → LeavesWord m new a i
  pub itds : (n a : ℕ) (v : Itd) (i : ℕ) → parts n a ≡ Some (Isochronous v) → (i < 1) ⊎ ((9 ≤ i) × (i < 16)) → LeavesWord m new a i
  pub sitds : (n a : ℕ) (v : Sitd) (i : ℕ) → parts n a ≡ Some (SplitIsochronous v) → (i < 3) ⊎ ((6 ≤ i) × (i < 7)) → LeavesWord m new a i
  pub tables : (n a : ℕ) (ws : List ℕ) (i : ℕ) → parts n a ≡ Some (Table ws) → i < length ws → LeavesWord m new a i

abbrev pub IsWithin : StructureSets → StructureSets → Type 0
IsWithin some parts = (n a : ℕ) (s : Structure) → some n a ≡ Some s → parts n a ≡ Some s
