-- Whose each run of blocks is (EHCI 1.0, 3.3, 3.5, 3.6, 4.6, 4.8 and 4.10): the frame list, the head of the ring, each queue head, each
-- inactive qTD at the end of a queue, and the qTDs, the isochronous descriptor and the buffers of each transfer stand in runs of their own.
-- A run is told by its first block, and has one owner: so no run is used twice. No two runs of the driver's book share a block (`Stands`).
--     ShareNoBlock h owner o q         no run of o's shares a block with one of q's
use Rattle.std.specs.Prelude.{ℕ}
use Rattle.mem_runs.specs.Book.{Holding, slot_of}
use Rattle.claims_driver.specs.Owners.{IsPlaced, Owner, SlotHas}

-- ---- how long the runs are

abbrev pub ShareNoBlock : Holding → (ℕ → Owner) → Owner → Owner → Type 0
ShareNoBlock h owner o q =
    (b c k : ℕ) → IsPlaced (slot_of h.book.slots) owner b o → IsPlaced (slot_of h.book.slots) owner c q
    → SlotHas (slot_of h.book.slots b) k → SlotHas (slot_of h.book.slots c) k → ⊥
