-- Laws of a transfer, from its acceptance to its lend (EHCI 1.0, 3.5 and 4.10).
--     AcceptedAwaitsLend   once it was accepted, its qTDs are written; `new_qtds` are their blocks
--     WrittenStays         the controller leaves them
--     HasPieces ..         what the parts have once they are lent
--     LendDrives           where they are lent, the ring goes on with them
use Rattle.std.specs.Prelude.{◌≡◌, ◌≢◌, ℕ, suc, ◌*◌, ◌≤◌, Bool, false, List, ◌∷◌, length, take, slice_index, Some, None, ◌⊎◌}
use Rattle.std.specs.List.{AllByRecursion}
use Rattle.word_mem.specs.Memory.{Mem, IsShaped, word_at, reaches}
use Rattle.op_registers.specs.RegisterFile.{RegisterFile}
use Rattle.qh_qtd.specs.declared.qtd.Qtd.{Qtd}
use Rattle.async_walk.specs.Walk.{Walk}
use Rattle.async_walk.specs.Rows.{place}
use Rattle.mem_runs.specs.declared.slots.Slot.{Slot}
use Rattle.mem_runs.specs.Book.{Holding, holding, slot_of, lend_taken, Stands}
use Rattle.drv_table.specs.declared.content.Stage.{Stage}
use Rattle.drv_table.specs.DriverContent.{DriverContent}
use Rattle.drv_table.specs.Commands.{advance}
use Rattle.drv_table.specs.Harvests.{note_at}
use Rattle.drv_table.specs.Accepting.{Offered, new_runs}
use Rattle.drv_table.specs.Offers.{new_transfer, with_queued, is_last}
use Rattle.claims_driver.specs.Owners.{EndpointRuns, TransferRuns, runs_of_endpoint, runs_of_transfer}
use Rattle.law_driver.specs.run_owners.Accepts.{Transfers}
use Rattle.claims_driver.specs.Leaving.{HasOwners}
use Rattle.claims_driver.specs.LentRuns.{AreLent}
use Rattle.law_structures.specs.lent_structures.Structures.{Structure, Element, Buffer, StructureSets}
use Rattle.law_structures.specs.lent_structures.Sound.{buffer_name}
use Rattle.law_ring.specs.Hand.{Hand}
use Rattle.claims_base.specs.Controller.{Base}
use Rattle.law_ring.specs.Together.{Item, put_all}
use Rattle.law_driver_ring.specs.Driven.{DrivesRing}
use Rattle.law_driver_ring.specs.Published.{IsPublishable}
use Rattle.law_driver_ring.specs.Written.{AwaitsLend}
use Rattle.law_driver_ring.specs.Pieces.{stage_qtd, lent_items, IsNewQtd, AreStanding, AreBuffered, NamesLent}

-- the runs that are taken for a transfer of n qTDs: theirs, and then those of their buffers
abbrev pub new_qtds : DriverContent → Holding → ℕ → List ℕ
new_qtds d g n = take n (new_runs d g)

abbrev pub AcceptedAwaitsLend : Type 0
AcceptedAwaitsLend = (d : DriverContent) (m : Mem) (o : Offered) (why : Transfers d m o) (s : Stage) (ss : List Stage) → why.asked.stages ≡ s ∷ ss → AllByRecursion (λ r. r.pid ≤ 2) why.asked.stages
    → HasOwners d → AreLent d → Stands (holding d.book m) → IsShaped m
    → AwaitsLend o.driver o.memory (length d.transfers) (runs_of_transfer (new_transfer why.number why.asked why.endpoint.dummy))
    (runs_of_endpoint (with_queued why.endpoint (slice_index (new_qtds d why.holding_after (suc (length ss))) (length ss)) (length d.transfers))) s ss

abbrev pub WrittenStays : Type 0
WrittenStays = (d : DriverContent) (m new : Mem) (t : ℕ) (y : TransferRuns) (x : EndpointRuns) (s : Stage) (ss : List Stage) → AwaitsLend d m t y x s ss
    → Stands (holding d.book m) → ((at : ℕ) → reaches m at ≡ false → word_at new at ≡ word_at m at) → AwaitsLend d new t y x s ss

abbrev pub lent_memory : DriverContent → Mem → Mem
lent_memory d m = (lend_taken (holding d.book m)).memory

abbrev pub lent_driver : DriverContent → Mem → DriverContent
lent_driver d m = record d { book = (lend_taken (holding d.book m)).book }

-- all that was lent, by the name of the queue head
abbrev pub items_of : DriverContent → Mem → TransferRuns → EndpointRuns → Stage → List Stage → List Item
items_of d m y x s ss = lent_items (lent_memory d m) d.notes x.dummy s ss y.first

-- what the parts have once they were lent: all that was told is told as before, each new qTD stands with its buffer, and the first qTD can be
-- published
pub record HasPieces (d : DriverContent) (slot : ℕ → Slot) (parts now : StructureSets) (y : TransferRuns) (x : EndpointRuns) (s : Stage) (ss : List Stage) : Type 0 where
  pub still : (k a : ℕ) (u : Structure) → parts k a ≡ Some u → now k a ≡ Some u
  pub beside : (k : ℕ) → k ≢ 32 * x.queue → now k ≡ parts k
  pub standing : AreStanding (now (32 * x.queue)) d.notes x.dummy ss (note_at d.notes y.first).next
  pub buffered : AreBuffered (now (32 * x.queue)) d.notes x.dummy (s ∷ ss) y.first
  pub first : IsPublishable (now (32 * x.queue)) (32 * y.first) (stage_qtd d.notes s y.first x.dummy (is_last ss))
  pub names : NamesLent slot (now (32 * x.queue))
  pub elements : (a : ℕ) (u : Qtd) → now (32 * x.queue) a ≡ Some (Element u)
      → (parts (32 * x.queue) a ≡ Some (Element u)) ⊎ IsNewQtd d.notes x.dummy ss (note_at d.notes y.first).next a u
  pub none_before : (a : ℕ) (u : Qtd) → IsNewQtd d.notes x.dummy ss (note_at d.notes y.first).next a u → parts (32 * x.queue) a ≡ None
  pub old_buffers : (a : ℕ) (u : Qtd) → parts (32 * x.queue) a ≡ Some (Element u)
      → now (32 * x.queue) (buffer_name u) ≡ parts (32 * x.queue) (buffer_name u)
  pub none_at_zero : (pages : List ℕ) (k : ℕ) (bs : List ℕ) → now (32 * x.queue) 0 ≡ Some (Buffer pages k bs) → ⊥

abbrev pub LendDrives : Type 0
LendDrives = (base : Base) (member : ℕ → Bool) (parts : StructureSets) (hand : Hand) (w : Walk) (r : RegisterFile) (m : Mem) (d : DriverContent) (t : ℕ) (y : TransferRuns)
    (x : EndpointRuns) (s : Stage) (ss : List Stage)
    → AwaitsLend d m t y x s ss → HasOwners d → Stands (holding d.book m) → DrivesRing base member parts hand (place w r m) d
    → NamesLent (slot_of d.book.slots) (parts (32 * x.queue))
    → DrivesRing base member (put_all parts (32 * x.queue) (items_of d m y x s ss)) hand (place w r (lent_memory d m)) (advance (lent_driver d m))
    × HasPieces d (slot_of (lent_driver d m).book.slots) parts (put_all parts (32 * x.queue) (items_of d m y x s ss)) y x s ss
