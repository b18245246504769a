-- The lend of a new endpoint's structures (EHCI 1.0, 4.8.1 and 4.10): its queue head and the inactive qTD at the end of its queue were written where
-- the driver alone may touch them, and are lent before the head's link is stored.
--     IsKept slot          the slot's run is kept
--     IsOpened d m e x q   endpoint e is new: its two runs are all that is to be lent, and the queue head q and an inactive qTD stand in them
--     opened_parts ..      the parts with both
--     opened_runs, opened_head   the runs and the queue head of an open that was accepted
--     LendOpensDrives, OpenIsReady   the laws
use Rattle.std.specs.Prelude.{◌≡◌, ◌≢◌, ℕ, ◌*◌, Bool, [], ◌∷◌, length, slice_index, Some}
use Rattle.usb_base.specs.declared.endpoints.EpDesc.{EpDesc}
use Rattle.word_mem.specs.Runs.{Run}
use Rattle.word_mem.specs.Memory.{Mem, IsShaped}
use Rattle.word_mem.specs.Views.{words_at}
use Rattle.op_registers.specs.RegisterFile.{RegisterFile}
use Rattle.qh_qtd.specs.declared.queue_head.Qh.{Qh}
use Rattle.qh_qtd.specs.Qtd.{qtd_words}
use Rattle.qh_qtd.specs.QueueHead.{qh_words, IsQhInRange}
use Rattle.async_walk.specs.Walk.{Walk}
use Rattle.async_walk.specs.Rows.{place}
use Rattle.mem_runs.specs.declared.slots.Slot.{Slot}
use Rattle.mem_runs.specs.declared.slots.Slot.TheVariants.{Keeps}
use Rattle.mem_runs.specs.Book.{Holding, holding, slot_of, lend_taken, Stands}
use Rattle.drv_table.specs.DriverContent.{DriverContent}
use Rattle.drv_table.specs.Words.{queue_head, dummy_qtd}
use Rattle.drv_table.specs.Commands.{advance}
use Rattle.drv_table.specs.Accepting.{Offered, new_runs, newest_of}
use Rattle.drv_table.specs.Offers.{new_endpoint}
use Rattle.claims_driver.specs.Owners.{EndpointRuns, TransferRuns, runs_of_endpoint, views_of, IsQueueIn}
use Rattle.claims_driver.specs.Leaving.{HasOwners}
use Rattle.law_driver.specs.run_owners.Accepts.{Opens}
use Rattle.claims_driver.specs.LentRuns.{AreLent}
use Rattle.law_structures.specs.lent_structures.Structures.{QueueHead, Element, StructureSets, put}
use Rattle.law_ring.specs.Hand.{Hand}
use Rattle.claims_base.specs.Controller.{Base}
use Rattle.law_driver_ring.specs.Driven.{DrivesRing}

pub record IsKept (slot : Slot) : Type 0 where
  pub run : Run
  pub is : slot ≡ Keeps run

pub record IsOpened (d : DriverContent) (m : Mem) (e : ℕ) (x : EndpointRuns) (q : Qh) : Type 0 where
  pub here : IsQueueIn (views_of d) e x
  pub taken : d.book.taken ≡ x.queue ∷ x.dummy ∷ []
  pub queue_kept : IsKept (slot_of d.book.slots x.queue)
  pub dummy_kept : IsKept (slot_of d.book.slots x.dummy)
  pub no_transfer : (t : ℕ) (y : TransferRuns) → (views_of d).transfer t ≡ Some y → y.endpoint ≢ e
  pub queue_words : words_at m (32 * x.queue) 12 ≡ qh_words q
  pub dummy_words : words_at m (32 * x.dummy) 8 ≡ qtd_words dummy_qtd
  pub range : IsQhInRange q

abbrev pub opened_parts : StructureSets → EndpointRuns → Qh → StructureSets
opened_parts parts x q = put (put parts (32 * x.queue) (32 * x.queue) (QueueHead q)) (32 * x.queue) (32 * x.dummy) (Element dummy_qtd)

abbrev pub LendOpensDrives : Type 0
LendOpensDrives = (base : Base) (member : ℕ → Bool) (parts : StructureSets) (hand : Hand) (w : Walk) (r : RegisterFile) (m : Mem) (d : DriverContent) (e : ℕ) (x : EndpointRuns) (q : Qh)
    → IsOpened d m e x q → HasOwners d → Stands (holding d.book m) → DrivesRing base member parts hand (place w r m) d
    → DrivesRing base member (opened_parts parts x q) hand (place w r (lend_taken (holding d.book m)).memory) (advance (record d { book = (lend_taken (holding d.book m)).book }))

-- ---- an accepted open

abbrev pub opened_runs : DriverContent → EpDesc → Holding → EndpointRuns
opened_runs d x g = runs_of_endpoint (new_endpoint x (slice_index (new_runs d g) 0) (slice_index (new_runs d g) 1))

abbrev pub opened_head : DriverContent → EpDesc → Holding → Qh
opened_head d x g = queue_head x (newest_of d.endpoints) (slice_index (new_runs d g) 1)

abbrev pub OpenIsReady : Type 0
OpenIsReady = (m : Mem) (d : DriverContent) (o : Offered) → (why : Opens d m o) → HasOwners d → AreLent d → Stands (holding d.book m) → IsShaped m
    → IsQhInRange (opened_head d why.desc why.holding_after)
    → IsOpened o.driver o.memory (length d.endpoints) (opened_runs d why.desc why.holding_after) (opened_head d why.desc why.holding_after)
