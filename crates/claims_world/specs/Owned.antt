-- At each moment of a script's run just the blocks of what the driver still needs are Lent (EHCI 1.0, 3, 4.8.2 and 4.10), each run of them
-- with one owner, but for what its unfinished command has still to lend: no run of blocks leaks.
--     IsQueued v t y              the transfer has qTDs, and wasn't given back
--     IsIsochronous v t y         .. an isochronous descriptor
--     IsOwnedIn v b               block b is where one of these runs begins: the frame list; the head of the ring; the queue head or the
--                                 inactive qTD of an endpoint with a queue; a qTD of a transfer, or its isochronous descriptor; or a run of
--                                 one of their buffers
--     IsOwnedRun d b              the same of the driver's content
--     AreAllOwned d               each run of the driver's book is one of these
--     IsLentBlock d k             block k belongs to one of these runs, and the driver has lent it
--     LentBlocksAre d m           just these blocks of memory are Lent
--     OwnsItsBlocks w             each run of the driver's book has one owner, and is one that the driver still needs; the book stands in
--                                 memory; runs are lent but those that the unfinished command took and has still to lend; and just the
--                                 blocks of these lent runs are Lent
--     OwnsItsBlocksThroughout s   .. at each moment of the run of a script
use Rattle.std.specs.Prelude.{◌≡◌, ℕ, true, false, Some}
use Rattle.script_types.specs.declared.scripts.Script.{Script}
use Rattle.word_mem.specs.declared.blocks.BlockState.TheVariants.{Lent}
use Rattle.word_mem.specs.Memory.{Mem, state_at}
use Rattle.mem_runs.specs.Book.{holding, slot_of, Stands}
use Rattle.drv_table.specs.DriverContent.{DriverContent}
use Rattle.drv_table.specs.Words.{head_block}
use Rattle.bus_world.specs.Budgets.{moment}
use Rattle.bus_world.specs.World.{World}
use Rattle.claims_driver.specs.Leaving.{HasOwners}
use Rattle.claims_driver.specs.LentRuns.{AreLent, IsLent, begins_in}
use Rattle.claims_driver.specs.Owners.{EndpointRuns, HasRun, IsOneOf, IsPieceOf, IsQueueIn, SlotHas, TransferRuns, Views, views_of}

pub record IsQueued (v : Views) (t : ℕ) (y : TransferRuns) : Type 0 where
  pub here : v.transfer t ≡ Some y
  pub held : y.released ≡ false
  pub qtds : y.isochronous ≡ false

pub record IsIsochronous (v : Views) (t : ℕ) (y : TransferRuns) : Type 0 where
  pub here : v.transfer t ≡ Some y
  pub held : y.released ≡ false
  pub descriptor : y.isochronous ≡ true

pub data IsOwnedIn (v : Views) (b : ℕ) : Type 0 where
  the_list : b ≡ 0 → IsOwnedIn v b
  the_head : b ≡ head_block → IsOwnedIn v b
  a_queue : (e : ℕ) (x : EndpointRuns) → IsQueueIn v e x → b ≡ x.queue → IsOwnedIn v b
  a_dummy : (e : ℕ) (x : EndpointRuns) → IsQueueIn v e x → b ≡ x.dummy → IsOwnedIn v b
  a_piece : (t : ℕ) (y : TransferRuns) → IsQueued v t y → IsPieceOf v.note y.first y.qtds b → IsOwnedIn v b
  a_buffer : (t c : ℕ) (y : TransferRuns) → IsQueued v t y → IsPieceOf v.note y.first y.qtds c → IsOneOf b (v.note c).buffer → IsOwnedIn v b
  a_descriptor : (t : ℕ) (y : TransferRuns) → IsIsochronous v t y → b ≡ y.first → IsOwnedIn v b
  a_descriptor_buffer : (t : ℕ) (y : TransferRuns) → IsIsochronous v t y → IsOneOf b (v.descriptor y.first).buffer → IsOwnedIn v b

abbrev pub IsOwnedRun : DriverContent → ℕ → Type 0
IsOwnedRun d b = IsOwnedIn (views_of d) b

abbrev pub AreAllOwned : DriverContent → Type 0
AreAllOwned d = (b : ℕ) → HasRun (slot_of d.book.slots b) → IsOwnedRun d b

pub record IsLentBlock (d : DriverContent) (k : ℕ) : Type 0 where
  pub run : ℕ  -- where it begins
  pub owned : IsOwnedRun d run
  pub lent : IsLent (slot_of d.book.slots run)
  pub has : SlotHas (slot_of d.book.slots run) k

abbrev pub LentBlocksAre : DriverContent → Mem → Type 0
LentBlocksAre d m = (k : ℕ) → (state_at m k ≡ Some Lent → IsLentBlock d k) × (IsLentBlock d k → state_at m k ≡ Some Lent)

pub record OwnsItsBlocks (w : World) : Type 0 where
  pub owners : HasOwners w.driver
  pub all : AreAllOwned w.driver
  pub stands : Stands (holding w.driver.book w.memory)
  pub lent : AreLent w.driver
  pub needed : (b : ℕ) → IsOwnedRun w.driver b → begins_in b w.driver.book.taken ≡ false → IsLent (slot_of w.driver.book.slots b)
  pub blocks : LentBlocksAre w.driver w.memory

abbrev pub OwnsItsBlocksThroughout : Script → Type 0
OwnsItsBlocksThroughout s = (k : ℕ) → OwnsItsBlocks (moment s k).world
