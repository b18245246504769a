-- Which runs the controller may touch (EHCI 1.0, 3): all that the driver has, but those that the unfinished command took and has still to lend.
--     LendsBlocks d m owner   each block of a run that has an owner is lent
use Rattle.std.specs.Prelude.{◌≡◌, ℕ, slice_get, Some}
use Rattle.word_mem.specs.Memory.{Mem}
use Rattle.word_mem.specs.declared.blocks.BlockState.TheVariants.{Lent}
use Rattle.mem_runs.specs.Book.{slot_of}
use Rattle.drv_table.specs.DriverContent.{DriverContent}
use Rattle.claims_driver.specs.Owners.{Owner, SlotHas, IsPlaced}

abbrev pub LendsBlocks : DriverContent → Mem → (ℕ → Owner) → Type 0
LendsBlocks d m owner =
    (b k : ℕ) (o : Owner) → IsPlaced (slot_of d.book.slots) owner b o → SlotHas (slot_of d.book.slots b) k → slice_get m.states k ≡ Some Lent
