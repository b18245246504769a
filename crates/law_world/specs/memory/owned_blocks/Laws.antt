-- That no run of blocks leaks, along commands and events; and which blocks are Lent.
--     NewDriverOwnsAll, CommandOwnsAll, EventOwnsAll    each run of the book is one that the driver still needs, whatever it does next
--     LentBlocksAreNeeded              just the blocks of lent runs that are needed so are Lent
--     NeededRunsAreLent       each run that is needed is lent, but those that the unfinished command took and has still to lend
use Rattle.std.specs.Prelude.{◌≡◌, ℕ, ◌≤◌, false, Ok}
use Rattle.usb_base.specs.declared.commands.Cmd.{Cmd}
use Rattle.word_mem.specs.Memory.{Mem}
use Rattle.mem_runs.specs.Book.{holding, Stands, slot_of}
use Rattle.drv_table.specs.declared.content.Reserve.{Reserve}
use Rattle.drv_table.specs.DriverContent.{DriverContent}
use Rattle.drv_table.specs.Accepting.{Offered}
use Rattle.drv_table.specs.Offers.{offered}
use Rattle.drv_table.specs.Opening.{opening}
use Rattle.drv_table.specs.Parts.{Parts}
use Rattle.drv_table.specs.Rows.{driver_row, after_driver_row}
use Rattle.claims_driver.specs.Leaving.{HasOwners}
use Rattle.claims_driver.specs.LentRuns.{begins_in, AreLent, IsLent}
use Rattle.claims_world.specs.Owned.{IsOwnedRun, AreAllOwned, LentBlocksAre}
use Rattle.law_world.specs.memory.owned_blocks.Owned.{OwnsAll}

abbrev pub NewDriverOwnsAll : Type 0
NewDriverOwnsAll = (n : ℕ) (room : Reserve) → 2048 ≤ n → OwnsAll (opening n room).driver

abbrev pub CommandOwnsAll : Type 0
CommandOwnsAll = (d : DriverContent) (m : Mem) (cmd : Cmd) (o : Offered) → Stands (holding d.book m) → HasOwners d → offered d m cmd ≡ Ok o → OwnsAll d → OwnsAll o.driver

abbrev pub EventOwnsAll : Type 0
EventOwnsAll = (p : Parts) → HasOwners p.driver → AreLent p.driver → OwnsAll p.driver → OwnsAll (after_driver_row (driver_row p) p).driver

abbrev pub LentBlocksAreNeeded : Type 0
LentBlocksAreNeeded = (d : DriverContent) (m : Mem) → Stands (holding d.book m) → AreAllOwned d → LentBlocksAre d m

abbrev pub NeededRunsAreLent : Type 0
NeededRunsAreLent = (d : DriverContent) (b : ℕ) → HasOwners d → AreLent d → IsOwnedRun d b → begins_in b d.book.taken ≡ false → IsLent (slot_of d.book.slots b)
