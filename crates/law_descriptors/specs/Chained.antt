-- The endpoint whose members the unfinished command unlinks is in its frames (EHCI 1.0, 4.6 and 4.7): it leaves them where the command is finished. What
-- a driver's content tells of it at each moment is `LeavesChained`.
--     NewDriverLeavesChained         a driver that was just built has no command
--     EventsLeaveChained             each event of the driver keeps it
--     CommandsLeaveChained           so does each accepted command: a periodic endpoint that wasn't cancelled before is in its frames
use Rattle.std.specs.Prelude.{◌≡◌, ℕ, Ok}
use Rattle.usb_base.specs.declared.commands.Cmd.{Cmd}
use Rattle.word_mem.specs.Memory.{Mem}
use Rattle.drv_table.specs.declared.content.Reserve.{Reserve}
use Rattle.drv_table.specs.DriverContent.{DriverContent}
use Rattle.drv_table.specs.Opening.{opening}
use Rattle.drv_table.specs.Accepting.{Offered}
use Rattle.drv_table.specs.Offers.{offered}
use Rattle.drv_table.specs.Parts.{Parts}
use Rattle.drv_table.specs.Rows.{driver_row, after_driver_row}
use Rattle.claims_driver.specs.Leaving.{HasOwners}
use Rattle.law_driver.specs.listed_members.Members.{IsListed}
use Rattle.law_descriptors.specs.ListRows.{LeavesChained}

abbrev pub NewDriverLeavesChained : Type 0
NewDriverLeavesChained = (n : ℕ) (room : Reserve) → LeavesChained (opening n room).driver

abbrev pub EventsLeaveChained : Type 0
EventsLeaveChained = (p : Parts) → LeavesChained p.driver → LeavesChained (after_driver_row (driver_row p) p).driver

abbrev pub CommandsLeaveChained : Type 0
CommandsLeaveChained = (d : DriverContent) (m : Mem) (cmd : Cmd) (o : Offered) → HasOwners d → IsListed d → offered d m cmd ≡ Ok o → LeavesChained o.driver
