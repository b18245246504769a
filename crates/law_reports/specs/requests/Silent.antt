-- Of a request of a driver bytes are told of its data alone, along its run (EHCI 1.0, 3.5.3; USB 2.0, 8.5.3).
--     RowKeepsSilent             each event of the driver leaves it so
--     CommandKeepsSilent         so does each command
use Rattle.std.specs.Prelude.{ℕ}
use Rattle.usb_base.specs.declared.commands.Cmd.{Cmd}
use Rattle.mem_runs.specs.Book.{holding, Stands}
use Rattle.drv_table.specs.Parts.{Parts}
use Rattle.drv_table.specs.Rows.{driver_row, after_driver_row}
use Rattle.claims_driver.specs.Leaving.{HasOwners}
use Rattle.law_driver.specs.chained_transfers.Asynchronous.{OnlyAsynchronous}
use Rattle.law_driver.specs.AsynchronousScripts.{OpensAsynchronous}
use Rattle.law_driver.specs.chained_transfers.AsynchronousTurns.{AsynchronousTakesTurns}
use Rattle.bus_world.specs.World.{World, commanded}
use Rattle.law_reports.specs.requests.Reading.{AreSilent}

abbrev pub RowKeepsSilent : Type 0
RowKeepsSilent = (p : Parts) → OnlyAsynchronous p.driver → AreSilent p.driver → AreSilent (after_driver_row (driver_row p) p).driver

abbrev pub CommandKeepsSilent : Type 0
CommandKeepsSilent = (w : World) (line : ℕ) (cmd : Cmd) → OpensAsynchronous cmd → AsynchronousTakesTurns w.driver → HasOwners w.driver → Stands (holding w.driver.book w.memory) → AreSilent w.driver
    → AreSilent (commanded w line cmd).driver
