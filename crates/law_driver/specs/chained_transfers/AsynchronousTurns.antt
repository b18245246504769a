-- A driver of bulk and control endpoints, whose transfers are chained and take turns (EHCI 1.0, 3.5, 4.8 and 4.10), at each command and event. A control
-- endpoint goes on after a STALL (USB 2.0, 8.5.3.4): the stalled request and all that wait behind it are reported and harvested in their order.
--     AsynchronousTakesTurns d     all this of its content
--     NewDriverTakesAsynchronousTurns, EventsKeepAsynchronousTurns, CommandsKeepAsynchronousTurns, AsynchronousCommandIsAccepted      the
-- laws
--     BulkIsAsynchronous           a driver of bulk endpoints alone is one
use Rattle.std.specs.Prelude.{◌≡◌, ℕ, Ok}
use Rattle.usb_base.specs.declared.commands.Cmd.{Cmd}
use Rattle.word_mem.specs.Memory.{Mem}
use Rattle.mem_runs.specs.Book.{holding, Stands}
use Rattle.drv_table.specs.declared.content.Reserve.{Reserve}
use Rattle.drv_table.specs.DriverContent.{DriverContent}
use Rattle.drv_table.specs.Opening.{opening}
use Rattle.drv_table.specs.Accepting.{Offered}
use Rattle.drv_table.specs.Offers.{offered}
use Rattle.drv_table.specs.Parts.{Parts}
use Rattle.drv_table.specs.Rows.{driver_row, after_driver_row}
use Rattle.claims_driver.specs.Owners.{views_of}
use Rattle.claims_driver.specs.Leaving.{HasOwners}
use Rattle.law_driver.specs.chained_transfers.Chains.{AreChained}
use Rattle.law_driver.specs.chained_transfers.Turns.{AreInTurn}
use Rattle.law_driver.specs.chained_transfers.InTurn.{TakesTurns}
use Rattle.law_driver.specs.AsynchronousScripts.{OpensAsynchronous}
use Rattle.law_driver.specs.chained_transfers.Asynchronous.{OnlyAsynchronous, AcceptsAsynchronous}

pub record AsynchronousTakesTurns (d : DriverContent) : Type 0 where
  pub asynchronous : OnlyAsynchronous d
  pub chained : AreChained (views_of d)
  pub turns : AreInTurn d

abbrev pub NewDriverTakesAsynchronousTurns : Type 0
NewDriverTakesAsynchronousTurns = (n : ℕ) (room : Reserve) → AsynchronousTakesTurns (opening n room).driver

abbrev pub EventsKeepAsynchronousTurns : Type 0
EventsKeepAsynchronousTurns = (p : Parts) → HasOwners p.driver → AsynchronousTakesTurns p.driver → AsynchronousTakesTurns (after_driver_row (driver_row p) p).driver

abbrev pub CommandsKeepAsynchronousTurns : Type 0
CommandsKeepAsynchronousTurns = (d : DriverContent) (m : Mem) (cmd : Cmd) (o : Offered) → Stands (holding d.book m) → HasOwners d → AsynchronousTakesTurns d → OpensAsynchronous cmd → offered d m cmd ≡ Ok o
    → AsynchronousTakesTurns o.driver

abbrev pub AsynchronousCommandIsAccepted : Type 0
AsynchronousCommandIsAccepted = (d : DriverContent) (m : Mem) (cmd : Cmd) (o : Offered) → OnlyAsynchronous d → OpensAsynchronous cmd → offered d m cmd ≡ Ok o → AcceptsAsynchronous d m o cmd

abbrev pub BulkIsAsynchronous : Type 0
BulkIsAsynchronous = (d : DriverContent) → TakesTurns d → AsynchronousTakesTurns d
