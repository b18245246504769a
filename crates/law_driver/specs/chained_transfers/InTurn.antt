-- A driver of bulk endpoints, whose transfers are chained and take turns (EHCI 1.0, 3.5 and 4.10), at each command and event; endpoints may leave.
--     TakesTurns d        all this of its content
--     EventsKeepTurns, CommandsKeepTurns, NewDriverTakesTurns     the laws
use Rattle.std.specs.Prelude.{◌≡◌, ℕ, Ok}
use Rattle.usb_base.specs.declared.commands.Cmd.{Cmd}
use Rattle.word_mem.specs.Memory.{Mem}
use Rattle.mem_runs.specs.Book.{holding, Stands}
use Rattle.drv_table.specs.declared.content.Reserve.{Reserve}
use Rattle.drv_table.specs.DriverContent.{DriverContent}
use Rattle.drv_table.specs.Opening.{opening}
use Rattle.drv_table.specs.Accepting.{Offered}
use Rattle.drv_table.specs.Offers.{offered}
use Rattle.drv_table.specs.Parts.{Parts}
use Rattle.drv_table.specs.Rows.{driver_row, after_driver_row}
use Rattle.claims_driver.specs.Owners.{views_of}
use Rattle.claims_driver.specs.Leaving.{HasOwners}
use Rattle.law_driver.specs.chained_transfers.Bulk.{OpensOrCancelsBulk, OnlyBulk}
use Rattle.law_driver.specs.chained_transfers.Chains.{AreChained}
use Rattle.law_driver.specs.chained_transfers.Turns.{AreInTurn}

pub record TakesTurns (d : DriverContent) : Type 0 where
  pub bulk : OnlyBulk d
  pub chained : AreChained (views_of d)
  pub turns : AreInTurn d

abbrev pub NewDriverTakesTurns : Type 0
NewDriverTakesTurns = (n : ℕ) (room : Reserve) → TakesTurns (opening n room).driver

abbrev pub EventsKeepTurns : Type 0
EventsKeepTurns = (p : Parts) → HasOwners p.driver → TakesTurns p.driver → TakesTurns (after_driver_row (driver_row p) p).driver

abbrev pub CommandsKeepTurns : Type 0
CommandsKeepTurns = (d : DriverContent) (m : Mem) (cmd : Cmd) (o : Offered) → Stands (holding d.book m) → HasOwners d → TakesTurns d → OpensOrCancelsBulk cmd → offered d m cmd ≡ Ok o → TakesTurns o.driver
