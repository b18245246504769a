-- Of an unfinished command an event is left (EHCI 1.0, 4.8.1, 4.8.2 and 4.10.2).
--     IsMaking d      of a command that links nothing in the frame list, at each command and event
--     NewDriverIsMaking, EventsKeepMaking, CommandsKeepMaking      the laws
--     DriversRestWhenDone     a driver rests only where all is done
use Rattle.std.specs.Prelude.{◌≡◌, ℕ, ◌<◌, false, length, Option, Some, Ok}
use Rattle.usb_base.specs.declared.commands.Cmd.{Cmd}
use Rattle.word_mem.specs.Memory.{Mem}
use Rattle.drv_table.specs.declared.content.Command.{Command}
use Rattle.drv_table.specs.declared.content.Reserve.{Reserve}
use Rattle.drv_table.specs.Accepting.{Offered}
use Rattle.drv_table.specs.Commands.{events_of, links}
use Rattle.drv_table.specs.DriverContent.{DriverContent}
use Rattle.drv_table.specs.Offers.{offered}
use Rattle.drv_table.specs.Opening.{opening}
use Rattle.drv_table.specs.Parts.{Parts}
use Rattle.drv_table.specs.Rows.{driver_row, after_driver_row}
use Rattle.claims_driver.specs.FrameWords.{IsInOrder}
use Rattle.claims_driver.specs.Leaving.{IsOrderly}
use Rattle.law_resting.specs.Counted.{IsCounted}
use Rattle.law_resting.specs.Storing.{IsStoring}
use Rattle.claims_answers.specs.Resting.{RestsOnlyWhenDone}

abbrev pub IsMakingAt : Option Command → ℕ → Type 0
IsMakingAt o made = (c : Command) → o ≡ Some c → links c ≡ false → made < length (events_of c)

abbrev pub IsMaking : DriverContent → Type 0
IsMaking d = IsMakingAt d.command d.made

abbrev pub NewDriverIsMaking : Type 0
NewDriverIsMaking = (n : ℕ) (room : Reserve) → IsMaking (opening n room).driver

abbrev pub EventsKeepMaking : Type 0
EventsKeepMaking = (p : Parts) → IsMaking p.driver → IsMaking (after_driver_row (driver_row p) p).driver

abbrev pub CommandsKeepMaking : Type 0
CommandsKeepMaking = (d : DriverContent) (m : Mem) (cmd : Cmd) (o : Offered) → offered d m cmd ≡ Ok o → IsMaking o.driver

abbrev pub DriversRestWhenDone : Type 0
DriversRestWhenDone = (p : Parts) → IsOrderly p.driver → IsCounted p.driver → IsMaking p.driver → IsStoring p.driver
    → IsInOrder p.driver.periodic.list → RestsOnlyWhenDone p
