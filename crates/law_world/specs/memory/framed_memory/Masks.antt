-- The masks of a driver's placements fit their fields: these have eight bits, one for each microframe of a frame (EHCI 1.0, 3.4.2, 3.6.2, 4.7 and 4.12).
--     HasMasks p            so do the masks of a placement
--     AreMasked d           .. and those of all that is placed
--     NewIsMasked, EventsKeepMasks, CommandsKeepMasks     so it is of a driver that was just built, after each of its events, and after each accepted command
use Rattle.std.specs.Prelude.{◌≡◌, ℕ, ◌<◌, Ok}
use Rattle.std.specs.List.{AllByRecursion}
use Rattle.usb_base.specs.declared.commands.Cmd.{Cmd}
use Rattle.word_mem.specs.Memory.{Mem}
use Rattle.bandwidth.specs.declared.placements.Placement.{Placement}
use Rattle.drv_table.specs.declared.content.Reserve.{Reserve}
use Rattle.drv_table.specs.DriverContent.{DriverContent}
use Rattle.drv_table.specs.Opening.{opening}
use Rattle.drv_table.specs.Accepting.{Offered}
use Rattle.drv_table.specs.Offers.{offered}
use Rattle.drv_table.specs.Parts.{Parts}
use Rattle.drv_table.specs.Rows.{driver_row, after_driver_row}

pub record HasMasks (p : Placement) : Type 0 where
  pub smask : p.smask < 256
  pub cmask : p.cmask < 256

abbrev pub AreMasked : DriverContent → Type 0
AreMasked d = AllByRecursion (λ y. HasMasks y.placement) d.periodic.plan.placed

abbrev pub NewIsMasked : Type 0
NewIsMasked = (n : ℕ) (room : Reserve) → AreMasked (opening n room).driver

abbrev pub EventsKeepMasks : Type 0
EventsKeepMasks = (p : Parts) → AreMasked p.driver → AreMasked (after_driver_row (driver_row p) p).driver

abbrev pub CommandsKeepMasks : Type 0
CommandsKeepMasks = (d : DriverContent) (m : Mem) (cmd : Cmd) (o : Offered) → AreMasked d → offered d m cmd ≡ Ok o → AreMasked o.driver
