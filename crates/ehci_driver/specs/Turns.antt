-- One event of the driver, and parts of it (EHCI 1.0, 4.8 to 4.10).
--     parts d r m            what an event reads and changes: driver, registers and memory
--     after_event p          what stands after the next event
--     later_row d r          the leaving work behind the stores that are owed and the harvested transfers
--     told_now d m t y what x       transfer y of endpoint x, of number t, is reported
--     told_cancel d m e x           the cancelled endpoint x, of number e, is reported
use Rattle.std.specs.Prelude.{ℕ, slice_get, Option, option_map}
use Rattle.usb_base.specs.declared.reports.What.{What}
use Rattle.usb_base.specs.declared.reports.What.TheVariants.{Cancel}
use Rattle.op_registers.specs.RegisterFile.{RegisterFile}
use Rattle.word_mem.specs.Memory.{Mem}
use Rattle.drv_table.specs.declared.content.Endpoint.{Endpoint}
use Rattle.drv_table.specs.declared.content.Transfer.{Transfer}
use Rattle.drv_table.specs.declared.rows.DriverRow.{DriverRow}
use Rattle.drv_table.specs.declared.rows.DriverRow.TheVariants as rows
use Rattle.drv_table.specs.DriverContent.{DriverContent}
use Rattle.drv_table.specs.Harvests.{reported}
use Rattle.drv_table.specs.Parts.{Parts}
use Rattle.drv_table.specs.Rows.{driver_row, after_driver_row}
use Rattle.drv_table.specs.Leaving.{first_row, removal_row, bell_row}
use Rattle.drv_table.specs.Harvesting.{told_with}
use Rattle.drv_table.specs.Releases.{cancelled_bytes}

abbrev pub parts : DriverContent → RegisterFile → Mem → Parts
parts d r m = record { driver = d; registers = r; memory = m }

abbrev pub after_event : Parts → Parts
after_event p = after_driver_row (driver_row p) p

abbrev pub later_row : DriverContent → RegisterFile → Option DriverRow
later_row d r =
    first_row (option_map rows.Unlink (slice_get d.periodic.unlinks 0))
    (first_row (option_map rows.ReleaseEndpoint (slice_get d.cleared 0))
    (first_row (removal_row (slice_get d.periodic.removals 0)) (bell_row d r d.bell)))

abbrev pub told_now : DriverContent → Mem → ℕ → Transfer → What → Endpoint → DriverContent
told_now d m t y what x = told_with d m t y what x.desc.name d.notes

abbrev pub told_cancel : DriverContent → Mem → ℕ → Endpoint → DriverContent
told_cancel d m e x = reported d Cancel x.desc.name (cancelled_bytes d.notes m e x.queue d.transfers)
