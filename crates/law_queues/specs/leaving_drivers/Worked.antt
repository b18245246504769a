-- Drivers for worked rows, each the next step of the leave of one endpoint (EHCI 1.0, 4.8.2): its cancel was accepted, it has left the ring, its harvested
-- transfer was given back, the doorbell was rung, it was answered, and Async Advance was cleared.
use Rattle.std.specs.Prelude.{true, [], ◌∷◌}
use Rattle.usb_base.specs.declared.endpoints.EpName.{EpName}
use Rattle.usb_base.specs.declared.packets.Way.TheVariants as ways
use Rattle.usb_base.specs.declared.reports.What.TheVariants as lines
use Rattle.drv_table.specs.declared.rows.DriverRow.TheVariants as rows
use Rattle.drv_table.specs.DriverContent.{DriverContent}
use Rattle.drv_table.specs.Harvests.{reported}
use Rattle.drv_table.specs.CancelOffers.{accepted_cancel}
use Rattle.drv_table.specs.Opening.{opening_registers}
use Rattle.drv_table.specs.Parts.{Parts}
use Rattle.drv_table.specs.Commands.{advance}
use Rattle.drv_table.specs.Rows.{after_driver_row}
use Rattle.law_driver.specs.chained_transfers.Worked.{in_ring, ring_driver}

abbrev pub parts_of : DriverContent → Parts
parts_of d = record { driver = d; registers = opening_registers; memory = record { words = []; states = []; foreign = 0 } }

abbrev pub cancelled_driver : DriverContent
cancelled_driver = accepted_cancel ring_driver 0 in_ring

abbrev pub unlinked_driver : DriverContent
unlinked_driver = advance cancelled_driver

abbrev pub free_driver : DriverContent
free_driver = record unlinked_driver { harvested = [] }

abbrev pub rung_driver : DriverContent
rung_driver = (after_driver_row rows.RingBell (parts_of free_driver)).driver

abbrev pub heard_driver : DriverContent
heard_driver = (after_driver_row (rows.ReadStatus true) (parts_of rung_driver)).driver

abbrev pub cleared_driver : DriverContent
cleared_driver = (after_driver_row rows.ClearAdvance (parts_of heard_driver)).driver

-- two lines: its cancel with two bytes, and then the line of another endpoint with one
abbrev pub another : EpName
another = record { addr = 9; num = 2; way = ways.Out }

abbrev pub told_driver : DriverContent
told_driver = reported cleared_driver lines.Cancel in_ring.desc.name (7 ∷ 8 ∷ [])

abbrev pub later_driver : DriverContent
later_driver = reported told_driver lines.Done another (9 ∷ [])
