-- An endpoint for worked rows that is to be given back, of which four bytes were harvested and are held back, and five were moved beside; its earlier
-- transfer told two bytes.
--     by_cancel, by_stall     the endpoint, which a cancel or a stall ended
--     parts_with x            the driver with it
--     after x                 the driver after the row that gives it back
use Rattle.std.specs.Prelude.{◌∷◌, [], Some}
use Rattle.usb_base.specs.declared.endpoints.EndCause.TheVariants as causes
use Rattle.usb_base.specs.declared.reports.What.TheVariants as lines
use Rattle.usb_base.specs.declared.reports.Report.{Report}
use Rattle.op_registers.specs.RegisterFile.{reset_file}
use Rattle.drv_table.specs.declared.content.Endpoint.{Endpoint}
use Rattle.drv_table.specs.DriverContent.{DriverContent}
use Rattle.drv_table.specs.Parts.{Parts}
use Rattle.drv_table.specs.Rows.{after_driver_row}
use Rattle.law_queues.specs.cancelled_bytes.Samples.{notes, half_read, memory}
use Rattle.law_world.specs.steps.endpoint_releases.Released.{endpoint_row}
use Rattle.law_world.specs.steps.endpoint_releases.Samples.{left_endpoint, left_driver}

abbrev pub by_cancel : Endpoint
by_cancel = record left_endpoint { queue = 0; dummy = 1; next = Some 0 }

abbrev pub by_stall : Endpoint
by_stall = record by_cancel { ended = Some causes.Stall }

abbrev pub done_line : Report
done_line = record { name = left_endpoint.desc.name; what = lines.Done; from = 0; len = 2 }

abbrev pub parts_with : Endpoint → Parts
parts_with x = record {
  driver = record left_driver { book = record { slots = []; taken = [] }; endpoints = x ∷ []; transfers = half_read ∷ []; notes = notes; reports = done_line ∷ []; store = 11 ∷ 12 ∷ [] };
  registers = reset_file;
  memory = memory 96;
}

abbrev pub after : Endpoint → DriverContent
after x = (after_driver_row (endpoint_row 0) (parts_with x)).driver
