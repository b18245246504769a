-- A driver of one endpoint, with a line that tells a missed microframe of it, for worked rows.
--     line_of x         the line
--     missed_of x       the driver
use Rattle.std.specs.Prelude.{[], ◌∷◌}
use Rattle.usb_base.specs.declared.endpoints.EpDesc.{EpDesc}
use Rattle.usb_base.specs.declared.reports.Report.{Report}
use Rattle.usb_base.specs.declared.reports.What.TheVariants as lines
use Rattle.drv_table.specs.DriverContent.{DriverContent}
use Rattle.drv_table.specs.Offers.{new_endpoint}
use Rattle.law_world.specs.memory.Samples.{typed_at}

abbrev pub line_of : EpDesc → Report
line_of x = record { name = x.name; what = lines.Miss; from = 0; len = 0 }

abbrev pub missed_of : EpDesc → DriverContent
missed_of x = record (typed_at 24).driver { endpoints = new_endpoint x 130 132 ∷ []; reports = line_of x ∷ [] }
