-- Reports for worked rows, of the driver of three endpoints that has a bulk, an interrupt and an isochronous one: its one line is of the
-- isochronous endpoint.
--     line_of what        this line
--     reporting what      the driver with that report
--     told_as whats closings      a whole report with these lines of it, and these that close it
use Rattle.std.specs.Prelude.{List, [], ◌∷◌, map}
use Rattle.usb_base.specs.declared.reports.Report.{Report}
use Rattle.usb_base.specs.declared.reports.What.{What}
use Rattle.claims_report.specs.Reports.{Closing, WholeReport}
use Rattle.drv_table.specs.DriverContent.{DriverContent}
use Rattle.law_driver.specs.run_owners.Worked.{isochronous, busy_driver}

abbrev pub line_of : What → Report
line_of what = record { name = isochronous.name; what = what; from = 0; len = 0 }

abbrev pub reporting : What → DriverContent
reporting what = record busy_driver { reports = line_of what ∷ [] }

abbrev pub told_as : List What → List Closing → WholeReport
told_as whats closings = record { lines = map line_of whats; store = []; closings = closings }
