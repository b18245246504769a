-- Lines of a driver with one control endpoint, for worked rows: its two requests are those of `driver_requests`' sample. Its device knows the first, whose data are a
-- device descriptor, and answers the second with STALL.
--     name, whole            the endpoint, and what the data of its requests are
--     first_line, stall      the lines of the two requests
--     told, stalled          the driver once the first is reported, and once both are
use Rattle.std.specs.Prelude.{ℕ, true, List, [], ◌∷◌}
use Rattle.usb_base.specs.declared.endpoints.EpName.{EpName}
use Rattle.usb_base.specs.declared.endpoints.EndCause.TheVariants.{Stall}
use Rattle.usb_base.specs.declared.reports.Report.{Report}
use Rattle.usb_base.specs.declared.reports.What.TheVariants.{Done, Halt}
use Rattle.drv_table.specs.DriverContent.{DriverContent}
use Rattle.claims_report.specs.Requests.{Request}
use Rattle.claims_report.specs.Samples.{line_of}
use Rattle.law_request.specs.Samples.{described, descriptor}
use Rattle.law_request.specs.Windows.{data_of}
use Rattle.law_reports.specs.requests.driver_requests.Samples.{endpoint, first, second, driver}

abbrev pub name : EpName
name = endpoint.desc.name

abbrev pub whole : Request → List ℕ
whole r = data_of described r

abbrev pub first_line : Report
first_line = line_of name Done 0 18

abbrev pub stall : Report
stall = line_of name (Halt Stall) 18 0

abbrev pub told : DriverContent
told = record driver { transfers = record first { reported = true } ∷ second ∷ []; reports = first_line ∷ []; store = descriptor }

abbrev pub stalled : DriverContent
stalled = record driver { transfers = record first { reported = true } ∷ record second { reported = true } ∷ []; reports = first_line ∷ stall ∷ []; store = descriptor }
