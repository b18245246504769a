-- The driver of three endpoints whose report has one line of the isochronous one.
use Rattle.std.proofs.Common.{zero, suc, Bool, false, List, Option, Some, None, ap, refl, sym}
use Rattle.std.proofs.lemmas.Bool.{false≢true}
use Rattle.usb_base.specs.declared.reports.Report.{Report}
use Rattle.usb_base.specs.declared.reports.What.TheVariants as lines
use Rattle.drv_table.specs.declared.content.Endpoint.{Endpoint}
use Rattle.law_driver.specs.queued_drivers.CommandsWorked.{third}
use Rattle.law_queues.specs.told_endpoints.Telling.{lines_in, has_end}
use Rattle.law_reports.specs.lines.Lined.{AreIsoGoing}
use Rattle.law_reports.specs.lines.LineSamples.{reporting}

abbrev ends_of : List Report → Option Endpoint → Bool
ends_of reports None = false
ends_of reports (Some x) = has_end (lines_in x.desc.name reports)

pub served_goes_on : AreIsoGoing (reporting (lines.Iso 0))
served_goes_on zero x here iso kept = sym (ap (ends_of (reporting (lines.Iso 0)).reports) here)
served_goes_on (suc zero) x here iso kept = sym (ap (ends_of (reporting (lines.Iso 0)).reports) here)
served_goes_on (suc (suc zero)) x here iso kept = sym (ap (ends_of (reporting (lines.Iso 0)).reports) here)
served_goes_on (suc (suc (suc e))) x here iso kept = sym (ap (ends_of (reporting (lines.Iso 0)).reports) here)

pub cancel_ends : AreIsoGoing (reporting lines.Cancel) → ⊥
cancel_ends going = false≢true (sym (going 2 third refl refl refl))
