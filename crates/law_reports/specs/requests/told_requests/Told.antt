-- What the lines of a report tell of the requests of a control endpoint (EHCI 1.0, 4.10; USB 2.0, 8.5.3): each line but that of a cancel tells of one request,
-- in their order, with the window of the request.
--     left_after lines ws        the windows of the requests that aren't reported by these lines
--     has_cancel lines           one of these lines tells that the endpoint was cancelled
--     AreToldTo ..               the lines of an endpoint, whose bytes are stored, tell of these windows, and those are left
--     RequestsAreToldTo d ..     so do the lines of a driver
use Rattle.std.specs.Prelude.{◌≡◌, ℕ, Bool, List, [], ◌∷◌, length}
use Rattle.std.specs.List.{list_any}
use Rattle.usb_base.specs.declared.endpoints.EpName.{EpName}
use Rattle.usb_base.specs.declared.reports.Report.{Report}
use Rattle.report_text.specs.ReportText.{AreStored}
use Rattle.claims_report.specs.Requests.{Request, Window, left_by, AreTold}
use Rattle.drv_table.specs.DriverContent.{DriverContent}
use Rattle.law_queues.specs.told_endpoints.Telling.{lines_in}
use Rattle.claims_world.specs.Pending.{is_cancel}

abbrev pub left_after : List Report → List Window → List Window
left_after [] ws = ws
left_after (line ∷ rest) ws = left_after rest (left_by line.what ws)

abbrev pub has_cancel : List Report → Bool
has_cancel lines = list_any (λ line. is_cancel line.what) lines

pub record AreToldTo (reports : List Report) (store : List ℕ) (name : EpName) (whole : Request → List ℕ) (ws left : List Window) : Type 0 where
  pub told : AreTold whole store ws (lines_in name reports)
  pub rest : left_after (lines_in name reports) ws ≡ left
  pub stored : AreStored (lines_in name reports) (length store)

abbrev pub RequestsAreToldTo : DriverContent → EpName → (Request → List ℕ) → List Window → List Window → Type 0
RequestsAreToldTo d name whole ws left = AreToldTo d.reports d.store name whole ws left
