-- The windows of a driver's requests, and what its lines tell of them, along its run (EHCI 1.0, 4.10; USB 2.0, 8.5.3).
--     TransferAddsWindow     a transfer more of the endpoint has the last window; one of another endpoint has none of them
--     EventKeepsWindows      an event of the driver leaves the windows
--     StaysTold ..           what a command leaves: windows more, which aren't told of
--     CommandKeepsTold       so does each command, whether it is accepted or refused
--     ActsMayGrow            acts more in the windows that aren't told of leave what was told
use Rattle.std.specs.Prelude.{◌≡◌, ℕ, ◌<◌, ◌==◌, false, List, [], ◌∷◌, ◌++◌, length, drop, slice_get, Some, if◌then◌else◌}
use Rattle.usb_base.specs.declared.commands.Cmd.{Cmd}
use Rattle.usb_base.specs.declared.endpoints.EpName.{EpName}
use Rattle.claims_report.specs.Requests.{Request, Window}
use Rattle.drv_table.specs.declared.content.Transfer.{Transfer}
use Rattle.drv_table.specs.DriverContent.{DriverContent}
use Rattle.drv_table.specs.Parts.{Parts}
use Rattle.drv_table.specs.Rows.{driver_row, after_driver_row}
use Rattle.law_queues.specs.told_endpoints.Telling.{lines_in}
use Rattle.bus_world.specs.World.{World, commanded}
use Rattle.claims_world.specs.Requests.{Windows, asks_then, numbers_of, window_at, windows_of}
use Rattle.law_reports.specs.requests.told_requests.Told.{has_cancel, RequestsAreToldTo}

abbrev pub TransferAddsWindow : Type 0
TransferAddsWindow = (d c : DriverContent) (y : Transfer) (asks now : ℕ → Request) (v : Windows) (e : ℕ) → c.transfers ≡ d.transfers ++ y ∷ [] → ((t : ℕ) → t < length d.transfers → now t ≡ asks t)
    → windows_of c now v e ≡ windows_of d asks v e ++ (if y.endpoint == e then window_at now v (length d.transfers) ∷ [] else [])

abbrev pub EventKeepsWindows : Type 0
EventKeepsWindows = (p : Parts) (asks : ℕ → Request) (v : Windows) (e : ℕ) → windows_of (after_driver_row (driver_row p) p).driver asks v e ≡ windows_of p.driver asks v e

pub record StaysTold (name : EpName) (whole : Request → List ℕ) (before now left : List Window) (c : DriverContent) : Type 0 where
  pub more : List Window
  pub windows : now ≡ before ++ more
  pub told : RequestsAreToldTo c name whole now (left ++ more)

abbrev pub CommandKeepsTold : Type 0
CommandKeepsTold = (w : World) (n : ℕ) (cmd : Cmd) (asks : ℕ → Request) (v : Windows) (e : ℕ) (name : EpName) (whole : Request → List ℕ) (left : List Window) → has_cancel (lines_in name w.driver.reports) ≡ false
    → RequestsAreToldTo w.driver name whole (windows_of w.driver asks v e) left
    → StaysTold name whole (windows_of w.driver asks v e) (windows_of (commanded w n cmd).driver (asks_then w.driver cmd asks) v e) left (commanded w n cmd).driver

-- in the windows of those that have a line the acts are the same
abbrev pub ActsMayGrow : Type 0
ActsMayGrow = (d : DriverContent) (asks : ℕ → Request) (v u : Windows) (e : ℕ) (name : EpName) (whole : Request → List ℕ) (left : List Window) → has_cancel (lines_in name d.reports) ≡ false
    → RequestsAreToldTo d name whole (windows_of d asks v e) left → ((i t : ℕ) → i < length (lines_in name d.reports) → slice_get (numbers_of d e) i ≡ Some t → u.acts t ≡ v.acts t)
    → RequestsAreToldTo d name whole (windows_of d asks u e) (drop (length (lines_in name d.reports)) (windows_of d asks u e))
