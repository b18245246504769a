-- How many transfers of an endpoint aren't reported, beside the windows that are left (EHCI 1.0, 4.10).
--     waiting d e                 how many transfers of endpoint e aren't reported
--     TransferAddsWaiting         a transfer more of the endpoint waits, unless it is reported
--     QuietRowsKeepWaiting        rows that add no line leave them
--     OtherHarvestKeepsWaiting, OtherReturnsKeepWaiting   .. and those of other endpoints
--     HarvestKeepsWaiting         .. and a harvest that doesn't end its transfer
--     HarvestEndsOne              one that ends it has one less
--     HarvestStallsAll            .. and at a stall those behind it are none any more
--     StallHasWindows             where as many windows are left as transfers wait, there is one for each that is behind it
use Rattle.std.specs.Prelude.{◌≡◌, ◌≢◌, ℕ, suc, ◌+◌, ◌≤◌, true, false, List, ◌∷◌, length, drop, count_by, [], ◌++◌, if◌then◌else◌}
use Rattle.usb_base.specs.declared.endpoints.EndCause.TheVariants.{Stall}
use Rattle.usb_base.specs.declared.reports.What.{What}
use Rattle.usb_base.specs.declared.reports.What.TheVariants.{Halt}
use Rattle.drv_periodic_table.specs.declared.content.Removed.TheVariants as removed
use Rattle.claims_report.specs.Requests.{Window}
use Rattle.drv_table.specs.declared.content.Endpoint.{Endpoint}
use Rattle.drv_table.specs.declared.content.Transfer.{Transfer}
use Rattle.drv_table.specs.declared.rows.DriverRow.{DriverRow}
use Rattle.drv_table.specs.declared.rows.DriverRow.TheVariants as rows
use Rattle.drv_table.specs.declared.rows.Found.{Found}
use Rattle.drv_table.specs.declared.rows.Found.TheVariants as founds
use Rattle.drv_table.specs.DriverContent.{DriverContent, waits_for}
use Rattle.drv_table.specs.Harvests.{is_stall}
use Rattle.drv_table.specs.Words.{is_control}
use Rattle.drv_table.specs.Parts.{Parts}
use Rattle.drv_table.specs.Rows.{after_driver_row}
use Rattle.law_reports.specs.requests.told_requests.Rows.{adds_lines, IsHarvested}

abbrev pub waiting : DriverContent → ℕ → ℕ
waiting d e = count_by (waits_for e) d.transfers

abbrev pub TransferAddsWaiting : Type 0
TransferAddsWaiting = (d c : DriverContent) (y : Transfer) (e : ℕ) → c.transfers ≡ d.transfers ++ y ∷ [] → waiting c e ≡ waiting d e + (if waits_for e y then 1 else 0)

abbrev pub QuietRowsKeepWaiting : Type 0
QuietRowsKeepWaiting = (row : DriverRow) (p : Parts) (k : ℕ) → adds_lines row ≡ false → waiting (after_driver_row row p).driver k ≡ waiting p.driver k

abbrev pub OtherHarvestKeepsWaiting : Type 0
OtherHarvestKeepsWaiting = (p : Parts) (e t : ℕ) (found : Found) (k : ℕ) → e ≢ k → waiting (after_driver_row (rows.Harvest e t found) p).driver k ≡ waiting p.driver k

abbrev pub OtherReturnsKeepWaiting : Type 0
OtherReturnsKeepWaiting = (p : Parts) (e k : ℕ) → e ≢ k
    → (waiting (after_driver_row (rows.ReleaseEndpoint e) p).driver k ≡ waiting p.driver k) × (waiting (after_driver_row (rows.ReleaseRemoved (removed.Endpoint e)) p).driver k ≡ waiting p.driver k)

-- ---- a harvest of the endpoint

abbrev pub HarvestKeepsWaiting : Type 0
HarvestKeepsWaiting = (p : Parts) (e t n : ℕ) (x : Endpoint) (y : Transfer) → IsHarvested p e t x y
    → (waiting (after_driver_row (rows.Harvest e t founds.Active) p).driver e ≡ waiting p.driver e) × (waiting (after_driver_row (rows.Harvest e t (founds.Moved n)) p).driver e ≡ waiting p.driver e)

abbrev pub HarvestEndsOne : Type 0
HarvestEndsOne = (p : Parts) (e t n : ℕ) (what : What) (x : Endpoint) (y : Transfer) → IsHarvested p e t x y → is_stall what ≡ false
    → suc (waiting (after_driver_row (rows.Harvest e t (founds.Ended n what)) p).driver e) ≡ waiting p.driver e

abbrev pub HarvestStallsAll : Type 0
HarvestStallsAll = (p : Parts) (e t n : ℕ) (x : Endpoint) (y : Transfer) → IsHarvested p e t x y → is_control x.desc.kind ≡ true
    → suc (waiting (after_driver_row (rows.Harvest e t (founds.Ended n (Halt Stall))) p).driver e + count_by (waits_for e) (drop (suc t) p.driver.transfers)) ≡ waiting p.driver e

abbrev pub StallHasWindows : Type 0
StallHasWindows = (p : Parts) (e t : ℕ) (x : Endpoint) (y : Transfer) (w : Window) (rest : List Window) → IsHarvested p e t x y → length (w ∷ rest) ≡ waiting p.driver e
    → count_by (waits_for e) (drop (suc t) p.driver.transfers) ≤ length rest
