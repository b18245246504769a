-- What each event of a driver leaves of what its lines tell of an endpoint's requests (EHCI 1.0, 4.8 to 4.10; USB 2.0, 8.5.3).
--     adds_lines row           the row may add lines: a harvest, or the return of an endpoint
--     LinesStay d c            the lines and their bytes are the same
--     QuietRowsKeepLines       so they are after each other row
--     OtherHarvestsStay, OtherReturnsStay   what was told stays at the harvest of another endpoint, and at a return that tells nothing of this one
--     HarvestGoesOn            .. and where the qTD that is harvested doesn't end its request
--     HarvestEnds              a harvest that ends a request tells of the first that is left
--     HarvestStalls            .. and of those behind it too, where it stalled
use Rattle.std.specs.Prelude.{◌≡◌, ◌⊎◌, ℕ, suc, ◌≤◌, Bool, true, false, List, ◌∷◌, length, take, drop, count_by, slice_get, Some}
use Rattle.usb_base.specs.declared.endpoints.EpName.{EpName}
use Rattle.usb_base.specs.declared.endpoints.EndCause.TheVariants.{Stall}
use Rattle.usb_base.specs.declared.reports.What.{What}
use Rattle.usb_base.specs.declared.reports.What.TheVariants.{Halt}
use Rattle.drv_periodic_table.specs.declared.content.Removed.{Removed}
use Rattle.drv_periodic_table.specs.declared.content.Removed.TheVariants as removed
use Rattle.claims_base.specs.Prefix.{IsPrefix}
use Rattle.bus_wire.specs.Fates.{is_same_name}
use Rattle.claims_report.specs.Reports.{is_refusal}
use Rattle.claims_report.specs.Requests.{Request, Window, IsTold, left_by}
use Rattle.drv_table.specs.declared.content.Endpoint.{Endpoint}
use Rattle.drv_table.specs.declared.content.Transfer.{Transfer}
use Rattle.drv_table.specs.declared.rows.DriverRow.{DriverRow}
use Rattle.drv_table.specs.declared.rows.DriverRow.TheVariants as rows
use Rattle.drv_table.specs.declared.rows.Found.{Found}
use Rattle.drv_table.specs.declared.rows.Found.TheVariants as founds
use Rattle.drv_table.specs.DriverContent.{DriverContent, waits_for}
use Rattle.drv_table.specs.Harvests.{moved_bytes, noted, is_stall}
use Rattle.drv_table.specs.Words.{is_control}
use Rattle.drv_table.specs.Parts.{Parts}
use Rattle.drv_table.specs.Rows.{after_driver_row}
use Rattle.drv_table.specs.Releases.{is_told}
use Rattle.law_reports.specs.requests.told_requests.Told.{RequestsAreToldTo}

abbrev pub is_return : Removed → Bool
is_return (removed.Endpoint e) = true
is_return (removed.Descriptor t) = false

abbrev pub adds_lines : DriverRow → Bool
adds_lines (rows.Harvest e t found) = true
adds_lines (rows.ReleaseEndpoint e) = true
adds_lines (rows.ReleaseRemoved what) = is_return what
adds_lines _ = false

pub record LinesStay (d c : DriverContent) : Type 0 where
  pub reports : c.reports ≡ d.reports
  pub store : c.store ≡ d.store

abbrev pub QuietRowsKeepLines : Type 0
QuietRowsKeepLines = (row : DriverRow) (p : Parts) → adds_lines row ≡ false → LinesStay p.driver (after_driver_row row p).driver

-- ---- of other endpoints

abbrev pub OtherHarvestsStay : Type 0
OtherHarvestsStay = (p : Parts) (e t : ℕ) (found : Found) (name : EpName) (whole : Request → List ℕ) (ws left : List Window)
    → ((x : Endpoint) → slice_get p.driver.endpoints e ≡ Some x → is_same_name x.desc.name name ≡ false) → RequestsAreToldTo p.driver name whole ws left
    → RequestsAreToldTo (after_driver_row (rows.Harvest e t found) p).driver name whole ws left

-- of another endpoint, or without a line
abbrev pub ReturnsOther : Parts → ℕ → EpName → Type 0
ReturnsOther p e name = (x : Endpoint) → slice_get p.driver.endpoints e ≡ Some x → (is_same_name x.desc.name name ≡ false) ⊎ (is_told x ≡ false)

abbrev pub OtherReturnsStay : Type 0
OtherReturnsStay = (p : Parts) (e : ℕ) (name : EpName) (whole : Request → List ℕ) (ws left : List Window) → ReturnsOther p e name → RequestsAreToldTo p.driver name whole ws left
    → RequestsAreToldTo (after_driver_row (rows.ReleaseEndpoint e) p).driver name whole ws left
    × RequestsAreToldTo (after_driver_row (rows.ReleaseRemoved (removed.Endpoint e)) p).driver name whole ws left

-- ---- of the endpoint itself

-- the row looks at this transfer
pub record IsHarvested (p : Parts) (e t : ℕ) (x : Endpoint) (y : Transfer) : Type 0 where
  pub here : slice_get p.driver.endpoints e ≡ Some x
  pub there : slice_get p.driver.transfers t ≡ Some y
  pub waits : waits_for e y ≡ true

-- the bytes that were moved in it, once this many were in its newest qTD
abbrev pub bytes_with : Parts → Transfer → ℕ → List ℕ
bytes_with p y n = take y.most (moved_bytes (noted p.driver.notes y.place n) p.memory y.first y.qtds)

abbrev pub HarvestGoesOn : Type 0
HarvestGoesOn = (p : Parts) (e t n : ℕ) (x : Endpoint) (y : Transfer) (name : EpName) (whole : Request → List ℕ) (ws left : List Window) → IsHarvested p e t x y → RequestsAreToldTo p.driver name whole ws left
    → RequestsAreToldTo (after_driver_row (rows.Harvest e t founds.Active) p).driver name whole ws left × RequestsAreToldTo (after_driver_row (rows.Harvest e t (founds.Moved n)) p).driver name whole ws left

abbrev pub HarvestEnds : Type 0
HarvestEnds = (p : Parts) (e t n : ℕ) (what : What) (x : Endpoint) (y : Transfer) (whole : Request → List ℕ) (ws left : List Window) → IsHarvested p e t x y → is_stall what ≡ false → is_refusal what ≡ false
    → IsTold whole what (bytes_with p y n) left → RequestsAreToldTo p.driver x.desc.name whole ws left
    → RequestsAreToldTo (after_driver_row (rows.Harvest e t (founds.Ended n what)) p).driver x.desc.name whole ws (left_by what left)

abbrev pub HarvestStalls : Type 0
HarvestStalls = (p : Parts) (e t n : ℕ) (x : Endpoint) (y : Transfer) (whole : Request → List ℕ) (ws rest : List Window) (w : Window) → IsHarvested p e t x y → is_control x.desc.kind ≡ true
    → IsPrefix (bytes_with p y n) (whole w.request) → count_by (waits_for e) (drop (suc t) p.driver.transfers) ≤ length rest → RequestsAreToldTo p.driver x.desc.name whole ws (w ∷ rest)
    → RequestsAreToldTo (after_driver_row (rows.Harvest e t (founds.Ended n (Halt Stall))) p).driver x.desc.name whole ws (drop (count_by (waits_for e) (drop (suc t) p.driver.transfers)) rest)
