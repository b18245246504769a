-- What a driver's lines tell of the requests of a control endpoint, along its run (EHCI 1.0, 4.8 to 4.10; USB 2.0, 8.5.3): of each request that is reported its
-- window, in their order; the others wait.
--     IsTelling d asks e name whole v reported waits
--                                the transfers of endpoint e are these; the lines tell of the windows of the reported ones, and as many transfers wait as there are others
--     IsUncancelled name d       no line tells that the endpoint was cancelled
--     TellingIsTold              the law: what is told are the windows of the endpoint
--     ActsKeepTelling            .. where the acts of those that are reported are the same
--     QuietRowKeepsTelling       .. of a row that adds no line
--     OtherHarvestKeepsTelling, OtherReturnsKeepTelling
--                                .. of a harvest of another endpoint, and of the return of one
--     HarvestKeepsTelling        .. where the qTD that is harvested doesn't end its request
--     HarvestTells               a harvest that ends a request tells of the first that waits
--     StallTells                 .. and where it stalled, of those behind it too
--     AcceptedKeepsTelling, OtherAcceptedKeepsTelling
--                                a transfer that is accepted waits, where it is one of the endpoint
use Rattle.std.specs.Prelude.{◌≡◌, ◌≢◌, ℕ, suc, ◌<◌, false, true, List, [], ◌∷◌, ◌++◌, length, take, drop, map, count_by, slice_get, Some}
use Rattle.std.specs.List.{AllByRecursion}
use Rattle.usb_base.specs.declared.endpoints.EpName.{EpName}
use Rattle.usb_base.specs.declared.endpoints.EndCause.TheVariants.{Stall}
use Rattle.usb_base.specs.declared.reports.What.{What}
use Rattle.usb_base.specs.declared.reports.What.TheVariants.{Halt}
use Rattle.claims_base.specs.Prefix.{IsPrefix}
use Rattle.bus_wire.specs.Fates.{is_same_name}
use Rattle.claims_report.specs.Reports.{is_refusal}
use Rattle.claims_report.specs.Requests.{Request, IsTold}
use Rattle.drv_table.specs.declared.content.Endpoint.{Endpoint}
use Rattle.drv_table.specs.declared.content.Transfer.{Transfer}
use Rattle.drv_table.specs.declared.rows.DriverRow.{DriverRow}
use Rattle.drv_table.specs.declared.rows.DriverRow.TheVariants as rows
use Rattle.drv_table.specs.declared.rows.Found.{Found}
use Rattle.drv_table.specs.declared.rows.Found.TheVariants as founds
use Rattle.drv_table.specs.DriverContent.{DriverContent, waits_for}
use Rattle.drv_table.specs.Harvests.{is_stall}
use Rattle.drv_table.specs.Words.{is_control}
use Rattle.drv_table.specs.Parts.{Parts}
use Rattle.drv_table.specs.Rows.{after_driver_row}
use Rattle.law_queues.specs.told_endpoints.Telling.{lines_in}
use Rattle.claims_world.specs.Requests.{Windows, numbers_of, window_at, windows_of}
use Rattle.claims_world.specs.Pending.{is_cancel}
use Rattle.law_reports.specs.requests.told_requests.Told.{has_cancel, AreToldTo, RequestsAreToldTo}
use Rattle.law_reports.specs.requests.told_requests.Rows.{adds_lines, IsHarvested, ReturnsOther, bytes_with}
use Rattle.law_reports.specs.requests.told_requests.Waiting.{waiting}

pub record IsTelling (d : DriverContent) (asks : ℕ → Request) (e : ℕ) (name : EpName) (whole : Request → List ℕ) (v : Windows) (reported waits : List ℕ) : Type 0 where
  pub numbers : numbers_of d e ≡ reported ++ waits
  pub told : AreToldTo d.reports d.store name whole (map (window_at asks v) reported ++ map (window_at asks v) waits) (map (window_at asks v) waits)
  pub wait : length waits ≡ waiting d e

-- no line tells that the endpoint was cancelled
abbrev pub IsUncancelled : EpName → DriverContent → Type 0
IsUncancelled name d = has_cancel (lines_in name d.reports) ≡ false

abbrev pub TellingIsTold : Type 0
TellingIsTold = (d : DriverContent) (asks : ℕ → Request) (e : ℕ) (name : EpName) (whole : Request → List ℕ) (v : Windows) (reported waits : List ℕ) → IsTelling d asks e name whole v reported waits
    → RequestsAreToldTo d name whole (windows_of d asks v e) (map (window_at asks v) waits)

abbrev pub ActsKeepTelling : Type 0
ActsKeepTelling = (d : DriverContent) (asks : ℕ → Request) (e : ℕ) (name : EpName) (whole : Request → List ℕ) (v u : Windows) (reported waits : List ℕ)
    → IsUncancelled name d → AllByRecursion (λ t. u.acts t ≡ v.acts t) reported → IsTelling d asks e name whole v reported waits → IsTelling d asks e name whole u reported waits

abbrev pub QuietRowKeepsTelling : Type 0
QuietRowKeepsTelling = (p : Parts) (row : DriverRow) (asks : ℕ → Request) (e : ℕ) (name : EpName) (whole : Request → List ℕ) (v : Windows) (reported waits : List ℕ) → adds_lines row ≡ false
    → IsTelling p.driver asks e name whole v reported waits → IsTelling (after_driver_row row p).driver asks e name whole v reported waits

abbrev pub OtherHarvestKeepsTelling : Type 0
OtherHarvestKeepsTelling = (p : Parts) (k t : ℕ) (found : Found) (asks : ℕ → Request) (e : ℕ) (name : EpName) (whole : Request → List ℕ) (v : Windows) (reported waits : List ℕ) → k ≢ e
    → ((x : Endpoint) → slice_get p.driver.endpoints k ≡ Some x → is_same_name x.desc.name name ≡ false)
    → IsTelling p.driver asks e name whole v reported waits → IsTelling (after_driver_row (rows.Harvest k t found) p).driver asks e name whole v reported waits

abbrev pub OtherReturnsKeepTelling : Type 0
OtherReturnsKeepTelling = (p : Parts) (k : ℕ) (asks : ℕ → Request) (e : ℕ) (name : EpName) (whole : Request → List ℕ) (v : Windows) (reported waits : List ℕ) → k ≢ e → ReturnsOther p k name
    → IsTelling p.driver asks e name whole v reported waits → IsTelling (after_driver_row (rows.ReleaseEndpoint k) p).driver asks e name whole v reported waits

abbrev pub HarvestKeepsTelling : Type 0
HarvestKeepsTelling = (p : Parts) (t n : ℕ) (x : Endpoint) (y : Transfer) (asks : ℕ → Request) (e : ℕ) (whole : Request → List ℕ) (v : Windows) (reported waits : List ℕ) → IsHarvested p e t x y
    → IsTelling p.driver asks e x.desc.name whole v reported waits
    → IsTelling (after_driver_row (rows.Harvest e t founds.Active) p).driver asks e x.desc.name whole v reported waits
    × IsTelling (after_driver_row (rows.Harvest e t (founds.Moved n)) p).driver asks e x.desc.name whole v reported waits

abbrev pub HarvestTells : Type 0
HarvestTells = (p : Parts) (t n : ℕ) (what : What) (x : Endpoint) (y : Transfer) (asks : ℕ → Request) (e first : ℕ) (whole : Request → List ℕ) (v : Windows) (reported rest : List ℕ)
    → IsHarvested p e t x y → is_stall what ≡ false → is_refusal what ≡ false → is_cancel what ≡ false
    → IsTold whole what (bytes_with p y n) (window_at asks v first ∷ map (window_at asks v) rest)
    → IsTelling p.driver asks e x.desc.name whole v reported (first ∷ rest)
    → IsTelling (after_driver_row (rows.Harvest e t (founds.Ended n what)) p).driver asks e x.desc.name whole v (reported ++ first ∷ []) rest

-- so many transfers wait behind it
abbrev pub behind : Parts → ℕ → ℕ → ℕ
behind p e t = count_by (waits_for e) (drop (suc t) p.driver.transfers)

abbrev pub StallTells : Type 0
StallTells = (p : Parts) (t n : ℕ) (x : Endpoint) (y : Transfer) (asks : ℕ → Request) (e first : ℕ) (whole : Request → List ℕ) (v : Windows) (reported rest : List ℕ) → IsHarvested p e t x y
    → is_control x.desc.kind ≡ true → IsPrefix (bytes_with p y n) (whole (asks first))
    → IsTelling p.driver asks e x.desc.name whole v reported (first ∷ rest)
    → IsTelling (after_driver_row (rows.Harvest e t (founds.Ended n (Halt Stall))) p).driver asks e x.desc.name whole v (reported ++ first ∷ take (behind p e t) rest) (drop (behind p e t) rest)

-- the lines stay
pub record AddsTransfer (d c : DriverContent) (y : Transfer) (asks now : ℕ → Request) : Type 0 where
  pub transfers : c.transfers ≡ d.transfers ++ y ∷ []
  pub fresh : y.reported ≡ false
  pub reports : c.reports ≡ d.reports
  pub store : c.store ≡ d.store
  pub asked : (t : ℕ) → t < length d.transfers → now t ≡ asks t

abbrev pub AcceptedKeepsTelling : Type 0
AcceptedKeepsTelling = (d c : DriverContent) (y : Transfer) (asks now : ℕ → Request) (e : ℕ) (name : EpName) (whole : Request → List ℕ) (v : Windows) (reported waits : List ℕ) → AddsTransfer d c y asks now → IsUncancelled name d
    → y.endpoint ≡ e → IsTelling d asks e name whole v reported waits → IsTelling c now e name whole v reported (waits ++ length d.transfers ∷ [])

abbrev pub OtherAcceptedKeepsTelling : Type 0
OtherAcceptedKeepsTelling = (d c : DriverContent) (y : Transfer) (asks now : ℕ → Request) (e : ℕ) (name : EpName) (whole : Request → List ℕ) (v : Windows) (reported waits : List ℕ) → AddsTransfer d c y asks now → IsUncancelled name d
    → y.endpoint ≢ e → IsTelling d asks e name whole v reported waits → IsTelling c now e name whole v reported waits
