-- The requests of a driver's transfers, and those of the lines that were taken (EHCI 1.0, 4.10; USB 2.0, 8.5.3).
--     requests_of d asks e           the requests of the transfers of endpoint e, in their order; `asks` tells them by the number of the transfer
--     requests_to r taken name       the requests to an endpoint among these lines, but for those that the report refuses
--     RequestsAreTaken d r taken asks     the requests of each control endpoint of the driver are those of the lines that were taken
--     HasAsked s p puts asks         at this place of a run of the script some of its lines were taken, and so are their puts and requests
--     RequestsAreAsked s p asks      the requests of a control endpoint's transfers begin those that the script has for it by the report, and are all of them
--                                    at the end of the run
use Rattle.std.specs.Prelude.{◌≡◌, ℕ, true, List, [], ◌++◌, map, filter_map, slice_get, Some}
use Rattle.usb_base.specs.declared.endpoints.EpName.{EpName}
use Rattle.script_types.specs.declared.scripts.Line.{Line}
use Rattle.script_types.specs.declared.scripts.Script.{Script}
use Rattle.drv_table.specs.declared.content.Endpoint.{Endpoint}
use Rattle.drv_table.specs.DriverContent.{DriverContent}
use Rattle.drv_table.specs.Words.{is_control}
use Rattle.bus_wire.specs.Bus.{fixed_of}
use Rattle.claims_report.specs.Reports.{WholeReport}
use Rattle.claims_report.specs.Streams.{accepted_in}
use Rattle.claims_report.specs.Requests.{Request, request_in, requests}
use Rattle.bus_world.specs.Orders.{OrderedWorld}
use Rattle.claims_world.specs.Streams.{report_of}
use Rattle.law_world.specs.streams.put_laws.TakenLines.{AreTaken}
use Rattle.law_world.specs.streams.put_laws.TakenPuts.{IsUnnamed, PutsAreTaken}
use Rattle.claims_world.specs.Requests.{numbers_of}

abbrev pub requests_of : DriverContent → (ℕ → Request) → ℕ → List Request
requests_of d asks e = map asks (numbers_of d e)

abbrev pub requests_to : WholeReport → List (ℕ × Line) → EpName → List Request
requests_to r taken name = filter_map (request_in name) (filter_map (accepted_in r) taken)

pub record RequestsAreTaken (d : DriverContent) (r : WholeReport) (taken : List (ℕ × Line)) (asks : ℕ → Request) : Type 0 where
  pub each : (e : ℕ) (x : Endpoint) → slice_get d.endpoints e ≡ Some x → is_control x.desc.kind ≡ true → requests_of d asks e ≡ requests_to r taken x.desc.name
  -- of no endpoint that isn't open
  pub others : (name : EpName) → IsUnnamed d name → requests_to r taken name ≡ []

pub record HasAsked (s : Script) (p : OrderedWorld) (puts : ℕ → List ℕ) (asks : ℕ → Request) : Type 0 where
  pub taken : List (ℕ × Line)
  pub left : List (ℕ × Line)
  pub lines : AreTaken s p taken left
  pub sent : PutsAreTaken p.world.driver (report_of (fixed_of s) p.world) taken puts
  pub asked : RequestsAreTaken p.world.driver (report_of (fixed_of s) p.world) taken asks

pub record RequestsAreAsked (s : Script) (p : OrderedWorld) (asks : ℕ → Request) : Type 0 where
  pub begin : (e : ℕ) (x : Endpoint) → slice_get p.world.driver.endpoints e ≡ Some x → is_control x.desc.kind ≡ true
      → (rest : List Request) × (requests_of p.world.driver asks e ++ rest ≡ requests s (report_of (fixed_of s) p.world) x.desc.name)
  -- once no order is left
  pub all : p.orders ≡ [] → (e : ℕ) (x : Endpoint) → slice_get p.world.driver.endpoints e ≡ Some x → is_control x.desc.kind ≡ true
      → requests_of p.world.driver asks e ≡ requests s (report_of (fixed_of s) p.world) x.desc.name
  pub unopened : p.orders ≡ [] → (name : EpName) → IsUnnamed p.world.driver name → requests s (report_of (fixed_of s) p.world) name ≡ []
