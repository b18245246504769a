-- What the driver's rows keep of the requests of a control endpoint (EHCI 1.0, 4.8.1 and 4.10; USB 2.0, 8.5.3): each stays a transfer of it while the driver
-- works, one more is accepted, and the first goes once it is done and given back.
--     EndpointStays, TransferStays   an endpoint, a transfer is told alike; a transfer may be given back where it is this one
--     KeepsRequests given d e i      so are endpoint i and its transfers, and where their qTDs lead
--     number_with count number t     the numbers of so many requests, and t behind them
--     RequestsStay, RequestsGoOn, RequestComes, RequestEnds
--                                    the laws: of a row that keeps them, of a step of the walk, of one more request, and of the first that goes
--     AcceptedRequestsStay           .. of a transfer that is accepted of any endpoint with qTDs
--     AcceptedRequestComes           .. of a request that is accepted
--     OpenKeepsRequests, CancelKeepsRequests
--                                    .. of an endpoint that is opened in the ring, and of one that is cancelled there
--     given_by row, KeepsEndpoint row i
--                                    the transfer that a row gives back; the row doesn't give endpoint i back
--     EachRowKeepsRequests           the law: each such row is of this kind
--     EachRowKeepsOrder              .. and each row leaves the order of an endpoint's requests
--     OrderGrows, OrderStays         the laws of that order where a request is accepted, and where anything is accepted of another endpoint
use Rattle.std.specs.Prelude.{◌≡◌, ◌≢◌, ℕ, suc, ◌<◌, ◌≤◌, ◌==◌, Bool, false, List, length, slice_get, Option, Some, None, if◌then◌else◌}
use Rattle.usb_base.specs.declared.commands.Cmd.{Cmd}
use Rattle.usb_base.specs.declared.commands.Cmd.TheVariants as commands
use Rattle.usb_base.specs.declared.endpoints.EpName.{EpName}
use Rattle.word_mem.specs.Memory.{Mem}
use Rattle.mem_runs.specs.Book.{holding, Stands}
use Rattle.drv_table.specs.declared.content.Endpoint.{Endpoint as DriverEndpoint}
use Rattle.drv_table.specs.declared.content.Transfer.{Transfer}
use Rattle.drv_table.specs.declared.content.Sort.TheVariants as sorts
use Rattle.drv_table.specs.declared.rows.DriverRow.{DriverRow}
use Rattle.drv_table.specs.declared.rows.DriverRow.TheVariants as rows
use Rattle.drv_periodic_table.specs.declared.content.Removed.TheVariants as removed
use Rattle.drv_table.specs.DriverContent.{DriverContent}
use Rattle.drv_table.specs.Words.{request_stages}
use Rattle.drv_table.specs.Accepting.{Offered}
use Rattle.drv_table.specs.Parts.{Parts}
use Rattle.drv_table.specs.Rows.{after_driver_row}
use Rattle.claims_driver.specs.Owners.{note_in, IsPieceOf}
use Rattle.claims_driver.specs.Leaving.{HasOwners}
use Rattle.law_driver.specs.run_owners.Accepts.{Transfers, Opens, Cancels}
use Rattle.claims_report.specs.Requests.{Request}
use Rattle.law_devices.specs.ring_requests.Laid.{Places}
use Rattle.law_devices.specs.ring_requests.Windows.{Queue, Lines, Step, stepped}
use Rattle.law_devices.specs.request_stores.Published.{with_request, without_first}
use Rattle.law_reports.specs.requests.request_bytes.Fresh.{next_of, request_places}
use Rattle.claims_world.specs.Requests.{asks_then}
use Rattle.law_reports.specs.requests.world_requests.Recording.{AreInOrder}
use Rattle.law_reports.specs.requests.driver_requests.Requests.{IsOfTransfer, IsLaidOut, AreOfEndpoint, AreOfDriver}

pub record EndpointStays (e : DriverContent) (i : ℕ) (x : DriverEndpoint) : Type 0 where
  pub own : DriverEndpoint
  pub here : slice_get e.endpoints i ≡ Some own
  pub desc : own.desc ≡ x.desc
  pub queue : own.queue ≡ x.queue
  pub gone : own.gone ≡ x.gone

pub record TransferStays (given : Option ℕ) (e : DriverContent) (t : ℕ) (y : Transfer) : Type 0 where
  pub own : Transfer
  pub here : slice_get e.transfers t ≡ Some own
  pub endpoint : own.endpoint ≡ y.endpoint
  pub sort : own.sort ≡ y.sort
  pub first : own.first ≡ y.first
  pub qtds : own.qtds ≡ y.qtds
  pub held : given ≢ Some t → own.released ≡ y.released

pub record KeepsRequests (given : Option ℕ) (d e : DriverContent) (i : ℕ) : Type 0 where
  pub endpoint : (x : DriverEndpoint) → slice_get d.endpoints i ≡ Some x → EndpointStays e i x
  pub transfers : (t : ℕ) (y : Transfer) → slice_get d.transfers t ≡ Some y → y.endpoint ≡ i → TransferStays given e t y
  pub notes : (t b : ℕ) (y : Transfer) → slice_get d.transfers t ≡ Some y → y.endpoint ≡ i → y.released ≡ false → IsPieceOf (note_in d.notes) y.first y.qtds b
      → next_of e.notes b ≡ next_of d.notes b

abbrev pub number_with : ℕ → (ℕ → ℕ) → ℕ → ℕ → ℕ
number_with count number t i = if i == count then t else number i

-- ---- the laws

abbrev pub RequestsStay : Type 0
RequestsStay = (given : Option ℕ) (d e : DriverContent) (v : Queue) (under n i : ℕ) (number : ℕ → ℕ) → KeepsRequests given d e i
    → ((k : ℕ) → under ≤ k → k < v.count → given ≢ Some (number k)) → AreOfEndpoint d v under n i number → AreOfEndpoint e v under n i number

abbrev pub RequestsGoOn : Type 0
RequestsGoOn = (d : DriverContent) (windows : ℕ → Bool) (sent : ℕ → Queue) (lines : ℕ → Lines) (step : Option Step) (endpoint : ℕ → ℕ) (number : ℕ → ℕ → ℕ)
    → AreOfDriver d windows sent lines endpoint number → AreOfDriver d windows sent (stepped sent step lines) endpoint number

abbrev pub RequestComes : Type 0
RequestComes = (d : DriverContent) (v : Queue) (under n i t : ℕ) (number : ℕ → ℕ) (r : Request) (x : Places) → AreOfEndpoint d v under n i number → IsOfTransfer d i t → IsLaidOut d t r x
    → ((k : ℕ) → k < v.count → number k < t) → AreOfEndpoint d (with_request v r x) under n i (number_with v.count number t)

abbrev pub RequestEnds : Type 0
RequestEnds = (d : DriverContent) (v : Queue) (under n i : ℕ) (number : ℕ → ℕ) → AreOfEndpoint d v (suc under) n i number → AreOfEndpoint d (without_first v) under n i (λ k. number (suc k))

abbrev pub AcceptedRequestsStay : Type 0
AcceptedRequestsStay = (d : DriverContent) (m : Mem) (o : Offered) (v : Queue) (under n i : ℕ) (number : ℕ → ℕ) → Transfers d m o → HasOwners d → Stands (holding d.book m)
    → AreOfEndpoint d v under n i number → AreOfEndpoint o.driver v under n i number

abbrev pub AcceptedRequestComes : Type 0
AcceptedRequestComes = (d : DriverContent) (m : Mem) (o : Offered) (why : Transfers d m o) (r : Request) (v : Queue) (under n : ℕ) (number : ℕ → ℕ)
    → why.asked.sort ≡ sorts.Request → why.asked.stages ≡ request_stages r.setup → HasOwners d → Stands (holding d.book m) → AreOfEndpoint d v under n why.number number
    → AreOfEndpoint o.driver (with_request v r (request_places o.driver.notes why.endpoint.dummy r)) under n why.number (number_with v.count number (length d.transfers))

abbrev pub OpenKeepsRequests : Type 0
OpenKeepsRequests = (d : DriverContent) (m : Mem) (o : Offered) (i : ℕ) → Opens d m o → KeepsRequests None d o.driver i

abbrev pub CancelKeepsRequests : Type 0
CancelKeepsRequests = (d : DriverContent) (m : Mem) (o : Offered) (i : ℕ) → Cancels d m o → KeepsRequests None d o.driver i

-- the order of an endpoint's requests, once a request of it was accepted, and once anything was of another endpoint
abbrev pub OrderGrows : Type 0
OrderGrows = (d : DriverContent) (m : Mem) (o : Offered) (why : Transfers d m o) (name : EpName) (setup bytes : List ℕ) (asks : ℕ → Request) (v : Queue) (under n : ℕ) (number : ℕ → ℕ) (x : Places)
    → AreOfEndpoint d v under n why.number number → AreInOrder d asks why.number v number
    → AreInOrder o.driver (asks_then d (commands.Control name setup bytes) asks) why.number (with_request v (record { setup = setup; bytes = bytes }) x) (number_with v.count number (length d.transfers))

abbrev pub OrderStays : Type 0
OrderStays = (d : DriverContent) (m : Mem) (o : Offered) (why : Transfers d m o) (cmd : Cmd) (asks : ℕ → Request) (v : Queue) (under n i : ℕ) (number : ℕ → ℕ) → i ≢ why.number
    → AreOfEndpoint d v under n i number → AreInOrder d asks i v number → AreInOrder o.driver (asks_then d cmd asks) i v number

-- ---- each row

-- the transfer that a row gives back
abbrev pub given_by : DriverRow → Option ℕ
given_by (rows.ReleaseTransfer t) = Some t
given_by (rows.ReleaseRemoved (removed.Descriptor t)) = Some t
given_by _ = None

-- the row doesn't give endpoint i back
abbrev pub KeepsEndpoint : DriverRow → ℕ → Type 0
KeepsEndpoint (rows.ReleaseEndpoint e) i = i ≢ e
KeepsEndpoint (rows.ReleaseRemoved (removed.Endpoint e)) i = i ≢ e
KeepsEndpoint _ i = Unit {0}

abbrev pub EachRowKeepsRequests : Type 0
EachRowKeepsRequests = (p : Parts) (row : DriverRow) (i : ℕ) → KeepsEndpoint row i → KeepsRequests (given_by row) p.driver (after_driver_row row p).driver i

abbrev pub EachRowKeepsOrder : Type 0
EachRowKeepsOrder = (p : Parts) (row : DriverRow) (asks : ℕ → Request) (i : ℕ) (v : Queue) (number : ℕ → ℕ) → AreInOrder p.driver asks i v number → AreInOrder (after_driver_row row p).driver asks i v number
