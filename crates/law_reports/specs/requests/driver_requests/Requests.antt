-- The requests of the ring's queue heads are transfers of a driver's control endpoints (EHCI 1.0, 3.5, 3.6, 4.8.1 and 4.10; USB 2.0, 8.5.3 and 9.3). `n` is
-- where a queue head stands, `e` the number of the driver's endpoint, and `number i` that of the transfer which is request i of it.
--     IsOfEndpoint d x n e       the driver's control endpoint e has the address and the number of x, and its queue head stands at n
--     IsOfTransfer d e t         transfer t is a request of endpoint e
--     IsLaidOut d t r x          transfer t wasn't given back, it has the qTDs of the request r, and they stand at these places
--     AreOfEndpoint ..           the requests of a queue are transfers of endpoint e in rising order, laid out from the request under way on
--     AreOfDriver ..             so are those of all these queue heads
--     HaveQtds d                 each request that wasn't given back has a qTD
--     AreUnderWay ..             one of the requests of each of these queue heads is under way
--     TransfersAreTold           the law: then they are the transfers of which the recorder's law speaks
--     RequestsAreFound           .. and each that isn't done is found by its place
--     ChainedHaveQtds            the law: so have transfers whose qTDs are chained
use Rattle.std.specs.Prelude.{◌≡◌, ℕ, ◌*◌, ◌<◌, ◌≤◌, Bool, true, false, length, slice_get, Some}
use Rattle.usb_base.specs.declared.packets.EpKind.TheVariants as kinds
use Rattle.drv_table.specs.declared.content.Endpoint.{Endpoint as DriverEndpoint}
use Rattle.drv_table.specs.declared.content.Transfer.{Transfer}
use Rattle.drv_table.specs.declared.content.Sort.TheVariants as sorts
use Rattle.drv_table.specs.DriverContent.{DriverContent}
use Rattle.drv_table.specs.Words.{request_stages}
use Rattle.claims_driver.specs.Owners.{views_of}
use Rattle.claims_driver.specs.Leaving.{HasOwners}
use Rattle.law_driver.specs.chained_transfers.Chains.{AreChained}
use Rattle.claims_report.specs.Requests.{Request}
use Rattle.law_request.specs.Host.{Endpoint}
use Rattle.law_structures.specs.lent_structures.Structures.{StructureSets}
use Rattle.law_devices.specs.ring_requests.Laid.{Places}
use Rattle.law_devices.specs.ring_requests.Windows.{Queue, Lines, AreSent}
use Rattle.law_driver_ring.specs.Inventory.{sorts_of, IsDriven}
use Rattle.law_reports.specs.requests.request_bytes.Fresh.{request_places}
use Rattle.law_reports.specs.requests.world_requests.Recording.{AreTransfers, AreFound}

-- its blocks have 32 bytes
pub record IsOfEndpoint (d : DriverContent) (x : Endpoint) (n e : ℕ) : Type 0 where
  pub own : DriverEndpoint
  pub here : slice_get d.endpoints e ≡ Some own
  pub control : own.desc.kind ≡ kinds.Control
  pub queue : n ≡ 32 * own.queue
  pub held : own.gone ≡ false
  pub address : own.desc.name.addr ≡ x.addr
  pub number : own.desc.name.num ≡ x.num

pub record IsOfTransfer (d : DriverContent) (e t : ℕ) : Type 0 where
  pub own : Transfer
  pub here : slice_get d.transfers t ≡ Some own
  pub endpoint : own.endpoint ≡ e
  pub sort : own.sort ≡ sorts.Request

-- a SETUP, its data if there are any, and its status (USB 2.0, 8.5.3)
pub record IsLaidOut (d : DriverContent) (t : ℕ) (r : Request) (x : Places) : Type 0 where
  pub own : Transfer
  pub here : slice_get d.transfers t ≡ Some own
  pub held : own.released ≡ false
  pub qtds : own.qtds ≡ length (request_stages r.setup)
  pub places : x ≡ request_places d.notes own.first r

pub record AreOfEndpoint (d : DriverContent) (v : Queue) (under n e : ℕ) (number : ℕ → ℕ) : Type 0 where
  pub endpoint : IsOfEndpoint d v.endpoint n e
  pub transfers : (i : ℕ) → i < v.count → IsOfTransfer d e (number i)
  pub rising : (i k : ℕ) → i < k → k < v.count → number i < number k
  pub laid : (i : ℕ) → under ≤ i → i < v.count → IsLaidOut d (number i) (v.requests i) (v.places i)

abbrev pub AreOfDriver : DriverContent → (ℕ → Bool) → (ℕ → Queue) → (ℕ → Lines) → (ℕ → ℕ) → (ℕ → ℕ → ℕ) → Type 0
AreOfDriver d windows sent lines endpoint number = (n : ℕ) → windows n ≡ true → AreOfEndpoint d (sent n) (lines n).under n (endpoint n) (number n)

abbrev pub HaveQtds : DriverContent → Type 0
HaveQtds d = (t : ℕ) (y : Transfer) → slice_get d.transfers t ≡ Some y → y.sort ≡ sorts.Request → y.released ≡ false → 1 ≤ y.qtds

abbrev pub AreUnderWay : (ℕ → Bool) → (ℕ → Queue) → (ℕ → Lines) → Type 0
AreUnderWay windows sent lines = (n : ℕ) → windows n ≡ true → (lines n).under < (sent n).count

abbrev pub TransfersAreTold : Type 0
TransfersAreTold = (d : DriverContent) (member windows : ℕ → Bool) (sent : ℕ → Queue) (lines : ℕ → Lines) (parts : StructureSets) (endpoint : ℕ → ℕ) (number : ℕ → ℕ → ℕ)
    → HasOwners d → HaveQtds d → IsDriven (views_of d) (sorts_of parts) → AreSent member windows sent → AreUnderWay windows sent lines
    → AreOfDriver d windows sent lines endpoint number → AreTransfers d windows sent lines parts endpoint number

abbrev pub RequestsAreFound : Type 0
RequestsAreFound = (d : DriverContent) (member windows : ℕ → Bool) (sent : ℕ → Queue) (lines : ℕ → Lines) (endpoint : ℕ → ℕ) (number : ℕ → ℕ → ℕ)
    → HasOwners d → HaveQtds d → AreSent member windows sent → AreOfDriver d windows sent lines endpoint number → AreFound d windows sent lines number

abbrev pub ChainedHaveQtds : Type 0
ChainedHaveQtds = (d : DriverContent) → AreChained (views_of d) → HaveQtds d
