-- The windows that the law of requests has are those that the trace of a run tells (EHCI 1.0, 4.10; USB 2.0, 8.5.3): what joins a driver's transfers to
-- the requests of the queue heads, and how their windows are recorded. `endpoint n` is the number of the driver's endpoint whose queue head stands at n,
-- and `number n i` that of the transfer which is request i of it.
--     AreTransfers ..            the requests are transfers of these endpoints, and the SETUP of the request under way is found by its place
--     IsFound .., AreFound ..    so of a request, and of each that isn't done
--     IsOpened ..                the window of the request under way is open, or it still is before its SETUP's answer
--     AreRecorded .., IsRecorded ..   what is recorded of each request of a queue that was begun is what its window has, and nothing of those behind it;
--                                so of all queue heads
--     StaysRecorded ..           an event leaves all windows as they must be, and the recorded ones are these
--     RecorderFollows            the law
--     AreInOrder ..              the transfers of an endpoint are the requests of a queue, in their order
--     told_at v l i              what is told of request i: it, with the acts of its window, or with none before it is begun
use Rattle.std.specs.Prelude.{◌≡◌, ◌≢◌, ◌⊎◌, ℕ, ◌<◌, ◌≤◌, Bool, true, false, List, [], nat_le, slice_get, Option, Some, None, if◌then◌else◌}
use Rattle.bus_wire.specs.Bus.{Fixed}
use Rattle.law_structures.specs.lent_structures.Structures.{Element, StructureSets}
use Rattle.qh_qtd.specs.declared.qtd.Qtd.{Qtd}
use Rattle.drv_table.specs.declared.content.Endpoint.{Endpoint as DriverEndpoint}
use Rattle.drv_table.specs.DriverContent.{DriverContent}
use Rattle.claims_report.specs.Requests.{Request, Window}
use Rattle.law_request.specs.Host.{Endpoint, Setup}
use Rattle.law_ring.specs.Hand.{Hand}
use Rattle.claims_base.specs.Controller.{Base}
use Rattle.law_devices.specs.ring_requests.Windows.{Queue, Lines, AreHigh, stage_of, stepped}
use Rattle.law_devices.specs.ring_requests.Runs.{first_of}
use Rattle.bus_world.specs.World.{World, controller_next}
use Rattle.law_reports.specs.requests.world_requests.Requesting.{IsRequesting, HearsBytesNow, StaysRequesting}
use Rattle.claims_world.specs.Requests.{setup_at, endpoint_of, Windows, after_event, numbers_of}

-- the endpoint with this number has the address and the number of these requests
pub record IsNamed (d : DriverContent) (e : ℕ) (x : Endpoint) : Type 0 where
  pub own : DriverEndpoint
  pub here : slice_get d.endpoints e ≡ Some own
  pub address : own.desc.name.addr ≡ x.addr
  pub number : own.desc.name.num ≡ x.num

-- no request of this endpoint begins there
abbrev pub IsNoSetup : DriverContent → ℕ → ℕ → Type 0
IsNoSetup d e a = (t : ℕ) → setup_at d a ≡ Some t → endpoint_of d t ≢ Some e

pub record AreTransfers (d : DriverContent) (windows : ℕ → Bool) (sent : ℕ → Queue) (lines : ℕ → Lines) (parts : StructureSets) (endpoint : ℕ → ℕ) (number : ℕ → ℕ → ℕ) : Type 0 where
  pub named : (n : ℕ) → windows n ≡ true → IsNamed d (endpoint n) (sent n).endpoint
  pub apart : (n k : ℕ) → windows n ≡ true → windows k ≡ true → endpoint n ≡ endpoint k → n ≡ k
  pub are : (n i : ℕ) → windows n ≡ true → i < (sent n).count → endpoint_of d (number n i) ≡ Some (endpoint n)
  pub own : (n i k : ℕ) → windows n ≡ true → i < (sent n).count → k < (sent n).count → number n i ≡ number n k → i ≡ k
  -- of the request under way
  pub setup : (n : ℕ) → windows n ≡ true → setup_at d ((sent n).places (lines n).under).setup ≡ Some (number n (lines n).under)
  pub data_at : (n : ℕ) → windows n ≡ true → setup_at d ((sent n).places (lines n).under).data_at ≡ None
  pub status : (n : ℕ) → windows n ≡ true → setup_at d ((sent n).places (lines n).under).status ≡ None
  -- the qTDs of other queue heads begin none of these requests
  pub others : (n k a : ℕ) (t : Qtd) → windows n ≡ true → windows k ≡ false → parts k a ≡ Some (Element t) → IsNoSetup d (endpoint n) a

-- so of all requests that aren't done: what an event needs of the one under way, whichever comes to be so
pub record IsFound (d : DriverContent) (v : Queue) (number : ℕ → ℕ) (i : ℕ) : Type 0 where
  pub setup : setup_at d (v.places i).setup ≡ Some (number i)
  pub data_at : setup_at d (v.places i).data_at ≡ None
  pub status : setup_at d (v.places i).status ≡ None

abbrev pub AreFound : DriverContent → (ℕ → Bool) → (ℕ → Queue) → (ℕ → Lines) → (ℕ → ℕ → ℕ) → Type 0
AreFound d windows sent lines number = (n i : ℕ) → windows n ≡ true → (lines n).under ≤ i → i < (sent n).count → IsFound d (sent n) (number n) i

abbrev pub IsOpened : Option ℕ → ℕ → Lines → Type 0
IsOpened latest t l = (latest ≡ Some t) ⊎ (stage_of l ≡ Setup)

pub record AreRecorded (v : Queue) (number : ℕ → ℕ) (latest : Option ℕ) (acts : ℕ → List (List ℕ)) (l : Lines) : Type 0 where
  pub begun : (i : ℕ) → i ≤ l.under → acts (number i) ≡ (l.line i).acts
  pub behind : (i : ℕ) → l.under < i → i < v.count → acts (number i) ≡ []
  pub is_open : IsOpened latest (number l.under) l

abbrev pub IsRecorded : (ℕ → Bool) → (ℕ → Queue) → (ℕ → ℕ) → (ℕ → ℕ → ℕ) → (ℕ → Lines) → Windows → Type 0
IsRecorded windows sent endpoint number lines v = (n : ℕ) → windows n ≡ true → AreRecorded (sent n) (number n) (v.opened (endpoint n)) v.acts (lines n)

pub record StaysRecorded (fixed : Fixed) (base : Base) (member windows : ℕ → Bool) (sent : ℕ → Queue) (endpoint : ℕ → ℕ) (number : ℕ → ℕ → ℕ) (lines : ℕ → Lines)
    (w : World) (v : Windows) : Type 0 where
  pub stays : StaysRequesting fixed base member windows sent lines (controller_next fixed w)
  pub recorded : IsRecorded windows sent endpoint number (stepped sent stays.step lines) (after_event fixed w v)

abbrev pub RecorderFollows : Type 0
RecorderFollows = (fixed : Fixed) (base : Base) (member windows : ℕ → Bool) (sent : ℕ → Queue) (parts : StructureSets) (hand : Hand) (lines : ℕ → Lines) (endpoint : ℕ → ℕ)
    (number : ℕ → ℕ → ℕ) (w : World) (v : Windows) → HearsBytesNow fixed w → IsRequesting fixed base member windows sent parts hand lines w → AreHigh windows parts → AreTransfers w.driver windows sent lines parts endpoint number
    → IsRecorded windows sent endpoint number lines v → StaysRecorded fixed base member windows sent endpoint number lines w v

-- ---- what is told of an endpoint

pub record AreInOrder (d : DriverContent) (asks : ℕ → Request) (e : ℕ) (v : Queue) (number : ℕ → ℕ) : Type 0 where
  pub numbers : numbers_of d e ≡ first_of number v.count
  pub requests : (i : ℕ) → i < v.count → asks (number i) ≡ v.requests i

abbrev pub told_at : Queue → Lines → ℕ → Window
told_at v l i = record { request = v.requests i; acts = if nat_le i l.under then (l.line i).acts else [] }
