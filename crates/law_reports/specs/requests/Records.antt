-- What a run records of the requests of a driver's control endpoints, beside the queues of their queue heads (EHCI 1.0, 3.5 and 4.10; USB 2.0, 8.5.3): the
-- transfers of an endpoint are those whose windows are closed, then the requests of its queue, and at most one more that is accepted and not published yet.
--     Numbers                    of a queue head: the number of the driver's endpoint, its transfers whose windows are closed, its other requests, and their numbers
--     IsAhead v w                the requests of v are the first of w, and at most one more comes
--     IsNumbered d asks n c a    these are the transfers of the endpoint whose queue stands so
--     IsOnceAt asks v t          on transfer t the device acted at most once, and on nothing but its setup bytes
--     AreActs c a v              what is recorded of the requests is what their windows have; and nothing of those that aren't begun
--     IsClosed .., IsRecord ..   so it is of a closed window, and of the endpoint of a queue head
--     AreRecords ..              so of all endpoints with such queues, and of those that are gone
use Rattle.std.specs.Prelude.{◌≡◌, ◌≢◌, ℕ, suc, ◌<◌, ◌≤◌, Bool, true, List, [], Some, None}
use Rattle.std.specs.List.{AllByRecursion}
use Rattle.claims_report.specs.Acts.{IsOnce}
use Rattle.drv_table.specs.DriverContent.{DriverContent}
use Rattle.claims_report.specs.Requests.{Request}
use Rattle.law_devices.specs.ring_requests.Windows.{Queue, sent_at}
use Rattle.claims_world.specs.Requests.{endpoint_of, Windows, numbers_of}
use Rattle.law_reports.specs.requests.world_requests.Recording.{AreRecorded}
use Rattle.law_reports.specs.requests.driver_requests.Requests.{AreOfEndpoint}
use Rattle.law_reports.specs.requests.driver_requests.Behind.{AreBehind}
use Rattle.law_reports.specs.requests.Courses.{Course, NoQueue, Asks, Rests, queue_in, have_queues}

pub record Numbers : Type 0 where
  pub endpoint : ℕ
  pub closed : List ℕ
  pub requests : Queue
  pub number : ℕ → ℕ

pub record IsAhead (v w : Queue) : Type 0 where
  pub endpoint : w.endpoint ≡ v.endpoint
  pub few : v.count ≤ w.count
  pub most : w.count ≤ suc v.count
  pub same : (i : ℕ) → i < v.count → sent_at w i ≡ sent_at v i

pub record IsNumbered (d : DriverContent) (asks : ℕ → Request) (n : ℕ) (c : Course) (a : Numbers) : Type 0 where
  pub own : AreOfEndpoint d a.requests 0 n a.endpoint a.number
  pub order : AreBehind d asks a.endpoint a.closed a.requests a.number
  pub ahead : IsAhead (queue_in c) a.requests

-- ---- what is recorded

abbrev pub IsOnceAt : (ℕ → Request) → Windows → ℕ → Type 0
IsOnceAt asks v t = IsOnce (asks t).setup (v.acts t)

abbrev pub AreActs : Course → Numbers → Windows → Type 0
AreActs NoQueue a v = Unit {0}
AreActs (Asks q b l) a v = AreRecorded a.requests a.number (v.opened a.endpoint) v.acts l
AreActs (Rests q b c) a v = (i : ℕ) → i < a.requests.count → v.acts (a.number i) ≡ []

pub record IsClosed (d : DriverContent) (asks : ℕ → Request) (a : Numbers) (v : Windows) (t : ℕ) : Type 0 where
  pub of : endpoint_of d t ≡ Some a.endpoint
  pub beside : (i : ℕ) → i < a.requests.count → t ≢ a.number i
  pub once : IsOnceAt asks v t

pub record IsRecord (d : DriverContent) (asks : ℕ → Request) (n : ℕ) (c : Course) (a : Numbers) (v : Windows) : Type 0 where
  pub numbered : IsNumbered d asks n c a
  pub acts : AreActs c a v
  pub closed : AllByRecursion (IsClosed d asks a v) a.closed

-- ---- all of them

pub record AreRecords (d : DriverContent) (asks : ℕ → Request) (courses : ℕ → Course) (numbers : ℕ → Numbers) (gone : ℕ → Bool) (v : Windows) : Type 0 where
  pub each : (n : ℕ) → have_queues courses n ≡ true → IsRecord d asks n (courses n) (numbers n) v
  -- of an endpoint of whose queue nothing more is told
  pub left : (e : ℕ) → gone e ≡ true → AllByRecursion (IsOnceAt asks v) (numbers_of d e)
  -- of transfers that aren't there
  pub none : (t : ℕ) → endpoint_of d t ≡ None → v.acts t ≡ []
