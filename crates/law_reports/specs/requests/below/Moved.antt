-- The queue of a control endpoint below a hub, at the events of the driver and the commands, which leave hubs and devices (EHCI 1.0, 4.8
-- and 4.10; USB 2.0, 8.5.3 and 11.17).
--     IsAskedBelow ..      while its requests are asked: in the window of the one under way host, hub and device stand as they must, those
--                          before it were acted on once, and those behind it weren't
--     HubIsLeft ..         none is under way: nothing is asked of the hub; or the endpoint ended by errors, and its device may act yet
--     IsRestedBelow ..     while none of its requests is under way: so it is, and those that wait weren't acted on
--     IsCourseBelow ..     the queue stands so; `v` has what is recorded
--     MovesKeepCourseBelow
--                          whichever way the queue moves, so it stands again
use Rattle.std.specs.Prelude.{◌≡◌, ◌<◌, ◌≤◌, ℕ, Bool, true, [], ◌∷◌, Some}
use Rattle.usb_base.specs.declared.endpoints.EndCause.TheVariants as Causes
use Rattle.dev_control.specs.Stages.{Stages}
use Rattle.bus_wire.specs.Bus.{Wired}
use Rattle.claims_report.specs.Requests.{Request}
use Rattle.claims_world.specs.Requests.{Windows}
use Rattle.law_request.specs.Host.{Endpoint, Halted}
use Rattle.law_request.specs.Line.{Line as Window}
use Rattle.law_request.specs.Windows.{IsRequest}
use Rattle.law_devices.specs.ring_requests.Windows.{Queue, Lines}
use Rattle.law_below_hubs.specs.HostRequests.{RequestBelow, HubRests}
use Rattle.law_reports.specs.requests.world_requests.Recording.{IsOpened}
use Rattle.law_reports.specs.requests.Courses.{Course, NoQueue, Asks, Rests, queue_in}
use Rattle.law_reports.specs.requests.CourseMoves.{CourseMoves}
use Rattle.law_reports.specs.requests.Records.{Numbers}

pub record IsAskedBelow (i place : ℕ) (wire : Wired) (v : Windows) (q : Queue) (l : Lines) (a : Numbers) : Type 0 where
  pub within : l.under < q.count
  pub request : RequestBelow q.endpoint (q.requests l.under) i place wire (l.line l.under) (v.acts (a.number l.under))
  pub latest : IsOpened (v.opened a.endpoint) (a.number l.under) l
  pub earlier : (j : ℕ) → j < l.under → v.acts (a.number j) ≡ (q.requests j).setup ∷ []
  pub behind : (j : ℕ) → l.under < j → j < a.requests.count → v.acts (a.number j) ≡ []

-- the window of transfer t, which errors ended, is still open
pub data HubIsLeft (ended : Bool) (e : Endpoint) (i place : ℕ) (wire : Wired) (v : Windows) (number : ℕ) : Type 0 where
  by_none : (s : Stages) → HubRests e i place wire s → HubIsLeft ended e i place wire v number
  by_errors : (t : ℕ) (r : Request) (l : Window) → ended ≡ true → IsRequest r → v.opened number ≡ Some t
      → l.host.stage ≡ Halted Causes.Error → RequestBelow e r i place wire l (v.acts t) → HubIsLeft ended e i place wire v number

pub record IsRestedBelow (ended : Bool) (i place : ℕ) (wire : Wired) (v : Windows) (q : Queue) (s : Stages) (a : Numbers) : Type 0 where
  pub max : s.max ≡ q.endpoint.max
  pub hub : HubIsLeft ended q.endpoint i place wire v a.endpoint
  pub behind : (j : ℕ) → j < a.requests.count → v.acts (a.number j) ≡ []

abbrev pub IsCourseBelow : Bool → ℕ → ℕ → Wired → Windows → Course → Numbers → Type 0
IsCourseBelow ended i place wire v NoQueue a = Unit {0}
IsCourseBelow ended i place wire v (Asks q b l) a = IsAskedBelow i place wire v q l a
IsCourseBelow ended i place wire v (Rests q b s) a = IsRestedBelow ended i place wire v q s a

-- one that ended has no request, a transfer that is accepted had no window, and nothing was asked of a hub before its endpoint comes
pub record IsMovedSo (was ended : Bool) (i place : ℕ) (wire : Wired) (v : Windows) (c : Course) (a : Numbers) (d : Course) (b : Numbers)
    : Type 0 where
  pub stays_ended : was ≡ true → ended ≡ true
  pub none : ended ≡ true → b.requests.count ≡ 0
  pub ahead : (queue_in d).count ≤ b.requests.count
  pub within : (queue_in c).count ≤ a.requests.count
  pub new : a.requests.count < b.requests.count → v.acts (b.number a.requests.count) ≡ []
  pub request : (q : Queue) (m : ℕ) (l : Lines) → c ≡ Asks q m l → IsRequest (q.requests l.under)
  pub opens : (q : Queue) (m : ℕ) (s : Stages) → c ≡ NoQueue → d ≡ Rests q m s → IsRestedBelow ended i place wire v q s b

abbrev pub MovesKeepCourseBelow : Type 0
MovesKeepCourseBelow = (was ended : Bool) (i place : ℕ) (wire : Wired) (v : Windows) (c : Course) (a : Numbers) (d : Course) (b : Numbers)
    → CourseMoves ended c a d b → IsMovedSo was ended i place wire v c a d b → IsCourseBelow was i place wire v c a
    → IsCourseBelow ended i place wire v d b
