-- What a run records of a control endpoint below a hub at an event of the controller: what its device acts on is of the window of the
-- request under way, or of the one that errors ended (EHCI 1.0, 4.4 to 4.12; USB 2.0, 8.5.3, 11.17 and 11.18).
--     AreTransfersOf ..       these are transfers of the endpoint, each another one
--     AskedIsRecordedBelow    while its requests are asked, so all stands as it must with what is recorded
--     RestIsRecordedBelow, LeftIsRecordedBelow
--                             .. between two, and after errors
use Rattle.std.specs.Prelude.{◌≡◌, ◌<◌, ◌≤◌, ◌⊎◌, ℕ, Bool, true, [], Some}
use Rattle.dev_control.specs.Stages.{Stages}
use Rattle.bus_wire.specs.Bus.{Fixed}
use Rattle.drv_table.specs.DriverContent.{DriverContent}
use Rattle.bus_world.specs.World.{World, controller_next}
use Rattle.claims_report.specs.Requests.{Request}
use Rattle.claims_world.specs.Requests.{wired, endpoint_of, Windows, after_event}
use Rattle.law_structures.specs.lent_structures.Structures.{StructureSets}
use Rattle.law_ring.specs.Hand.{Hand}
use Rattle.law_request.specs.Host.{Endpoint}
use Rattle.law_request.specs.Line.{Line as Window}
use Rattle.law_request.specs.Windows.{IsRequest}
use Rattle.law_devices.specs.ring_requests.Windows.{Queue, Lines}
use Rattle.law_below_hubs.specs.HostRequests.{HubRests}
use Rattle.law_below_hubs.specs.RequestMoves.{QueueMoves, LeftMoves}
use Rattle.law_reports.specs.requests.world_requests.Recording.{IsNamed, IsOpened}
use Rattle.law_reports.specs.requests.Records.{Numbers}
use Rattle.law_reports.specs.requests.below.Moved.{IsAskedBelow, IsRestedBelow}

pub record AreTransfersOf (d : DriverContent) (x : Endpoint) (a : Numbers) : Type 0 where
  pub named : IsNamed d a.endpoint x
  pub are : (j : ℕ) → j < a.requests.count → endpoint_of d (a.number j) ≡ Some a.endpoint
  pub own : (j k : ℕ) → j < a.requests.count → k < a.requests.count → a.number j ≡ a.number k → j ≡ k

-- where the window is open in which it goes on, or its device acts on nothing
abbrev pub AskedIsRecordedBelow : Type 0
AskedIsRecordedBelow = (fixed : Fixed) (w : World) (i place n : ℕ) (v : Windows) (q : Queue) (l : Lines) (a : Numbers) (hand : Hand)
    (parts : StructureSets) → AreTransfersOf w.driver q.endpoint a → q.count ≤ a.requests.count
    → (m : QueueMoves q i place (wired fixed w) (wired fixed (controller_next fixed w)) l (v.acts (a.number l.under)) hand parts n)
    → IsOpened ((after_event fixed w v).opened a.endpoint) (a.number m.lines.under) m.lines
    → ((after_event fixed w v).opened a.endpoint ≡ Some (a.number m.lines.under)) ⊎ (m.acted ≡ [])
    → IsAskedBelow i place (wired fixed w) v q l a
    → IsAskedBelow i place (wired fixed (controller_next fixed w)) (after_event fixed w v) q m.lines a

abbrev pub RestIsRecordedBelow : Type 0
RestIsRecordedBelow = (fixed : Fixed) (w : World) (ended : Bool) (i place : ℕ) (v : Windows) (q : Queue) (s c : Stages) (a : Numbers)
    → AreTransfersOf w.driver q.endpoint a → HubRests q.endpoint i place (wired fixed w) c
    → HubRests q.endpoint i place (wired fixed (controller_next fixed w)) c → IsRestedBelow ended i place (wired fixed w) v q s a
    → IsRestedBelow ended i place (wired fixed (controller_next fixed w)) (after_event fixed w v) q s a

-- none of its requests waits then
abbrev pub LeftIsRecordedBelow : Type 0
LeftIsRecordedBelow = (fixed : Fixed) (w : World) (ended : Bool) (i place b n t : ℕ) (v : Windows) (q : Queue) (s : Stages) (r : Request)
    (l : Window) (a : Numbers) (hand : Hand) (parts : StructureSets) → IsRequest r → AreTransfersOf w.driver q.endpoint a → ended ≡ true
    → a.requests.count ≡ 0 → endpoint_of w.driver t ≡ Some a.endpoint → (after_event fixed w v).opened a.endpoint ≡ Some t
    → LeftMoves q.endpoint r i place (wired fixed w) (wired fixed (controller_next fixed w)) l (v.acts t) b hand parts n
    → IsRestedBelow ended i place (wired fixed w) v q s a
    → IsRestedBelow ended i place (wired fixed (controller_next fixed w)) (after_event fixed w v) q s a
