-- The queue of a control endpoint below a hub at an event of the controller, whichever way it stands, in a world with endpoints of every
-- kind (EHCI 1.0, 4.4 to 4.12; USB 2.0, 8.5.3, 11.17 and 11.18).
--     heard_in c           its device as the host has heard of it
--     IsShownBelow ..      memory and the copy in hand show the queue so
--     IsOnward c d         it is the same queue, with the windows of its requests as they are then
--     IsOpenedSo ..        the window is open in which it goes on, or its device acts on nothing; between two requests the same stays open
--     HasCourseBelow ..    what an event needs of the queue, its endpoint, and its transfers
--     CourseGoesOn ..      so it stands again, with what is recorded
--     ControllerKeepsCourseBelow
--                          each event leaves it so
use Rattle.std.specs.Prelude.{◌≡◌, ◌≤◌, ◌⊎◌, ℕ, Bool, true, List, [], Option, Some, None}
use Rattle.bus_wire.specs.Bus.{Fixed}
use Rattle.bus_world.specs.World.{World, controller_next}
use Rattle.claims_report.specs.ControlSides.{Device}
use Rattle.claims_world.specs.Requests.{wired, endpoint_of, Windows, after_event}
use Rattle.law_structures.specs.lent_structures.Structures.{StructureSets}
use Rattle.law_ring.specs.Hand.{Hand}
use Rattle.law_devices.specs.ring_requests.Windows.{Lines}
use Rattle.law_below_hubs.specs.RequestMoves.{DeviceMoves}
use Rattle.law_below_hubs.specs.RequestViews.{IsHeadBelow, heard}
use Rattle.law_world.specs.memory.Mixed.{Standing}
use Rattle.law_world.specs.memory.Steps.{standing_then, IsMixedControlled}
use Rattle.law_reports.specs.lines.Lined.{Lines as Told}
use Rattle.law_reports.specs.pipes.Declared.{Sides}
use Rattle.law_reports.specs.pipes.Piped.{Heads, IsPiped}
use Rattle.law_reports.specs.requests.world_requests.Recording.{IsOpened}
use Rattle.law_reports.specs.requests.Courses.{Course, NoQueue, Asks, Rests, has_queue, queue_in, IsCourse}
use Rattle.law_reports.specs.requests.Records.{Numbers}
use Rattle.law_reports.specs.requests.below.Controlled.{IsAloneIn, IsSparedHub}
use Rattle.law_reports.specs.requests.below.Moved.{IsCourseBelow}
use Rattle.law_reports.specs.requests.below.Recorded.{AreTransfersOf}

abbrev pub heard_in : Course → Option Device
heard_in NoQueue = None
heard_in (Asks q b l) = heard q.endpoint (l.line l.under).device
heard_in (Rests q b s) = heard q.endpoint s

abbrev pub as_heard : Option Device → ℕ → ℕ → Option Device
as_heard o addr num = o

abbrev pub IsShownBelow : Hand → StructureSets → ℕ → Course → Type 0
IsShownBelow hand parts n c = IsCourse as_heard parts hand (heard_in c) n c

abbrev pub IsOnward : Course → Course → Type 0
IsOnward NoQueue d = d ≡ NoQueue
IsOnward (Asks q b l) d = (m : Lines) × (d ≡ Asks q b m)
IsOnward (Rests q b s) d = d ≡ Rests q b s

abbrev pub IsOpenedSo : Windows → Windows → List (List ℕ) → Course → Numbers → Type 0
IsOpenedSo v now acted NoQueue a = Unit {0}
IsOpenedSo v now acted (Asks q b l) a =
    IsOpened (now.opened a.endpoint) (a.number l.under) l × ((now.opened a.endpoint ≡ Some (a.number l.under)) ⊎ (acted ≡ []))
IsOpenedSo v now acted (Rests q b s) a = now.opened a.endpoint ≡ v.opened a.endpoint

-- one that ended has no request
pub record HasCourseBelow (fixed : Fixed) (s : Standing) (w : World) (ended : Bool) (i place n : ℕ) (v : Windows) (c : Course) (a : Numbers)
    : Type 0 where
  pub room : (queue_in c).endpoint.max ≤ 1024
  pub alone : IsAloneIn s w.driver (queue_in c).endpoint n
  pub spared : IsSparedHub i (wired fixed w)
  pub transfers : AreTransfersOf w.driver (queue_in c).endpoint a
  pub few : (queue_in c).count ≤ a.requests.count
  pub owned : (t : ℕ) → v.opened a.endpoint ≡ Some t → endpoint_of w.driver t ≡ Some a.endpoint
  pub none : ended ≡ true → a.requests.count ≡ 0
  pub head : IsHeadBelow i place (wired fixed w) s.parts n
  pub shown : IsShownBelow s.hand s.parts n c
  pub below : IsCourseBelow ended i place (wired fixed w) v c a

pub record CourseGoesOn (fixed : Fixed) (w : World) (ended : Bool) (i place n : ℕ) (v : Windows) (c : Course) (a : Numbers) (hand : Hand)
    (parts : StructureSets) : Type 0 where
  pub course : Course
  pub onward : IsOnward c course
  pub acted : List (List ℕ)
  pub device : DeviceMoves (queue_in c).endpoint (wired fixed w) (wired fixed (controller_next fixed w)) acted
  pub head : IsHeadBelow i place (wired fixed (controller_next fixed w)) parts n
  pub shown : IsShownBelow hand parts n course
  pub below : IsOpenedSo v (after_event fixed w v) acted course a
      → IsCourseBelow ended i place (wired fixed (controller_next fixed w)) (after_event fixed w v) course a

abbrev pub ControllerKeepsCourseBelow : Type 0
ControllerKeepsCourseBelow = (fixed : Fixed) (x : Sides) (s : Standing) (m : Told) (h : Heads) (w : World) → IsPiped fixed x s m h w
    → (k : IsMixedControlled fixed s w) → (ended : Bool) (i place n : ℕ) (v : Windows) (c : Course) (a : Numbers) → has_queue c ≡ true
    → HasCourseBelow fixed s w ended i place n v c a
    → CourseGoesOn fixed w ended i place n v c a (standing_then s w k.event).hand (standing_then s w k.event).parts
