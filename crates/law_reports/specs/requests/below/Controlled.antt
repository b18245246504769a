-- A control endpoint below a hub at an event of the controller, in a world with endpoints of every kind (EHCI 1.0, 4.4 to 4.12; USB 2.0,
-- 8.5.3, 11.17, 11.18 and 11.24.2).
--     IsAloneIn s d e n        its queue head stands at n, in the ring; no other one that a walk may meet, and no isochronous endpoint, is
--                              one of this endpoint
--     IsSparedHub i wire       the hub at this place hasn't heard last to clear a buffer or reset a translator
--     MovesAreRecorded         what the device acts on in an event is what a run records of its stages before and after it
--     ControllerKeepsQueueBelow, ControllerKeepsRestBelow, ControllerKeepsLeftBelow
--                              each event leaves it as it must stand: while its requests are asked, between two, and after errors; in
--                              the latter two it leaves its structures
--     UnsentActsNothing        while nothing is asked of its hub, and the queue head in hand, if it works, is another one, its device acts
--                              on nothing; so it is before a SETUP is sent
use Rattle.std.specs.Prelude.{◌≡◌, ◌≤◌, ℕ, true, false, List, [], slice_get, Some}
use Rattle.dev_control.specs.Stages.{Stages}
use Rattle.hub_class.specs.HubContent.{HubContent}
use Rattle.bus_wire.specs.Bus.{Fixed, Wired}
use Rattle.drv_table.specs.declared.content.Endpoint.{Endpoint as DriverEndpoint}
use Rattle.drv_table.specs.DriverContent.{DriverContent}
use Rattle.drv_table.specs.Kinds.{is_iso}
use Rattle.bus_world.specs.World.{World, controller_next}
use Rattle.claims_report.specs.Requests.{Request}
use Rattle.claims_world.specs.BelowStreams.{heard_clear}
use Rattle.claims_world.specs.Requests.{wired, acted_between}
use Rattle.law_request.specs.Host.{Endpoint}
use Rattle.law_request.specs.Line.{Line as Window}
use Rattle.law_request.specs.Windows.{IsRequest}
use Rattle.law_controller.specs.frame_control.Joined.{joined}
use Rattle.law_devices.specs.ring_requests.Resting.{IsAlone}
use Rattle.law_devices.specs.ring_requests.Windows.{Queue, Lines}
use Rattle.law_below_hubs.specs.HostRequests.{HubRests}
use Rattle.law_below_hubs.specs.RequestEvents.{InHandIsOther}
use Rattle.law_below_hubs.specs.RequestMoves.{DeviceMoves, QueueMoves, IsRestBelow, IsLeftBelow, LeftMoves}
use Rattle.law_below_hubs.specs.RequestQueues.{AreOneByOne, IsQueueBelow}
use Rattle.law_world.specs.memory.Mixed.{Standing}
use Rattle.law_world.specs.memory.Steps.{standing_then, IsMixedControlled}
use Rattle.law_reports.specs.lines.Lined.{Lines as Told}
use Rattle.law_reports.specs.pipes.Declared.{Sides}
use Rattle.law_reports.specs.pipes.Piped.{Heads, IsPiped}

pub record IsAloneIn (s : Standing) (d : DriverContent) (e : Endpoint) (n : ℕ) : Type 0 where
  pub member : s.member n ≡ true
  pub alone : IsAlone s.near e s.parts n
  pub no_iso : (f : ℕ) (y : DriverEndpoint) → slice_get d.endpoints f ≡ Some y → is_iso y.desc.kind ≡ true → e.addr ≡ y.desc.name.addr
      → e.num ≡ y.desc.name.num → ⊥

abbrev pub IsSparedHub : ℕ → Wired → Type 0
IsSparedHub i wire = (h : HubContent) → slice_get wire.bus.hubs i ≡ Some h → heard_clear h ≡ false

abbrev pub MovesAreRecorded : Type 0
MovesAreRecorded = (e : Endpoint) (wire after : Wired) (acted : List (List ℕ)) → (k : DeviceMoves e wire after acted)
    → acted_between k.before k.leaves ≡ acted

-- ---- each event

abbrev pub ControllerKeepsQueueBelow : Type 0
ControllerKeepsQueueBelow = (fixed : Fixed) (x : Sides) (s : Standing) (m : Told) (h : Heads) (w : World) → IsPiped fixed x s m h w
    → (c : IsMixedControlled fixed s w) → (v : Queue) (i place n : ℕ) (l : Lines) (acts : List (List ℕ)) → AreOneByOne v
    → v.endpoint.max ≤ 1024 → IsAloneIn s w.driver v.endpoint n → IsSparedHub i (wired fixed w)
    → IsQueueBelow v i place (wired fixed w) l acts s.hand s.parts n
    → QueueMoves v i place (wired fixed w) (wired fixed (controller_next fixed w)) l acts (standing_then s w c.event).hand
    (standing_then s w c.event).parts n

abbrev pub ControllerKeepsRestBelow : Type 0
ControllerKeepsRestBelow = (fixed : Fixed) (x : Sides) (s : Standing) (m : Told) (h : Heads) (w : World) → IsPiped fixed x s m h w
    → (c : IsMixedControlled fixed s w) → (e : Endpoint) (i place b n : ℕ) (stages : Stages) → IsAloneIn s w.driver e n
    → IsSparedHub i (wired fixed w) → IsRestBelow e i place (wired fixed w) stages b s.hand s.parts n
    → IsRestBelow e i place (wired fixed (controller_next fixed w)) stages b (standing_then s w c.event).hand
    (standing_then s w c.event).parts n × ((standing_then s w c.event).parts n ≡ s.parts n)

-- the device may act then, too
abbrev pub ControllerKeepsLeftBelow : Type 0
ControllerKeepsLeftBelow = (fixed : Fixed) (x : Sides) (s : Standing) (m : Told) (h : Heads) (w : World) → IsPiped fixed x s m h w
    → (c : IsMixedControlled fixed s w) → (e : Endpoint) (r : Request) (i place b n : ℕ) (l : Window) (acts : List (List ℕ)) → IsRequest r
    → e.max ≤ 1024 → IsAloneIn s w.driver e n → IsSparedHub i (wired fixed w)
    → IsLeftBelow e r i place (wired fixed w) l acts b s.hand s.parts n
    → LeftMoves e r i place (wired fixed w) (wired fixed (controller_next fixed w)) l acts b (standing_then s w c.event).hand
    (standing_then s w c.event).parts n × ((standing_then s w c.event).parts n ≡ s.parts n)

abbrev pub UnsentActsNothing : Type 0
UnsentActsNothing = (fixed : Fixed) (x : Sides) (s : Standing) (m : Told) (h : Heads) (w : World) → IsPiped fixed x s m h w
    → (c : IsMixedControlled fixed s w) → (e : Endpoint) (i place n : ℕ) (stages : Stages) → IsAloneIn s w.driver e n
    → IsSparedHub i (wired fixed w) → InHandIsOther e s.parts (joined s.hand s.frame) → HubRests e i place (wired fixed w) stages
    → HubRests e i place (wired fixed (controller_next fixed w)) stages
    × ((acted : List (List ℕ)) → DeviceMoves e (wired fixed w) (wired fixed (controller_next fixed w)) acted → acted ≡ [])
