-- The requests of a control endpoint below a hub at any event of the controller: of the walk of the ring, of the walk of the frames, or
-- where a microframe begins (EHCI 1.0, 4.4 to 4.12; USB 2.0, 8.5.3, 11.17 and 11.18).
--     DeviceMoves ..           what the device acts on in an event, by its stages before and after it
--     QueueMoves ..            the requests go on; what the device acted on is of the window of the one under way
--     RingKeepsQueue           so they do at each event of the ring's controller
--     BesideKeepsQueue         .. and at one that leaves the structures of the queue head and what is in hand, as those of the frames do
--     IsIdleHead ..            the queue head doesn't work, and leads to the inactive qTD at the end of its queue
--     IsRestBelow ..           between two requests: its queue head is so, and nothing is asked of the hub
--     IsLeftBelow ..           after errors: its queue head is so, and hub and device are where they were left, so that it may still act
--     RingKeepsRest, BesideKeepsRest, RingKeepsLeft, BesideKeepsLeft
--                              each such event leaves them so
use Rattle.std.specs.Prelude.{◌≡◌, ◌<◌, ◌≤◌, ◌⊎◌, ℕ, suc, Bool, false, List, [], ◌++◌, Some}
use Rattle.usb_base.specs.declared.endpoints.EndCause.TheVariants as Causes
use Rattle.usb_base.specs.declared.packets.Reply.{Reply}
use Rattle.link_words.specs.declared.kinds.QtdLink.TheVariants.{To}
use Rattle.link_words.specs.Links.{qtd_link_of}
use Rattle.dev_control.specs.Stages.{Stages}
use Rattle.bus_wire.specs.Bus.{Wired}
use Rattle.qh_qtd.specs.declared.queue_head.Qh.{Qh}
use Rattle.hc_copy.specs.Planning.{host_in}
use Rattle.hc_copy.specs.Visits.{next_pointer}
use Rattle.claims_report.specs.Requests.{Request}
use Rattle.law_structures.specs.lent_structures.Structures.{QueueHead, StructureSets}
use Rattle.law_ring.specs.Hand.{Hand}
use Rattle.law_ring.specs.Ring.{IsInHand}
use Rattle.law_ring.specs.Streams.{AreMembers}
use Rattle.law_controller.specs.controlled_streams.Control.{ControlEffect}
use Rattle.law_request.specs.Host.{Endpoint, Halted}
use Rattle.law_request.specs.Line.{Line as Window}
use Rattle.law_request.specs.Windows.{IsRequest}
use Rattle.law_devices.specs.request_calls.Bus.{device_of}
use Rattle.law_devices.specs.ring_requests.Laid.{IsIdle}
use Rattle.law_devices.specs.ring_requests.Resting.{IsAlone}
use Rattle.law_devices.specs.ring_requests.Shown.{hand_side}
use Rattle.law_devices.specs.ring_requests.Windows.{Queue, Lines}
use Rattle.law_devices.specs.scripted_requests.Controls.{transacts_by, begins_by}
use Rattle.law_below_hubs.specs.SeatedControls.{control_at}
use Rattle.law_below_hubs.specs.HostRequests.{RequestBelow, RequestBegins, HubRests, DeviceWorks}
use Rattle.law_below_hubs.specs.RequestEvents.{SparesEndpointNow}
use Rattle.law_below_hubs.specs.RequestWindows.{IsControlBelow}
use Rattle.law_below_hubs.specs.RequestQueues.{AreOneByOne, IsQueueBelow}
use Rattle.law_below_hubs.specs.Splits.{IsAtHub}

-- ---- the device

-- it makes one transaction of the bus below, or none
pub record DeviceMoves (e : Endpoint) (wire after : Wired) (acted : List (List ℕ)) : Type 0 where
  pub before : Stages
  pub leaves : Stages
  pub was : control_at wire e.addr e.num ≡ Some (device_of e before)
  pub is : control_at after e.addr e.num ≡ Some (device_of e leaves)
  pub works : DeviceWorks e before leaves acted

-- each hub keeps its address and its translators
abbrev pub HubsStay : ℕ → ℕ → Wired → Wired → Type 0
HubsStay i place wire after = (hub port : ℕ) → IsAtHub wire.bus.hubs hub port i place → IsAtHub after.bus.hubs hub port i place

-- ---- requests

-- in the window of the same request, or the next one is begun, where the device didn't act
abbrev pub WindowsMove : ℕ → List (List ℕ) → List (List ℕ) → ℕ → List (List ℕ) → Type 0
WindowsMove under acts acted now acts_now =
    ((now ≡ under) × (acts_now ≡ acted ++ acts)) ⊎ ((now ≡ suc under) × ((acts_now ≡ []) × (acted ≡ [])))

pub record QueueMoves (v : Queue) (i place : ℕ) (wire after : Wired) (l : Lines) (acts : List (List ℕ)) (hand : Hand)
    (parts : StructureSets) (n : ℕ) : Type 0 where
  pub acted : List (List ℕ)
  pub device : DeviceMoves v.endpoint wire after acted
  pub lines : Lines
  pub acts_now : List (List ℕ)
  pub queue : IsQueueBelow v i place after lines acts_now hand parts n
  pub under : WindowsMove l.under acts acted lines.under acts_now
  -- the windows before it stay
  pub earlier : (j : ℕ) → j < lines.under → lines.line j ≡ l.line j

abbrev pub RingKeepsQueue : Type 0
RingKeepsQueue = (member : ℕ → Bool) (v : Queue) (i place n : ℕ) (parts : StructureSets) (hand : Hand) (reply : Reply) (wire after : Wired)
    (now : StructureSets) (later : Hand) (l : Lines) (acts : List (List ℕ)) → AreOneByOne v → v.endpoint.max ≤ 1024
    → AreMembers member parts → IsInHand member parts reply hand → IsAlone member v.endpoint parts n
    → SparesEndpointNow v.endpoint i place wire after → HubsStay i place wire after
    → ControlEffect begins_by transacts_by parts hand wire after now later → IsQueueBelow v i place wire l acts hand parts n
    → QueueMoves v i place wire after l acts later now n

abbrev pub BesideKeepsQueue : Type 0
BesideKeepsQueue = (v : Queue) (i place n : ℕ) (parts : StructureSets) (hand : Hand) (wire after : Wired) (now : StructureSets)
    (later : Hand) (l : Lines) (acts : List (List ℕ)) → now n ≡ parts n → later ≡ hand → HubsStay i place wire after
    → RequestBegins v.endpoint (v.requests l.under) i place wire after (l.line l.under) acts
    → IsQueueBelow v i place wire l acts hand parts n → QueueMoves v i place wire after l acts later now n

-- ---- none is under way

pub record IsIdleHead (e : Endpoint) (i place : ℕ) (wire : Wired) (b : ℕ) (hand : Hand) (parts : StructureSets) (n : ℕ) : Type 0 where
  pub queue : Qh
  pub head : parts n n ≡ Some (QueueHead queue)
  pub control : IsControlBelow e queue
  pub hub : IsAtHub wire.bus.hubs queue.hub queue.port i place
  pub idle : queue.token.active ≡ false
  pub unsettled : hand_side hand n queue ≡ host_in queue
  pub leads : queue.token.halted ≡ false → qtd_link_of (next_pointer queue) ≡ To b
  pub tail : IsIdle (parts n) b

pub record IsRestBelow (e : Endpoint) (i place : ℕ) (wire : Wired) (c : Stages) (b : ℕ) (hand : Hand) (parts : StructureSets) (n : ℕ)
    : Type 0 where
  pub head : IsIdleHead e i place wire b hand parts n
  pub rests : HubRests e i place wire c

-- the device acted so in the window of the request that errors ended
pub record IsLeftBelow (e : Endpoint) (r : Request) (i place : ℕ) (wire : Wired) (l : Window) (acts : List (List ℕ)) (b : ℕ) (hand : Hand)
    (parts : StructureSets) (n : ℕ) : Type 0 where
  pub head : IsIdleHead e i place wire b hand parts n
  pub ended : l.host.stage ≡ Halted Causes.Error
  pub request : RequestBelow e r i place wire l acts

abbrev pub RingKeepsRest : Type 0
RingKeepsRest = (member : ℕ → Bool) (e : Endpoint) (i place b n : ℕ) (parts : StructureSets) (hand : Hand) (reply : Reply)
    (wire after : Wired) (now : StructureSets) (later : Hand) (c : Stages) → AreMembers member parts → IsInHand member parts reply hand
    → IsAlone member e parts n → SparesEndpointNow e i place wire after → HubsStay i place wire after
    → ControlEffect begins_by transacts_by parts hand wire after now later → IsRestBelow e i place wire c b hand parts n
    → IsRestBelow e i place after c b later now n × (now n ≡ parts n)

abbrev pub BesideKeepsRest : Type 0
BesideKeepsRest = (e : Endpoint) (i place b n : ℕ) (parts : StructureSets) (hand : Hand) (wire after : Wired) (now : StructureSets)
    (later : Hand) (c : Stages) → now n ≡ parts n → later ≡ hand → HubsStay i place wire after → HubRests e i place after c
    → IsRestBelow e i place wire c b hand parts n → IsRestBelow e i place after c b later now n

pub record LeftMoves (e : Endpoint) (r : Request) (i place : ℕ) (wire after : Wired) (l : Window) (acts : List (List ℕ)) (b : ℕ)
    (hand : Hand) (parts : StructureSets) (n : ℕ) : Type 0 where
  pub acted : List (List ℕ)
  pub device : DeviceMoves e wire after acted
  pub left : IsLeftBelow e r i place after l (acted ++ acts) b hand parts n

abbrev pub RingKeepsLeft : Type 0
RingKeepsLeft = (member : ℕ → Bool) (e : Endpoint) (r : Request) (i place b n : ℕ) (parts : StructureSets) (hand : Hand) (reply : Reply)
    (wire after : Wired) (now : StructureSets) (later : Hand) (l : Window) (acts : List (List ℕ)) → IsRequest r → e.max ≤ 1024
    → AreMembers member parts → IsInHand member parts reply hand → IsAlone member e parts n → SparesEndpointNow e i place wire after
    → HubsStay i place wire after → ControlEffect begins_by transacts_by parts hand wire after now later
    → IsLeftBelow e r i place wire l acts b hand parts n → LeftMoves e r i place wire after l acts b later now n × (now n ≡ parts n)

abbrev pub BesideKeepsLeft : Type 0
BesideKeepsLeft = (e : Endpoint) (r : Request) (i place b n : ℕ) (parts : StructureSets) (hand : Hand) (wire after : Wired)
    (now : StructureSets) (later : Hand) (l : Window) (acts : List (List ℕ)) → now n ≡ parts n → later ≡ hand → HubsStay i place wire after
    → RequestBegins e r i place wire after l acts → IsLeftBelow e r i place wire l acts b hand parts n
    → LeftMoves e r i place wire after l acts b later now n
