-- The window of a request below a hub, as memory and the copy in hand show its host, at each event of the walk of the ring (EHCI 1.0, 3.5,
-- 3.6, 4.8, 4.10 and 4.12; USB 2.0, 8.5.3 and 11.17).
--     IsControlBelow e q      the queue head is that of a full- or low-speed control endpoint, whose qTDs bring their toggles (3.6.2, DTC)
--     IsWindowBelow ..        its qTDs show the request's host, and host, hub and device stand as they must
--     NextWindow ..           so they do with another line, in which the device acted no more
--     WalkKeepsWindow         each event of the walk leaves them so, but for the advance of the queue head of a request that is done
use Rattle.std.specs.Prelude.{◌≡◌, ◌≤◌, ℕ, ◌==◌, Bool, true, false, List, Some}
use Rattle.usb_base.specs.declared.packets.Reply.{Reply}
use Rattle.qh_qtd.specs.declared.queue_head.Qh.{Qh}
use Rattle.async_walk.specs.declared.state.WalkStep.{WalkStep}
use Rattle.bus_wire.specs.Bus.{Wired}
use Rattle.law_structures.specs.lent_structures.Structures.{QueueHead, StructureSets}
use Rattle.law_ring.specs.Hand.{Hand}
use Rattle.law_ring.specs.Ring.{IsInHand}
use Rattle.law_ring.specs.Effects.{Takes, Effect}
use Rattle.law_ring.specs.Streams.{AreMembers}
use Rattle.law_ring.specs.Told.{Told}
use Rattle.law_request.specs.Host.{Endpoint, has_data}
use Rattle.law_request.specs.Line.{Line as Window}
use Rattle.law_request.specs.Windows.{IsRequest}
use Rattle.law_devices.specs.ring_requests.Laid.{AreApart}
use Rattle.law_devices.specs.ring_requests.Resting.{IsAlone}
use Rattle.law_devices.specs.ring_requests.Shown.{hand_side, Shows, IsAmong}
use Rattle.law_devices.specs.ring_requests.Windows.{Sent, is_done}
use Rattle.law_devices.specs.scripted_requests.Controls.{transacts_by}
use Rattle.law_below_hubs.specs.HostRequests.{RequestBelow}
use Rattle.law_below_hubs.specs.RequestEvents.{SparesEndpointNow}
use Rattle.law_below_hubs.specs.Splits.{IsAtHub}

pub record IsControlBelow (e : Endpoint) (q : Qh) : Type 0 where
  pub toggles : q.dtc ≡ true
  pub below : (q.eps == 2) ≡ false
  pub address : q.addr ≡ e.addr
  pub number : q.ep ≡ e.num
  pub packets : q.max ≡ e.max

pub record IsWindowBelow (v : Sent) (i place : ℕ) (wire : Wired) (l : Window) (acts : List (List ℕ)) (hand : Hand) (parts : StructureSets)
    (n : ℕ) : Type 0 where
  pub queue : Qh
  pub head : parts n n ≡ Some (QueueHead queue)
  pub control : IsControlBelow v.endpoint queue
  pub hub : IsAtHub wire.bus.hubs queue.hub queue.port i place
  pub shown : Shows v.endpoint v.request v.places (parts n) (hand_side hand n queue) queue l.host
  pub among : IsAmong v.places queue
  pub moved : has_data v.request ≡ true → Told hand parts n v.places.data_at l.host.moved
  pub request : RequestBelow v.endpoint v.request i place wire l acts

pub record NextWindow (v : Sent) (i place : ℕ) (wire : Wired) (acts : List (List ℕ)) (hand : Hand) (parts : StructureSets) (n : ℕ) : Type 0
  where
    pub line : Window
    pub window : IsWindowBelow v i place wire line acts hand parts n

-- where the hub keeps its address and its translators
abbrev pub WalkKeepsWindow : Type 0
WalkKeepsWindow = (member : ℕ → Bool) (v : Sent) (i place n : ℕ) (parts : StructureSets) (hand : Hand) (reply : Reply) (wire after : Wired)
    (now : StructureSets) (later : Hand) (kind : WalkStep) (l : Window) (acts : List (List ℕ)) → IsRequest v.request → 8 ≤ v.endpoint.max
    → AreApart v.places → AreMembers member parts → IsInHand member parts reply hand → IsAlone member v.endpoint parts n
    → SparesEndpointNow v.endpoint i place wire after
    → ((hub port : ℕ) → IsAtHub wire.bus.hubs hub port i place → IsAtHub after.bus.hubs hub port i place)
    → Effect transacts_by parts hand wire after now later kind
    → ((k : Takes parts hand now later) → k.copy.at ≡ n → is_done l.host.stage ≡ false)
    → IsWindowBelow v i place wire l acts hand parts n → NextWindow v i place after acts later now n
