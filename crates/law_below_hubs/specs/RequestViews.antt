-- The requests of a control endpoint below a hub as those of a queue head of whatever speed: memory and the copy in hand show their hosts
-- alike, and the device is where the host has heard of it (EHCI 1.0, 3.5, 3.6 and 4.10; USB 2.0, 8.5.3 and 11.17).
--     IsHeadBelow ..            its queue head is of full or low speed, and names the hub
--     heard e l                 the device as the host has heard of it
--     BelowIsAsked              so they are asked
--     AskedIsBelow              .. and with their hub they are as before
--     RestIsAtRest, AtRestIsBelow, AtRestIsLeft
--                               the same between two requests, and after errors
use Rattle.std.specs.Prelude.{◌≡◌, ℕ, ◌==◌, false, List, Option, Some}
use Rattle.usb_base.specs.declared.endpoints.EndCause.TheVariants as Causes
use Rattle.dev_control.specs.Stages.{Stages}
use Rattle.bus_wire.specs.Bus.{Wired}
use Rattle.qh_qtd.specs.declared.queue_head.Qh.{Qh}
use Rattle.claims_report.specs.ControlSides.{Device}
use Rattle.claims_report.specs.Requests.{Request}
use Rattle.law_structures.specs.lent_structures.Structures.{QueueHead, StructureSets}
use Rattle.law_ring.specs.Hand.{Hand}
use Rattle.law_request.specs.Host.{Endpoint, Halted}
use Rattle.law_request.specs.Line.{Line as Window}
use Rattle.law_devices.specs.request_calls.Bus.{device_of}
use Rattle.law_devices.specs.ring_requests.Resting.{IsAtRest}
use Rattle.law_devices.specs.ring_requests.Windows.{Queue, Lines, IsQueue}
use Rattle.law_below_hubs.specs.HostRequests.{RequestBelow, HubRests}
use Rattle.law_below_hubs.specs.RequestMoves.{IsRestBelow, IsLeftBelow}
use Rattle.law_below_hubs.specs.RequestQueues.{IsQueueBelow}
use Rattle.law_below_hubs.specs.Splits.{IsAtHub}

pub record IsHeadBelow (i place : ℕ) (wire : Wired) (parts : StructureSets) (n : ℕ) : Type 0 where
  pub queue : Qh
  pub head : parts n n ≡ Some (QueueHead queue)
  pub below : (queue.eps == 2) ≡ false
  pub hub : IsAtHub wire.bus.hubs queue.hub queue.port i place

abbrev pub heard : Endpoint → Stages → Option Device
heard e c = Some (device_of e c)

-- ---- while they are asked

abbrev pub BelowIsAsked : Type 0
BelowIsAsked = (v : Queue) (i place n : ℕ) (wire : Wired) (l : Lines) (acts : List (List ℕ)) (hand : Hand) (parts : StructureSets)
    → IsQueueBelow v i place wire l acts hand parts n
    → IsQueue v l hand parts n (heard v.endpoint (l.line l.under).device) × IsHeadBelow i place wire parts n

abbrev pub AskedIsBelow : Type 0
AskedIsBelow = (v : Queue) (i place n : ℕ) (wire : Wired) (l : Lines) (acts : List (List ℕ)) (hand : Hand) (parts : StructureSets)
    (o : Option Device) → IsHeadBelow i place wire parts n
    → RequestBelow v.endpoint (v.requests l.under) i place wire (l.line l.under) acts → IsQueue v l hand parts n o
    → IsQueueBelow v i place wire l acts hand parts n

-- ---- at rest

abbrev pub RestIsAtRest : Type 0
RestIsAtRest = (e : Endpoint) (i place b n : ℕ) (wire : Wired) (c : Stages) (hand : Hand) (parts : StructureSets)
    → IsRestBelow e i place wire c b hand parts n → IsAtRest e c b hand parts n (heard e c) × IsHeadBelow i place wire parts n

-- the device may be elsewhere than the host has heard
abbrev pub AtRestIsBelow : Type 0
AtRestIsBelow = (e : Endpoint) (i place b n : ℕ) (wire : Wired) (c left : Stages) (hand : Hand) (parts : StructureSets) (o : Option Device)
    → IsHeadBelow i place wire parts n → HubRests e i place wire left → IsAtRest e c b hand parts n o
    → IsRestBelow e i place wire left b hand parts n

abbrev pub AtRestIsLeft : Type 0
AtRestIsLeft = (e : Endpoint) (r : Request) (i place b n : ℕ) (wire : Wired) (c : Stages) (l : Window) (acts : List (List ℕ)) (hand : Hand)
    (parts : StructureSets) (o : Option Device) → IsHeadBelow i place wire parts n → l.host.stage ≡ Halted Causes.Error
    → RequestBelow e r i place wire l acts → IsAtRest e c b hand parts n o → IsLeftBelow e r i place wire l acts b hand parts n
