-- A control endpoint below a hub at an event of the controller, whichever walk it is of, that makes no transaction of its own queue head
-- (EHCI 1.0, 4.4 and 4.8 to 4.12; USB 2.0, 8.5.3 and 11.17).
--     InHandIsOther e parts hand     the queue head in hand, if it works, is one of another endpoint
--     SparesEndpointNow ..           no request is made that takes a key of the endpoint from a hub
--     EventLeavesRequest             in the window of a request; where a microframe begins, the device makes one transaction or none
--     EventLeavesRest                between two requests
use Rattle.std.specs.Prelude.{◌≡◌, ◌≤◌, ℕ, true, List, Some}
use Rattle.usb_base.specs.declared.packets.Ask.{Ask}
use Rattle.usb_base.specs.declared.packets.Reply.{Reply}
use Rattle.dev_control.specs.Stages.{Stages}
use Rattle.bus_wire.specs.Bus.{Wired}
use Rattle.claims_report.specs.Requests.{Request}
use Rattle.law_structures.specs.lent_structures.Structures.{QueueHead, StructureSets}
use Rattle.law_ring.specs.Hand.{Copy, Hand, Copied}
use Rattle.law_frames.specs.FrameStreams.{IsIsoAsk}
use Rattle.law_controller.specs.frame_control.Joined.{BothStreamEffect}
use Rattle.law_descriptors.specs.Both.{both}
use Rattle.law_request.specs.Host.{Endpoint}
use Rattle.law_request.specs.Line.{Line as Window}
use Rattle.law_request.specs.Windows.{IsRequest}
use Rattle.law_devices.specs.scripted_requests.Controls.{transacts_by, begins_by}
use Rattle.law_below_hubs.specs.HostRequests.{IsOfOtherEndpoint, SparesEndpoint, RequestBelow, RequestBegins, HubRests}

abbrev pub InHandIsOther : Endpoint → StructureSets → Hand → Type 0
InHandIsOther e parts hand = (copy : Copy) → hand ≡ Copied copy → parts copy.at copy.at ≡ Some (QueueHead copy.queue)
    → copy.queue.token.active ≡ true → copy.queue.addr ≡ e.addr → copy.queue.ep ≡ e.num → ⊥

abbrev pub SparesEndpointNow : Endpoint → ℕ → ℕ → Wired → Wired → Type 0
SparesEndpointNow e i place wire after = (ask : Ask) (out : List ℕ) (reply : Reply) → transacts_by wire ask out reply after
    → SparesEndpoint e i place wire ask after

abbrev pub EventLeavesRequest : Type 0
EventLeavesRequest = (e : Endpoint) (r : Request) (i place : ℕ) (descs parts : StructureSets) (hand : Hand) (wire after : Wired)
    (now : StructureSets) (later : Hand) (l : Window) (acts : List (List ℕ)) → IsRequest r → e.max ≤ 1024 → InHandIsOther e parts hand
    → ((ask : Ask) → IsIsoAsk (both descs parts) ask → IsOfOtherEndpoint e ask) → SparesEndpointNow e i place wire after
    → BothStreamEffect begins_by (IsIsoAsk (both descs parts)) transacts_by parts hand wire after now later
    → RequestBelow e r i place wire l acts → RequestBegins e r i place wire after l acts

abbrev pub EventLeavesRest : Type 0
EventLeavesRest = (e : Endpoint) (i place : ℕ) (descs parts : StructureSets) (hand : Hand) (wire after : Wired) (now : StructureSets)
    (later : Hand) (c : Stages) → InHandIsOther e parts hand → ((ask : Ask) → IsIsoAsk (both descs parts) ask → IsOfOtherEndpoint e ask)
    → SparesEndpointNow e i place wire after
    → BothStreamEffect begins_by (IsIsoAsk (both descs parts)) transacts_by parts hand wire after now later
    → HubRests e i place wire c → HubRests e i place after c
