-- What an event of the controller leaves of a control endpoint below a hub that it asks nothing of.
use Rattle.std.proofs.Common.{◌≡◌, ℕ, List, [], Some, sym, subst}
use Rattle.bus_wire.specs.Bus.{Wired}
use Rattle.claims_report.specs.ControlSides.{Device}
use Rattle.claims_report.specs.Requests.{Request}
use Rattle.hc_copy.specs.Planning.{transaction_of}
use Rattle.hc_copy.specs.Transacting.{call_in}
use Rattle.law_structures.specs.lent_structures.Structures.{StructureSets}
use Rattle.law_ring.specs.Hand.{Hand}
use Rattle.law_ring.specs.Effects.{Asks}
use Rattle.law_ring.specs.Streams.StreamEffect.{same, aside, grows}
use Rattle.law_controller.specs.frame_control.Joined.{begun, moved}
use Rattle.law_request.specs.Host.{Endpoint}
use Rattle.law_request.specs.Line.{Line as Window}
use Rattle.law_devices.specs.request_calls.Bus.{device_of}
use Rattle.law_devices.specs.scripted_requests.Controls.{transacts_by}
use Rattle.law_below_hubs.specs.SeatedControls.{control_at}
use Rattle.law_below_hubs.specs.HostRequests.{IsOfOtherEndpoint, RequestBelow, RequestBegins, HubRests}
use Rattle.law_below_hubs.specs.HostRequests.DeviceWorks.{rests as device_rests}
use Rattle.law_below_hubs.specs.RequestEvents.{InHandIsOther, EventLeavesRequest, EventLeavesRest}
use Rattle.law_below_hubs.proofs.RequestBeside.{device_beside, others_leave_request, begin_leaves_request}
use Rattle.law_below_hubs.proofs.RequestRests.{others_leave_rest, begin_leaves_rest}

asked_other : (e : Endpoint) (parts : StructureSets) (hand : Hand) (wire after : Wired) (later : Hand) → InHandIsOther e parts hand
    → (m : Asks transacts_by parts hand wire after later) → IsOfOtherEndpoint e
    (call_in (transaction_of m.kind m.copy.queue) m.out m.last).ask
asked_other e parts hand wire after later other m addr ep = other m.copy m.in_hand m.here m.works addr ep

-- where none begins the device is as it was
kept : (e : Endpoint) (r : Request) (i place : ℕ) (wire after : Wired) (l : Window) (acts : List (List ℕ))
    → (o : RequestBelow e r i place wire l acts) → RequestBelow e r i place after l acts
    → ((d : Device) → control_at wire e.addr e.num ≡ Some d → control_at after e.addr e.num ≡ Some d)
    → RequestBegins e r i place wire after l acts
kept e r i place wire after l acts o k device = record {
  before = o.side.line.window.device;
  after = o.side.line.window.device;
  acted = [];
  was = o.side.device;
  is = device (device_of e o.side.line.window.device) o.side.device;
  works = device_rests;
  stands = k;
}

pub event_leaves_request : EventLeavesRequest
event_leaves_request e r i place descs parts hand wire after now later l acts request room other beside spares
    (begun index allowed begins told) o =
    subst (λ (v : Wired). RequestBegins e r i place wire v l acts) (sym begins.1)
    (begin_leaves_request e r i place index wire l acts request room o)
event_leaves_request e r i place descs parts hand wire after now later l acts request room other beside spares (moved (same told quiet)) o =
    subst (λ (v : Wired). RequestBegins e r i place wire v l acts) (sym quiet) (kept e r i place wire wire l acts o o (λ d is. is))
event_leaves_request e r i place descs parts hand wire after now later l acts request room other beside spares
    (moved (aside told ask out reply is made)) o =
    kept e r i place wire after l acts o
    (others_leave_request e r i place wire ask out reply after l acts request (beside ask is) (spares ask out reply made) made o)
    (device_beside e i place wire ask out reply after (beside ask is) (spares ask out reply made) made)
event_leaves_request e r i place descs parts hand wire after now later l acts request room other beside spares (moved (grows m all g)) o =
    kept e r i place wire after l acts o
    (others_leave_request e r i place wire (call_in (transaction_of m.kind m.copy.queue) m.out m.last).ask
    (call_in (transaction_of m.kind m.copy.queue) m.out m.last).out m.reply after l acts request
    (asked_other e parts hand wire after later other m)
    (spares _ _ m.reply m.made) m.made o)
    (device_beside e i place wire (call_in (transaction_of m.kind m.copy.queue) m.out m.last).ask
    (call_in (transaction_of m.kind m.copy.queue) m.out m.last).out m.reply after (asked_other e parts hand wire after later other m)
    (spares _ _ m.reply m.made) m.made)

pub event_leaves_rest : EventLeavesRest
event_leaves_rest e i place descs parts hand wire after now later c other beside spares (begun index allowed begins told) o =
    subst (λ (v : Wired). HubRests e i place v c) (sym begins.1) (begin_leaves_rest e i place index wire c o)
event_leaves_rest e i place descs parts hand wire after now later c other beside spares (moved (same told quiet)) o =
    subst (λ (v : Wired). HubRests e i place v c) (sym quiet) o
event_leaves_rest e i place descs parts hand wire after now later c other beside spares (moved (aside told ask out reply is made)) o =
    others_leave_rest e i place wire ask out reply after c (beside ask is) (spares ask out reply made) made o
event_leaves_rest e i place descs parts hand wire after now later c other beside spares (moved (grows m all g)) o =
    others_leave_rest e i place wire (call_in (transaction_of m.kind m.copy.queue) m.out m.last).ask
    (call_in (transaction_of m.kind m.copy.queue) m.out m.last).out m.reply after c (asked_other e parts hand wire after later other m)
    (spares _ _ m.reply m.made) m.made o
