-- The host of a control endpoint below a hub, the device, and what the hub has of both directions' keys (EHCI 1.0, 4.10 and 4.12; USB 2.0,
-- 8.5.3, 8.6 and 11.17): each transaction of the host, and the work of the hubs where a microframe begins, leaves them as they must stand
-- in the window of a request.
--     unpinged h              the host without the ping state, which endpoints at high speed alone have (4.11)
--     IsLineOf h m            the line's host is where this one is, or this one has ended by errors
--     RequestSide ..          host, hub and device stand as they must; the device acted so in the window
--     RequestBelow ..         .. and so do this host and a device that is where the host has heard of it, with no hub between them
--     IsWorkingBelow e r q h  a queue head works on the stage of the host, below a hub
--     OwnRequestGoesOn        the host's transactions: what they came to is what the queue head's settlement says
--     OthersLeaveRequest      those of all other hosts, but for requests to a hub that clear a buffer of this endpoint
--     BeginLeavesRequest      the work of the hubs: the device makes one transaction, or none
--     HubRests ..             nothing is asked of the endpoint, and what the hub has of it was told
--     RequestOpens            then the window of a request opens
--     RequestRests            so it is again where the request is done, or was halted but not by errors
--     OthersLeaveRest, BeginLeavesRest      and stays so while none asks
use Rattle.std.specs.Prelude.{◌≡◌, ◌≤◌, ◌⊎◌, ℕ, ◌==◌, Bool, true, false, List, [], ◌∷◌, ◌++◌, Some}
use Rattle.usb_base.specs.declared.endpoints.EndCause.TheVariants as Causes
use Rattle.usb_base.specs.declared.packets.Ask.{Ask}
use Rattle.usb_base.specs.declared.packets.Dir.{Dir}
use Rattle.usb_base.specs.declared.packets.Reply.{Reply}
use Rattle.dev_control.specs.Stages.{Stages}
use Rattle.hub_keys.specs.Keys.{direction_of}
use Rattle.bus_wire.specs.declared.who_heard.WhoHeard.{WhoHeard}
use Rattle.bus_wire.specs.Bus.{Wired, begin_after}
use Rattle.qh_qtd.specs.declared.queue_head.Qh.{Qh}
use Rattle.hc_copy.specs.Planning.{pid_at, host_in}
use Rattle.hc_copy.specs.Transacting.{call_in, outcome_in, host_after}
use Rattle.async_walk.specs.Naks.{planned}
use Rattle.claims_report.specs.Requests.{Request}
use Rattle.law_request.specs.Host.{Endpoint, Host, Halted, is_over, token_at, settled_by}
use Rattle.law_request.specs.Line.{Line as Window, line_at, device_after, acts_by}
use Rattle.law_request.specs.Standing.{Stands}
use Rattle.law_request.specs.Windows.{IsRequest}
use Rattle.law_devices.specs.request_calls.Bus.{device_of}
use Rattle.law_devices.specs.request_calls.Stages.{AreGiven, moved_of}
use Rattle.law_devices.specs.scripted_requests.Controls.{transacts_by}
use Rattle.law_translated.specs.Lift.{Buffered, Wait, IsQuiet}
use Rattle.law_translated.specs.KeySlots.{KeySlot}
use Rattle.law_translated.specs.Windows.{Line}
use Rattle.law_below_hubs.specs.SeatedControls.{control_at}
use Rattle.law_below_hubs.specs.HubsKeys.{HubsHave, AreRightHubs}
use Rattle.law_below_hubs.specs.ControlAsks.{IsRequestAsk}
use Rattle.law_below_hubs.specs.ControlWork.{control_key}
use Rattle.law_below_hubs.specs.ControlTurns.{turned}
use Rattle.law_below_hubs.specs.ControlStands.{RequestHolds}
use Rattle.law_below_hubs.specs.HostIns.{SparesKey}
use Rattle.law_below_hubs.specs.HostIns.{IsWait}
use Rattle.law_below_hubs.specs.Splits.{IsAtHub}

-- ---- how they stand

abbrev pub unpinged : Host → Host
unpinged h = record h { side = record h.side { ping = false } }

-- once errors ended it, the line's host stays where it was, and asks nothing more
pub data IsLineOf (h : Host) (m : Line) : Type 0 where
  goes_on : m.window.host ≡ unpinged h → IsLineOf h m
  ended : h.stage ≡ Halted Causes.Error → IsLineOf h m

pub record RequestSide (e : Endpoint) (r : Request) (i place : ℕ) (w : Wired) (h : Host) (acts : List (List ℕ)) : Type 0 where
  pub line : Line
  pub wait : Wait
  pub dir : Dir
  pub slot : KeySlot
  pub aside : KeySlot
  pub is_line : IsLineOf h line
  pub is_wait : IsWait h.side.waiting wait
  -- the direction in which it asks
  pub faces : is_over h.stage ≡ false → dir ≡ direction_of (token_at r h.stage)
  -- a request that is over, but not by errors, waits for nothing
  pub idle : is_over h.stage ≡ true → (h.stage ≡ Halted Causes.Error → ⊥) → h.side.waiting ≡ false
  pub acted : line.window.acts ≡ acts
  pub has : HubsHave Buffered (control_key e dir) i place w.bus.hubs slot
  pub other : HubsHave Buffered (control_key e (turned dir)) i place w.bus.hubs aside
  pub right : AreRightHubs (IsRequestAsk r e.addr e.num) w.bus.hubs
  pub device : control_at w e.addr e.num ≡ Some (device_of e line.window.device)
  pub holds : RequestHolds e r line wait slot aside

-- The window is one of `law_request`, whose device is where the host has heard of it. What that one acted on the device below did.
pub record RequestBelow (e : Endpoint) (r : Request) (i place : ℕ) (w : Wired) (l : Window) (acts : List (List ℕ)) : Type 0 where
  pub side : RequestSide e r i place w l.host acts
  pub stands : Stands e r l
  pub within : (l.acts ≡ []) ⊎ (acts ≡ r.setup ∷ [])

-- ---- the host's transactions

pub record IsWorkingBelow (e : Endpoint) (r : Request) (q : Qh) (h : Host) : Type 0 where
  pub below : (q.eps == 2) ≡ false
  pub toggles : q.dtc ≡ true
  pub address : q.addr ≡ e.addr
  pub number : q.ep ≡ e.num
  pub goes_on : is_over h.stage ≡ false
  pub pid : pid_at q.token.pid ≡ token_at r h.stage
  pub side : host_in q ≡ h.side

-- the host is left as the settlement says
pub record RequestGoesOnBy (e : Endpoint) (r : Request) (q : Qh) (source out : List ℕ) (reply : Reply) (i place : ℕ) (v : Wired)
    (l : Window) (acts : List (List ℕ)) : Type 0 where
  pub line : Window
  pub host : line.host
      ≡ settled_by r (outcome_in (planned q) out false reply) (host_after (planned q) out false reply)
      (moved_of q (outcome_in (planned q) out false reply) reply source) l.host
  pub stands : RequestBelow e r i place v line acts

-- the device acts in none of them: it is asked where a microframe begins
abbrev pub OwnRequestGoesOn : Type 0
OwnRequestGoesOn = (e : Endpoint) (r : Request) (q : Qh) (source out : List ℕ) (reply : Reply) (i place : ℕ) (w v : Wired) (l : Window)
    (acts : List (List ℕ)) → IsRequest r → 8 ≤ e.max → IsWorkingBelow e r q l.host → AreGiven r q l.host source out
    → IsAtHub w.bus.hubs q.hub q.port i place
    → transacts_by w (call_in (planned q) out false).ask (call_in (planned q) out false).out reply v
    → RequestBelow e r i place w l acts → RequestGoesOnBy e r q source out reply i place v l acts

-- ---- all other transactions

abbrev pub IsOfOtherEndpoint : Endpoint → Ask → Type 0
IsOfOtherEndpoint e ask = ask.addr ≡ e.addr → ask.ep ≡ e.num → ⊥

abbrev pub SparesEndpoint : Endpoint → ℕ → ℕ → Wired → Ask → Wired → Type 0
SparesEndpoint e i place w ask v = (dir : Dir) → SparesKey (control_key e dir) i place w ask v

abbrev pub OthersLeaveRequest : Type 0
OthersLeaveRequest = (e : Endpoint) (r : Request) (i place : ℕ) (w : Wired) (ask : Ask) (out : List ℕ) (reply : Reply) (v : Wired)
    (l : Window) (acts : List (List ℕ)) → IsRequest r → IsOfOtherEndpoint e ask → SparesEndpoint e i place w ask v
    → transacts_by w ask out reply v → RequestBelow e r i place w l acts → RequestBelow e r i place v l acts

-- ---- where a microframe begins

-- what one transaction on the bus below leaves of the device, and what it acts on in it
pub data DeviceWorks (e : Endpoint) (c : Stages) : Stages → List (List ℕ) → Type 0 where
  rests : DeviceWorks e c c []
  makes : (row : WhoHeard) (ask : Ask) (out : List ℕ) → DeviceWorks e c (device_after e row ask out c) (acts_by e row ask out c)

pub record RequestBegins (e : Endpoint) (r : Request) (i place : ℕ) (w v : Wired) (l : Window) (acts : List (List ℕ)) : Type 0 where
  pub before : Stages
  pub after : Stages
  pub acted : List (List ℕ)
  pub was : control_at w e.addr e.num ≡ Some (device_of e before)
  pub is : control_at v e.addr e.num ≡ Some (device_of e after)
  pub works : DeviceWorks e before after acted
  pub stands : RequestBelow e r i place v l (acted ++ acts)

-- what it acts on is of the window
abbrev pub BeginLeavesRequest : Type 0
BeginLeavesRequest = (e : Endpoint) (r : Request) (i place frindex : ℕ) (w : Wired) (l : Window) (acts : List (List ℕ)) → IsRequest r
    → e.max ≤ 1024 → RequestBelow e r i place w l acts
    → RequestBegins e r i place w (record w { bus = begin_after w.fixed frindex w.bus }) l acts

-- ---- between two requests

pub record HubRests (e : Endpoint) (i place : ℕ) (w : Wired) (c : Stages) : Type 0 where
  pub slots : Dir → KeySlot
  pub has : (dir : Dir) → HubsHave Buffered (control_key e dir) i place w.bus.hubs (slots dir)
  pub quiet : (dir : Dir) → IsQuiet (slots dir)
  pub right : (r : Request) → AreRightHubs (IsRequestAsk r e.addr e.num) w.bus.hubs
  pub max : c.max ≡ e.max
  pub device : control_at w e.addr e.num ≡ Some (device_of e c)

abbrev pub RequestOpens : Type 0
RequestOpens = (e : Endpoint) (r : Request) (i place : ℕ) (w : Wired) (ping : Bool) (c : Stages) → HubRests e i place w c
    → RequestBelow e r i place w (line_at e r ping c) []

-- the device may be where it was
pub record RestsAgain (e : Endpoint) (i place : ℕ) (w : Wired) : Type 0 where
  pub stages : Stages
  pub rests : HubRests e i place w stages

abbrev pub RequestRests : Type 0
RequestRests = (e : Endpoint) (r : Request) (i place : ℕ) (w : Wired) (l : Window) (acts : List (List ℕ)) → is_over l.host.stage ≡ true
    → (l.host.stage ≡ Halted Causes.Error → ⊥) → RequestBelow e r i place w l acts → RestsAgain e i place w

abbrev pub OthersLeaveRest : Type 0
OthersLeaveRest = (e : Endpoint) (i place : ℕ) (w : Wired) (ask : Ask) (out : List ℕ) (reply : Reply) (v : Wired) (c : Stages)
    → IsOfOtherEndpoint e ask → SparesEndpoint e i place w ask v → transacts_by w ask out reply v → HubRests e i place w c
    → HubRests e i place v c

abbrev pub BeginLeavesRest : Type 0
BeginLeavesRest = (e : Endpoint) (i place frindex : ℕ) (w : Wired) (c : Stages) → HubRests e i place w c
    → HubRests e i place (record w { bus = begin_after w.fixed frindex w.bus }) c
