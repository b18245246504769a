-- Whatever endpoints a script opens, at each moment of its run each device acted at most once on each request of a control endpoint at high
-- speed, and only on its setup bytes; the report tells of its requests in their order: a request that is done was acted on exactly once,
-- and the bytes told of it are those of its data; those of one that halted begin its data; and `acted` is told as the number of requests
-- that were acted on. After the run these are all its requests. So it is of an endpoint that is cancelled: the line of its cancel tells
-- beginnings of the data of all requests that no line told of, joined. Of a hub's own control endpoint nothing is said: a hub answers by
-- its own state, and not by lines of the script; nor of one below a hub's translator (EHCI 1.0, 3.5 and 4.10; USB 2.0, 5.5, 8.5.3 and
-- 11.17).
--     opens command b            the unfinished command opens the endpoint with its queue head in block b
--     is_opening d x             endpoint x is being opened: its queue head isn't in the ring yet
--     setup_at d a               the number of the first request of the driver that isn't given back and whose first qTD stands at a
--     acted_between c z          on what a device acted between these stages
--     stages_at w addr num       where the device of the control endpoint of this address and number is, wherever its seat is: on the
--                                high-speed bus, or below a hub; or where the hub is, whose own it is
--     Windows                    by the number of an endpoint the request whose window is open, and by that of a transfer the acts in its
--                                window
--     recorded d begun acted v   these after an event that sent that SETUP, if any, and in which the device of each endpoint acted so
--     begun_by w                 the transfer whose SETUP the controller's next event sends
--     acted_by fixed w new e     on what the device of endpoint e acted between these worlds
--     after_event fixed w v      the windows after the controller's next event
--     windows_at s k             .. at a moment of the run of a script
--     asks_at s k                the requests of the transfers that were accepted until then, by their numbers
--     numbers_of d e             the numbers of the transfers of endpoint e
--     windows_of d asks v e      the windows of the requests of endpoint e, in their order
--     wired fixed w              the bus of a world, with what is fixed of it
--     AreOnce asks v d e         in each window of the endpoint's transfers the device acted at most once, and on nothing but the setup
--                                bytes
--     IsOpenControl d e x        endpoint e of the driver is x, a control endpoint that was opened
--     IsOfDevice s k e x         .. at moment k, at high speed, of a device that is no hub
--     windows_then s k e         the windows of its transfers at moment k, each with its request and the acts of the device
--     RequestsAreKept s k e x    in each of them the device acted at most once, and on nothing but the setup bytes of the request; the
--                                lines tell of them, in their order: a request that is done was acted on exactly once, and the bytes of its
--                                line are its data; where it halted, they begin its data; the line of a cancel tells beginnings of the
--                                data of those that no line told of, joined; and the closing line tells how many were acted on
--     KeepsRequests s            so it is of each of them at each moment; and at the end of the run its windows are those of all requests
--                                that the script has for it, and its requests are right
use Rattle.std.specs.List.{AllByRecursion}
use Rattle.std.specs.Prelude.{◌≡◌, ℕ, zero, suc, ◌*◌, Bool, ◌==◌, true, ◌&&◌, not, false, List, [], position, ◌++◌, ◌∷◌, length, filter, slice_get, map, Option, Some, if◌then◌else◌, None, option_map}
use Rattle.usb_base.specs.declared.commands.Cmd.{Cmd}
use Rattle.usb_base.specs.declared.commands.Cmd.TheVariants as commands
use Rattle.usb_base.specs.declared.packets.Speed.TheVariants.{High}
use Rattle.script_types.specs.declared.scripts.Event.{Event}
use Rattle.script_types.specs.declared.scripts.Event.TheVariants as events
use Rattle.script_types.specs.declared.scripts.Script.{Script}
use Rattle.dev_control.specs.Stages.{Stages}
use Rattle.drv_table.specs.declared.content.Command.{Command}
use Rattle.drv_table.specs.declared.content.Command.TheVariants as unfinished
use Rattle.drv_table.specs.declared.content.Endpoint.{Endpoint, Endpoint as DriverEndpoint}
use Rattle.drv_table.specs.declared.content.Sort.{Sort}
use Rattle.drv_table.specs.declared.content.Sort.TheVariants as sorts
use Rattle.drv_table.specs.declared.content.Transfer.{Transfer}
use Rattle.drv_table.specs.DriverContent.{DriverContent}
use Rattle.drv_table.specs.Words.{is_control}
use Rattle.hc_copy.specs.declared.held.Held.{Held}
use Rattle.hc_core.specs.declared.controller.HcStep.{HcStep}
use Rattle.hc_core.specs.declared.controller.HcStep.TheVariants as steps
use Rattle.bus_wire.specs.declared.seats.Owner.{Owner}
use Rattle.bus_wire.specs.declared.seats.Owner.TheVariants as Owners
use Rattle.bus_wire.specs.declared.seats.Seat.{Seat}
use Rattle.bus_wire.specs.declared.seats.TokenKind.TheVariants as Tokens
use Rattle.bus_wire.specs.Seats.{place_for}
use Rattle.bus_wire.specs.Bus.{Bus, Fixed, Wired, fixed_of}
use Rattle.claims_report.specs.Acts.{IsOnce, acts_if, done_of}
use Rattle.claims_report.specs.ControlSides.{Device}
use Rattle.claims_report.specs.Controls.{control_of_device, is_at, is_of_hub}
use Rattle.claims_report.specs.Reports.{WholeReport, lines_of, acted}
use Rattle.claims_report.specs.Requests.{data_of, Request, Window, has_acted, AreTold, AreRightRequests}
use Rattle.bus_world.specs.Budgets.{moment}
use Rattle.bus_world.specs.Orders.{Left, Events, Microframes, Answer, Command as OrderedCommand, OrderedWorld, Plugs}
use Rattle.bus_world.specs.World.{World, controller_next, kind_next}
use Rattle.claims_world.specs.Streams.{report_of}

abbrev pub opens : Option Command → ℕ → Bool
opens (Some (unfinished.Open queue)) b = queue == b
opens _ b = false

-- ---- all of them

-- the queue head of one that was given back may have stood in the same block
abbrev pub is_opening : DriverContent → DriverEndpoint → Bool
is_opening d x = opens d.command x.queue && not x.gone

-- ---- the transfers of a driver

abbrev pub is_request : Sort → Bool
is_request sorts.Request = true
is_request _ = false

-- its blocks have 32 bytes
abbrev pub is_setup_at : ℕ → Transfer → Bool
is_setup_at a y = is_request y.sort && (not y.released && 32 * y.first == a)

abbrev pub setup_at : DriverContent → ℕ → Option ℕ
setup_at d a = position (is_setup_at a) d.transfers

-- the number of the endpoint of transfer t
abbrev pub endpoint_of : DriverContent → ℕ → Option ℕ
endpoint_of d t = option_map (λ y. y.endpoint) (slice_get d.transfers t)

-- ---- a device

-- it acts on the request under way, once
abbrev pub acted_between : Stages → Stages → List (List ℕ)
acted_between c z = acts_if (done_of z.request) c.request

-- ---- where it is

abbrev pub stages_of : Option Device → Option Stages
stages_of o = option_map (λ c. c.stages) o

abbrev pub stages_of_owner : Bus → ℕ → ℕ → Owner → Option Stages
stages_of_owner b addr num (Owners.High place) = stages_of (control_of_device addr num (slice_get b.devices place))
stages_of_owner b addr num (Owners.Hub place) = option_map (λ h. h.control) (slice_get b.hubs place)
stages_of_owner b addr num (Owners.Below place hub port stuff) = stages_of (control_of_device addr num (slice_get b.devices place))

abbrev pub stages_of_seat : Bus → ℕ → ℕ → Option Seat → Option Stages
stages_of_seat b addr num None = None
stages_of_seat b addr num (Some seat) = stages_of_owner b addr num seat.owner

-- SETUP, IN and OUT are for the same seat
abbrev pub stages_of_place : Wired → ℕ → ℕ → Option ℕ → Option Stages
stages_of_place w addr num None = None
stages_of_place w addr num (Some place) =
    if is_at place (place_for w.fixed.seats addr num Tokens.In) && is_at place (place_for w.fixed.seats addr num Tokens.Out) then
    stages_of_seat w.bus addr num (slice_get w.fixed.seats place)
    else None

abbrev pub stages_at : Wired → ℕ → ℕ → Option Stages
stages_at w addr num = stages_of_place w addr num (place_for w.fixed.seats addr num Tokens.Setup)

-- ---- the windows

pub record Windows : Type 0 where
  pub opened : ℕ → Option ℕ  -- by the number of an endpoint: the transfer whose SETUP was sent last
  pub acts : ℕ → List (List ℕ)  -- by the number of a transfer: the setup bytes on which the device acted while its window was open, the newest first

abbrev pub no_windows : Windows
no_windows = record { opened = λ e. None; acts = λ t. [] }

-- the SETUP of a transfer opens its window, and closes the one before of its endpoint
abbrev pub opened_by : DriverContent → Option ℕ → (ℕ → Option ℕ) → ℕ → Option ℕ
opened_by d None before e = before e
opened_by d (Some t) before e = if is_at e (endpoint_of d t) then Some t else before e

-- a transfer of no endpoint has no acts, and one of the endpoint e those of its device while its window is open
abbrev pub acts_in : (ℕ → Option ℕ) → (ℕ → List (List ℕ)) → ℕ → List (List ℕ) → Option ℕ → List (List ℕ)
acts_in latest acted t acts None = acts
acts_in latest acted t acts (Some e) = if is_at t (latest e) then acted e ++ acts else acts

abbrev pub recorded : DriverContent → Option ℕ → (ℕ → List (List ℕ)) → Windows → Windows
recorded d begun acted v = record {
  opened = opened_by d begun v.opened;
  acts = λ t. acts_in (opened_by d begun v.opened) acted t (v.acts t) (endpoint_of d t);
}

-- ---- an event of the controller

-- a transaction of the copy in hand, whose overlay works on the first qTD of a request
abbrev pub begun_in : DriverContent → Option Held → HcStep → Option ℕ
begun_in d (Some h) steps.Transact = setup_at d h.queue_head.current
begun_in d _ _ = None

abbrev pub begun_by : World → Option ℕ
begun_by w = begun_in w.driver w.control.walk.held (kind_next w)

abbrev pub wired : Fixed → World → Wired
wired fixed w = record { fixed = fixed; bus = w.bus }

-- the device of an endpoint of the driver
abbrev pub side_of : Fixed → World → Option Endpoint → Option Stages
side_of fixed w None = None
side_of fixed w (Some x) = stages_at (wired fixed w) x.desc.name.addr x.desc.name.num

abbrev pub acted_with : Option Stages → Option Stages → List (List ℕ)
acted_with (Some c) (Some z) = acted_between c z
acted_with _ _ = []

abbrev pub acted_by : Fixed → World → World → ℕ → List (List ℕ)
acted_by fixed w new e = acted_with (side_of fixed w (slice_get w.driver.endpoints e)) (side_of fixed new (slice_get w.driver.endpoints e))

abbrev pub after_event : Fixed → World → Windows → Windows
after_event fixed w v = recorded w.driver (begun_by w) (acted_by fixed w (controller_next fixed w)) v

-- ---- along a run

-- events of the driver and commands leave them
abbrev pub after_one : Fixed → World → Event → Windows → Windows
after_one fixed w events.D v = v
after_one fixed w events.C v = after_event fixed w v

abbrev pub after_order : Fixed → World → Left → Windows → Windows
after_order fixed w (Events event zero) v = v
after_order fixed w (Events event (suc n)) v = after_one fixed w event v
after_order fixed w (Microframes zero) v = v
after_order fixed w (Microframes (suc n)) v = after_event fixed w v
after_order fixed w (Answer ended n) v = v
after_order fixed w (OrderedCommand n cmd) v = v
after_order fixed w (Plugs there port) v = v

abbrev pub after_orders : Fixed → World → List Left → Windows → Windows
after_orders fixed w [] v = v
after_orders fixed w (x ∷ rest) v = after_order fixed w x v

abbrev pub windows_tick : Fixed → OrderedWorld → Windows → Windows
windows_tick fixed p v = after_orders fixed p.world p.orders v

unfoldable pub windows_at : Script → ℕ → Windows
windows_at s zero = no_windows
windows_at s (suc k) = windows_tick (fixed_of s) (moment s k) (windows_at s k)

-- ---- the requests of the transfers

abbrev pub no_asks : ℕ → Request
no_asks t = record { setup = []; bytes = [] }

abbrev pub with_ask : (ℕ → Request) → ℕ → Request → ℕ → Request
with_ask asks t r u = if u == t then r else asks u

-- once the command was accepted, the newest transfer has it
abbrev pub asks_then : DriverContent → Cmd → (ℕ → Request) → ℕ → Request
asks_then d (commands.Control name setup bytes) asks = with_ask asks (length d.transfers) (record { setup = setup; bytes = bytes })
asks_then d _ asks = asks

abbrev pub asks_by : World → Left → (ℕ → Request) → ℕ → Request
asks_by w (OrderedCommand n cmd) asks = asks_then w.driver cmd asks
asks_by w _ asks = asks

abbrev pub asks_next : World → List Left → (ℕ → Request) → ℕ → Request
asks_next w [] asks = asks
asks_next w (x ∷ rest) asks = asks_by w x asks

unfoldable pub asks_at : Script → ℕ → ℕ → Request
asks_at s zero = no_asks
asks_at s (suc k) = asks_next (moment s k).world (moment s k).orders (asks_at s k)

-- the numbers of those of these transfers that are of the endpoint; the first of them has number n
abbrev pub numbers_from : ℕ → ℕ → List Transfer → List ℕ
numbers_from e n [] = []
numbers_from e n (y ∷ ys) = if y.endpoint == e then n ∷ numbers_from e (suc n) ys else numbers_from e (suc n) ys

abbrev pub numbers_of : DriverContent → ℕ → List ℕ
numbers_of d e = numbers_from e 0 d.transfers

abbrev pub window_at : (ℕ → Request) → Windows → ℕ → Window
window_at asks v t = record { request = asks t; acts = v.acts t }

abbrev pub windows_of : DriverContent → (ℕ → Request) → Windows → ℕ → List Window
windows_of d asks v e = map (window_at asks v) (numbers_of d e)

abbrev pub AreOnce : (ℕ → Request) → Windows → DriverContent → ℕ → Type 0
AreOnce asks v d e = AllByRecursion (λ w. IsOnce w.request.setup w.acts) (windows_of d asks v e)

pub record IsOpenControl (d : DriverContent) (e : ℕ) (x : Endpoint) : Type 0 where
  pub here : slice_get d.endpoints e ≡ Some x
  pub control : is_control x.desc.kind ≡ true
  pub opened : is_opening d x ≡ false

abbrev pub report_at : Script → ℕ → WholeReport
report_at s k = report_of (fixed_of s) (moment s k).world

abbrev pub windows_then : Script → ℕ → ℕ → List Window
windows_then s k e = windows_of (moment s k).world.driver (asks_at s k) (windows_at s k) e

pub record RequestsAreKept (s : Script) (k e : ℕ) (x : Endpoint) : Type 0 where
  pub once : AreOnce (asks_at s k) (windows_at s k) (moment s k).world.driver e
  pub told : AreTold (data_of s x.desc.name) (report_at s k).store (windows_then s k e) (lines_of (report_at s k) x.desc.name)
  pub counted : acted (report_at s k) x.desc.name ≡ Some (length (filter has_acted (windows_then s k e)))

pub record IsOfDevice (s : Script) (k e : ℕ) (x : Endpoint) : Type 0 where
  pub opened : IsOpenControl (moment s k).world.driver e x
  pub high : x.desc.speed ≡ High
  pub device : is_of_hub s x.desc.name.addr ≡ false

pub record KeepsRequests (s : Script) : Type 0 where
  pub throughout : (k e : ℕ) (x : Endpoint) → IsOfDevice s k e x → RequestsAreKept s k e x
  pub at_the_end : (k e : ℕ) (x : Endpoint) → (moment s k).orders ≡ [] → IsOfDevice s k e x
      → AreRightRequests s (report_at s k) x.desc.name (windows_then s k e)
