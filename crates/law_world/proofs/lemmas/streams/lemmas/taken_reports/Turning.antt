-- No event of a bus changes the address of a device, so the bus of a world stays seated along its run.
use Rattle.std.proofs.Common.{◌≡◌, ℕ, zero, suc, Bool, true, false, if◌then◌else◌, List, [], ◌∷◌, map, slice_get, slice_set, Option, Some, None, Result, Ok, Err, option_map, ap, refl, sym, ◌∙◌}
use Rattle.std.proofs.lemmas.Option.{same_Some, slice_get-map}
use Rattle.usb_base.specs.declared.endpoints.EpName.{EpName}
use Rattle.usb_base.specs.declared.packets.Ask.{Ask}
use Rattle.usb_base.specs.declared.reports.OfferError.{OfferError}
use Rattle.script_types.specs.declared.scripts.Event.TheVariants as events
use Rattle.script_types.specs.declared.scripts.Script.{Script}
use Rattle.endpoint_script.specs.Device.{Device, begun}
use Rattle.hub_class.specs.HubContent.{HubContent}
use Rattle.hub_class.proofs.Microframe.{work_keeps}
use Rattle.bus_wire.specs.declared.asked.Answerer.{Answerer}
use Rattle.bus_wire.specs.declared.asked.Answerer.TheVariants as answerers
use Rattle.bus_wire.specs.declared.asked.Asked.{Asked}
use Rattle.bus_wire.specs.declared.who_heard.WhoHeard.{WhoHeard}
use Rattle.bus_wire.specs.Asking.{device_after, put_at, changed_at}
use Rattle.bus_wire.specs.Below.{Below, Floor, below_at, asked_below, below_row, devices_after, below_reply, below_after_at, below_after, floor_left, floor_worked}
use Rattle.bus_wire.specs.Bus.{Fixed, Bus, floor_of, begins_anew, begun_at, asked_of, bus_row, changed_by, after_at}
use Rattle.law_devices.proofs.Devices.{address_after}
use Rattle.hc_copy.specs.declared.held.Held.{Held}
use Rattle.hc_copy.specs.declared.held.Transaction.{Transaction}
use Rattle.hc_copy.specs.Buffer.{sending}
use Rattle.hc_copy.specs.Transacting.{call_in}
use Rattle.op_registers.specs.Events.{next_index}
use Rattle.async_walk.specs.declared.rows.WalkRow.{WalkRow}
use Rattle.async_walk.specs.declared.rows.WalkRow.TheVariants as walks
use Rattle.async_walk.specs.Rows.{WalkPlace, at_event, event_row}
use Rattle.periodic_walk.specs.Place.{Effect}
use Rattle.periodic_walk.specs.Place.Effect.{Leaves, Asks}
use Rattle.periodic_walk.specs.Rows.{effect_of}
use Rattle.hc_core.specs.declared.controller.ControllerRow.{ControllerRow}
use Rattle.hc_core.specs.declared.controller.ControllerRow.TheVariants as rows
use Rattle.hc_core.specs.Controller.{Content, entered, frame_place, walk_place}
use Rattle.drv_table.specs.Accepting.{Offered}
use Rattle.drv_table.specs.Offers.{offered}
use Rattle.bus_world.specs.World.{World, controller_row, controller_parts, controller_next, turned_by, frame_by, walk_by, sends_by, sent_by, name_in, commanded_by}
use Rattle.bus_world.specs.Orders.{Left, Events, Microframes, Answer, Command, tick, tick_by, tick_at, ticks}
use Rattle.law_world.specs.streams.taken_reports.Seats.{AreApart, IsSeatedBus}
use Rattle.law_world.specs.streams.taken_reports.Turns.{addresses, MicroframeKeepsAddresses, TransactionKeepsAddresses, EventKeepsSeats, CommandKeepsSeats, RunKeepsSeats}

-- ---- one device of some

set_same : (devices : List Device) (i : ℕ) (d new : Device) → slice_get devices i ≡ Some d → new.address ≡ d.address → addresses (slice_set devices i new) ≡ addresses devices
set_same [] zero d new here same = refl
set_same [] (suc i) d new here same = refl
set_same (x ∷ xs) zero d new here same = ap (λ (a : ℕ). a ∷ addresses xs) (same ∙ ap (λ (z : Device). z.address) (sym (same_Some x d here)))
set_same (x ∷ xs) (suc i) d new here same = ap (λ (more : List ℕ). x.address ∷ more) (set_same xs i d new here same)

put_same : (o : Option Device) (place : ℕ) (row : WhoHeard) (ask : Ask) (out : List ℕ) (devices : List Device) → slice_get devices place ≡ o → addresses (put_at o place (device_after row ask out) devices) ≡ addresses devices
put_same None place row ask out devices here = refl
put_same (Some d) place row ask out devices here = set_same devices place d (device_after row ask out d) here (address_after row d ask out)

changed_same : (place : ℕ) (row : WhoHeard) (ask : Ask) (out : List ℕ) (devices : List Device) → addresses (changed_at place (device_after row ask out) devices) ≡ addresses devices
changed_same place row ask out devices = put_same (slice_get devices place) place row ask out devices refl

-- ---- a transaction

by_same : (row : WhoHeard) (who : Answerer) (ask : Ask) (out : List ℕ) (b : Bus) → addresses (changed_by row who ask out b).devices ≡ addresses b.devices
by_same row (answerers.Device place) ask out b = changed_same place row ask out b.devices
by_same row _ ask out b = refl

at_same : (fixed : Fixed) (b : Bus) (ask : Ask) (out : List ℕ) (e : Option Asked) → addresses (after_at fixed b ask out e).devices ≡ addresses b.devices
at_same fixed b ask out None = refl
at_same fixed b ask out (Some e) = by_same (bus_row fixed b e ask out) e.who ask out b

pub transaction_keeps_addresses : TransactionKeepsAddresses
transaction_keeps_addresses fixed b ask out = at_same fixed b ask out (asked_of fixed b ask)

-- ---- the beginning of a microframe

devices_same : (row : WhoHeard) (who : Answerer) (ask : Ask) (out : List ℕ) (devices : List Device) → addresses (devices_after row who ask out devices) ≡ addresses devices
devices_same row (answerers.Device place) ask out devices = changed_same place row ask out devices
devices_same row _ ask out devices = refl

below_at_same : (w : Below) (ask : Ask) (out : List ℕ) (e : Option Asked) → addresses (below_after_at w ask out e).floor.devices ≡ addresses w.floor.devices
below_at_same w ask out None = refl
below_at_same w ask out (Some e) = devices_same (below_row w e ask out) e.who ask out w.floor.devices

left_same : (fixed : Fixed) (h : HubContent) (floor : Floor) → addresses (floor_left fixed h floor).devices ≡ addresses floor.devices
left_same fixed h floor =
    work_keeps below_reply below_after (λ (w : Below). addresses w.floor.devices ≡ addresses floor.devices) (λ w ask out same. below_at_same w ask out (asked_below w ask) ∙ same) h (below_at fixed h floor) refl

worked_same : (fixed : Fixed) (hubs : List HubContent) (floor : Floor) → addresses (floor_worked fixed hubs floor).devices ≡ addresses floor.devices
worked_same fixed [] floor = refl
worked_same fixed (h ∷ hs) floor = worked_same fixed hs (floor_left fixed h floor) ∙ left_same fixed h floor

begun_by : (frindex : ℕ) (d : Device) (b : Bool) → begins_anew d.speed frindex ≡ b → (begun_at frindex d).address ≡ d.address
begun_by frindex d true is = ap (λ (b : Bool). (if b then begun d else d).address) is
begun_by frindex d false is = ap (λ (b : Bool). (if b then begun d else d).address) is

begun_same : (frindex : ℕ) (devices : List Device) → addresses (map (begun_at frindex) devices) ≡ addresses devices
begun_same frindex [] = refl
begun_same frindex (d ∷ ds) =
    ap (λ (a : ℕ). a ∷ addresses (map (begun_at frindex) ds)) (begun_by frindex d (begins_anew d.speed frindex) refl) ∙ ap (λ (more : List ℕ). d.address ∷ more) (begun_same frindex ds)

pub microframe_keeps_addresses : MicroframeKeepsAddresses
microframe_keeps_addresses fixed frindex b = begun_same frindex (floor_worked fixed b.hubs (floor_of b)).devices ∙ worked_same fixed b.hubs (floor_of b)

-- ---- devices with the same addresses

record HasDevice (devices : List Device) (i a : ℕ) : Type 0 where
  device : Device
  here : slice_get devices i ≡ Some device
  same : device.address ≡ a

with_address : (devices : List Device) (i a : ℕ) → slice_get (addresses devices) i ≡ Some a → HasDevice devices i a
with_address devices i a is = by_old (slice_get devices i) refl (sym (slice_get-map (λ (d : Device). d.address) devices i) ∙ is)
  where
    by_old : (o : Option Device) → slice_get devices i ≡ o → option_map (λ (d : Device). d.address) o ≡ Some a → HasDevice devices i a
    by_old None here none = absurd cc
    by_old (Some d) here some = record { device = d; here = here; same = same_Some d.address a some }

address_at : (devices : List Device) (i : ℕ) (d : Device) → slice_get devices i ≡ Some d → slice_get (addresses devices) i ≡ Some d.address
address_at devices i d here = slice_get-map (λ (z : Device). z.address) devices i ∙ ap (option_map (λ (z : Device). z.address)) here

pub apart_same : (devices now : List Device) → addresses now ≡ addresses devices → AreApart devices → AreApart now
apart_same devices now same apart i j d e here there alike =
    let x : HasDevice devices i d.address = with_address devices i d.address (ap (λ (all : List ℕ). slice_get all i) (sym same) ∙ address_at now i d here) in
    let y : HasDevice devices j e.address = with_address devices j e.address (ap (λ (all : List ℕ). slice_get all j) (sym same) ∙ address_at now j e there) in
    apart i j x.device y.device x.here y.here (x.same ∙ alike ∙ sym y.same)

-- ---- an event of a world

sent_same : (fixed : Fixed) (all : Bool) (t : Transaction) (x : Held) (bytes : List ℕ) (p : WalkPlace) (b : Bus) → addresses (sent_by fixed all t x bytes p b).bus.devices ≡ addresses b.devices
sent_same fixed true t x bytes p b = transaction_keeps_addresses fixed b (call_in t bytes false).ask (call_in t bytes false).out
sent_same fixed false t x bytes p b = refl

sends_same : (fixed : Fixed) (t : Transaction) (p : WalkPlace) (held : Option Held) (b : Bus) → addresses (sends_by fixed t p held b).bus.devices ≡ addresses b.devices
sends_same fixed t p None b = refl
sends_same fixed t p (Some x) b =
    sent_same fixed (sending t x.queue_head p.memory).all t x (sending t x.queue_head p.memory).bytes (record p { memory = (sending t x.queue_head p.memory).memory }) b

walk_same : (fixed : Fixed) (row : WalkRow) (p : WalkPlace) (b : Bus) → addresses (walk_by fixed row p b).bus.devices ≡ addresses b.devices
walk_same fixed (walks.Transact t) p b = sends_same fixed t p p.walk.held b
walk_same fixed _ p b = refl

frame_same : (fixed : Fixed) (e : Effect) (b : Bus) → addresses (frame_by fixed e b).bus.devices ≡ addresses b.devices
frame_same fixed (Leaves p) b = refl
frame_same fixed (Asks ask out left_by) b = transaction_keeps_addresses fixed b ask out

turned_same : (fixed : Fixed) (row : ControllerRow) (c : Content) (b : Bus) → addresses (turned_by fixed row c b).bus.devices ≡ addresses b.devices
turned_same fixed rows.Begin c b = microframe_keeps_addresses fixed (next_index c.registers.frame_index) b
turned_same fixed rows.Frame c b = frame_same fixed (effect_of (frame_place c)) b
turned_same fixed rows.Enter c b = walk_same fixed (event_row (walk_place (entered c))) (at_event (walk_place (entered c))) b
turned_same fixed rows.Go c b = walk_same fixed (event_row (walk_place c)) (at_event (walk_place c)) b
turned_same fixed _ c b = refl

controller_same : (fixed : Fixed) (w : World) → addresses (controller_next fixed w).bus.devices ≡ addresses w.bus.devices
controller_same fixed w = turned_same fixed (controller_row w) (controller_parts w) w.bus

seated_same : (s : Script) (fixed : Fixed) (b now : Bus) → addresses now.devices ≡ addresses b.devices → IsSeatedBus s fixed b → IsSeatedBus s fixed now
seated_same s fixed b now same k = record { seats = k.seats; apart = apart_same b.devices now.devices same k.apart }

-- the driver never touches the bus
pub event_keeps_seats : EventKeepsSeats
event_keeps_seats s fixed w events.D k = k
event_keeps_seats s fixed w events.C k = seated_same s fixed w.bus (controller_next fixed w).bus (controller_same fixed w) k

-- ---- a command

answered_seated : (s : Script) (fixed : Fixed) (w : World) (n : ℕ) (name : EpName) (r : Result Offered OfferError) → IsSeatedBus s fixed w.bus → IsSeatedBus s fixed (commanded_by w n name r).bus
answered_seated s fixed w n name (Ok o) k = k
answered_seated s fixed w n name (Err why) k = k

pub command_keeps_seats : CommandKeepsSeats
command_keeps_seats s fixed w n cmd k = answered_seated s fixed w n (name_in cmd) (offered w.driver w.memory cmd) k

-- ---- a run

by_seated : (s : Script) (fixed : Fixed) (w : World) (x : Left) (rest : List Left) → IsSeatedBus s fixed w.bus → IsSeatedBus s fixed (tick_by fixed w x rest).world.bus
by_seated s fixed w (Events event (suc n)) rest k = event_keeps_seats s fixed w event k
by_seated s fixed w (Microframes (suc n)) rest k = event_keeps_seats s fixed w events.C k
by_seated s fixed w (Answer ended n) rest k = event_keeps_seats s fixed w events.D k
by_seated s fixed w (Command n cmd) rest k = command_keeps_seats s fixed w n cmd k
by_seated s fixed w _ rest k = k

tick_seated : (s : Script) (fixed : Fixed) (w : World) (orders : List Left) → IsSeatedBus s fixed w.bus → IsSeatedBus s fixed (tick_at fixed w orders).world.bus
tick_seated s fixed w [] k = k
tick_seated s fixed w (x ∷ rest) k = by_seated s fixed w x rest k

pub run_keeps_seats : RunKeepsSeats
unfolding ticks
run_keeps_seats s fixed p zero k = k
run_keeps_seats s fixed p (suc n) k = run_keeps_seats s fixed (tick fixed p) n (tick_seated s fixed p.world p.orders k)
