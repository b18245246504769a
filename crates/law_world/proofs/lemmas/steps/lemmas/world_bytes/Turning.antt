-- The bus of a world says bytes at each moment of a run.
use Rattle.std.proofs.Common.{ℕ, zero, suc, Bool, true, false, List, [], ◌∷◌, Option, Some, None, Result, Ok, Err}
use Rattle.usb_base.specs.declared.commands.Cmd.{Cmd}
use Rattle.usb_base.specs.declared.endpoints.EpName.{EpName}
use Rattle.usb_base.specs.declared.reports.OfferError.{OfferError}
use Rattle.script_types.specs.declared.scripts.Event.{Event}
use Rattle.script_types.specs.declared.scripts.Event.TheVariants as events
use Rattle.script_types.specs.declared.scripts.Script.{Script}
use Rattle.hc_copy.specs.declared.held.Held.{Held}
use Rattle.hc_copy.specs.declared.held.Transaction.{Transaction}
use Rattle.hc_copy.specs.Buffer.{sending}
use Rattle.hc_copy.specs.Transacting.{call_in}
use Rattle.op_registers.specs.Events.{next_index}
use Rattle.async_walk.specs.declared.rows.WalkRow.{WalkRow}
use Rattle.async_walk.specs.declared.rows.WalkRow.TheVariants as walks
use Rattle.async_walk.specs.Rows.{WalkPlace, at_event, event_row}
use Rattle.hc_core.specs.declared.controller.ControllerRow.{ControllerRow}
use Rattle.hc_core.specs.declared.controller.ControllerRow.TheVariants as rows
use Rattle.periodic_walk.specs.Place.{Effect}
use Rattle.periodic_walk.specs.Place.Effect.{Leaves, Asks}
use Rattle.periodic_walk.specs.Rows.{effect_of}
use Rattle.hc_core.specs.Controller.{Content, entered, frame_place, walk_place}
use Rattle.drv_table.specs.Accepting.{Offered}
use Rattle.drv_table.specs.Offers.{offered}
use Rattle.bus_wire.specs.Bus.{Fixed, Bus}
use Rattle.law_scripts.specs.byte_answers.Bytes.{IsByteScript, IsByteBus}
use Rattle.law_scripts.proofs.lemmas.byte_answers.Buses.{transact_bytes, a_microframe_keeps_bytes, opening_bytes}
use Rattle.bus_world.specs.World.{World, next, controller_row, controller_parts, controller_next, turned_by, frame_by, walk_by, sends_by, sent_by, name_in, commanded, commanded_by}
use Rattle.bus_world.specs.Opening.{opening_world}
use Rattle.bus_world.specs.Orders.{Left, Events, Microframes, Answer, Command, OrderedWorld, tick, tick_by, tick_at, ticks}

-- ---- an event

sent_bytes : (fixed : Fixed) (all : Bool) (t : Transaction) (x : Held) (bytes : List ℕ) (p : WalkPlace) (b : Bus) → IsByteBus b → IsByteBus (sent_by fixed all t x bytes p b).bus
sent_bytes fixed true t x bytes p b h = transact_bytes fixed b (call_in t bytes false).ask (call_in t bytes false).out h
sent_bytes fixed false t x bytes p b h = h

sends_bytes : (fixed : Fixed) (t : Transaction) (p : WalkPlace) (held : Option Held) (b : Bus) → IsByteBus b → IsByteBus (sends_by fixed t p held b).bus
sends_bytes fixed t p None b h = h
sends_bytes fixed t p (Some x) b h =
    sent_bytes fixed (sending t x.queue_head p.memory).all t x (sending t x.queue_head p.memory).bytes (record p { memory = (sending t x.queue_head p.memory).memory }) b h

walk_bytes : (fixed : Fixed) (row : WalkRow) (p : WalkPlace) (b : Bus) → IsByteBus b → IsByteBus (walk_by fixed row p b).bus
walk_bytes fixed (walks.Transact t) p b h = sends_bytes fixed t p p.walk.held b h
walk_bytes fixed _ p b h = h

frame_bytes : (fixed : Fixed) (e : Effect) (b : Bus) → IsByteBus b → IsByteBus (frame_by fixed e b).bus
frame_bytes fixed (Leaves p) b h = h
frame_bytes fixed (Asks ask out left_by) b h = transact_bytes fixed b ask out h

turned_bytes : (fixed : Fixed) (row : ControllerRow) (c : Content) (b : Bus) → IsByteBus b → IsByteBus (turned_by fixed row c b).bus
turned_bytes fixed rows.Begin c b h = a_microframe_keeps_bytes fixed (next_index c.registers.frame_index) b h
turned_bytes fixed rows.Frame c b h = frame_bytes fixed (effect_of (frame_place c)) b h
turned_bytes fixed rows.Enter c b h = walk_bytes fixed (event_row (walk_place (entered c))) (at_event (walk_place (entered c))) b h
turned_bytes fixed rows.Go c b h = walk_bytes fixed (event_row (walk_place c)) (at_event (walk_place c)) b h
turned_bytes fixed _ c b h = h

pub controller_bytes : (fixed : Fixed) (w : World) → IsByteBus w.bus → IsByteBus (controller_next fixed w).bus
controller_bytes fixed w h = turned_bytes fixed (controller_row w) (controller_parts w) w.bus h

-- the driver never touches the bus
pub next_bytes : (fixed : Fixed) (w : World) (event : Event) → IsByteBus w.bus → IsByteBus (next fixed w event).bus
next_bytes fixed w events.D h = h
next_bytes fixed w events.C h = controller_bytes fixed w h

-- ---- a command

answered_bytes : (w : World) (n : ℕ) (name : EpName) (r : Result Offered OfferError) → IsByteBus w.bus → IsByteBus (commanded_by w n name r).bus
answered_bytes w n name (Ok o) h = h
answered_bytes w n name (Err why) h = h

pub commanded_bytes : (w : World) (n : ℕ) (cmd : Cmd) → IsByteBus w.bus → IsByteBus (commanded w n cmd).bus
commanded_bytes w n cmd h = answered_bytes w n (name_in cmd) (offered w.driver w.memory cmd) h

-- ---- a run

by_bytes : (fixed : Fixed) (w : World) (x : Left) (rest : List Left) → IsByteBus w.bus → IsByteBus (tick_by fixed w x rest).world.bus
by_bytes fixed w (Events event (suc n)) rest h = next_bytes fixed w event h
by_bytes fixed w (Microframes (suc n)) rest h = next_bytes fixed w events.C h
by_bytes fixed w (Answer ended n) rest h = next_bytes fixed w events.D h
by_bytes fixed w (Command n cmd) rest h = commanded_bytes w n cmd h
by_bytes fixed w _ rest h = h

at_bytes : (fixed : Fixed) (w : World) (orders : List Left) → IsByteBus w.bus → IsByteBus (tick_at fixed w orders).world.bus
at_bytes fixed w [] h = h
at_bytes fixed w (x ∷ rest) h = by_bytes fixed w x rest h

pub run_bytes : (fixed : Fixed) (p : OrderedWorld) (k : ℕ) → IsByteBus p.world.bus → IsByteBus (ticks fixed p k).world.bus
unfolding ticks
run_bytes fixed p zero h = h
run_bytes fixed p (suc k) h = run_bytes fixed (tick fixed p) k (at_bytes fixed p.world p.orders h)

pub opened_bytes : (s : Script) → IsByteScript s → IsByteBus (opening_world s).bus
opened_bytes s h = opening_bytes s h
