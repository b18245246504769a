-- What a controller hears in a run: each ask is heard as fates, holds and ports of the script say, and in no other way (USB 2.0, 8.4, 8.5,
-- 8.6, 11.14 and 11.17). The ask of an event, and what the walks make of a reply, are those of the walks (EHCI 1.0, 4.6 to 4.12).
--     Asking                 what an event asks of the bus, and the world once this reply is heard and the bus is left so
--     asking w               what the controller's next event asks; None where it asks nothing
--     IsHeardAs fixed w a new    a reply is heard of the ask, and the world goes on with it
--     HearsRightly s k       event k of the run of a script, where it is the controller's
--     HearsThroughout s      .. each, by the script's own lines and endpoints
use Rattle.std.specs.Prelude.{◌≡◌, ℕ, suc, ◌&&◌, not, nat_le, Bool, true, false, List, ◌∷◌, length, Option, Some, None}
use Rattle.std.specs.List.{list_any}
use Rattle.usb_base.specs.declared.packets.Ask.{Ask}
use Rattle.usb_base.specs.declared.packets.Reply.{Reply}
use Rattle.script_types.specs.declared.scripts.Event.TheVariants as events
use Rattle.script_types.specs.declared.scripts.Script.{Script}
use Rattle.hc_copy.specs.Buffer.{sending}
use Rattle.hc_copy.specs.declared.held.Held.{Held}
use Rattle.hc_copy.specs.declared.held.Transaction.{Transaction}
use Rattle.hc_copy.specs.Transacting.{call_in}
use Rattle.async_walk.specs.Rows.{WalkPlace, at_event, event_row, transacted}
use Rattle.async_walk.specs.declared.rows.WalkRow.{WalkRow}
use Rattle.async_walk.specs.declared.rows.WalkRow.TheVariants as walks
use Rattle.periodic_walk.specs.Place.{Effect}
use Rattle.periodic_walk.specs.Place.Effect.{Leaves, Asks}
use Rattle.periodic_walk.specs.Rows.{effect_of}
use Rattle.hc_core.specs.Controller.{Content, entered, frame_place, walk_place}
use Rattle.hc_core.specs.declared.controller.ControllerRow.{ControllerRow}
use Rattle.hc_core.specs.declared.controller.ControllerRow.TheVariants as rows
use Rattle.hub_class.specs.HubContent.{HubContent}
use Rattle.bus_wire.specs.Below.{Floor, below_at, below_reply, below_after}
use Rattle.bus_wire.specs.Bus.{Bus, Fixed, fixed_of, is_allowed}
use Rattle.bus_wire.specs.Seats.{seats_of}
use Rattle.bus_wire.specs.WhoHeard.{later}
use Rattle.bus_world.specs.Budgets.{moment}
use Rattle.bus_world.specs.Orders.{Left, Events, Microframes}
use Rattle.bus_world.specs.World.{World, framed, walked, with_turned, controller_row, controller_parts}
use Rattle.claims_answers.specs.Hearing.{IsHeard, IsHeardBelow}
use Rattle.claims_answers.specs.Seating.{AreSeats}

-- ---- what is asked

pub record Asking : Type 0 where
  pub ask : Ask
  pub out : List ℕ  -- the bytes that are sent
  pub onward : Reply → Bus → World

abbrev pub frame_asking : World → Content → Effect → Option Asking
frame_asking w c (Leaves p) = None
frame_asking w c (Asks ask out left_by) = Some (record {
  ask = ask;
  out = out;
  onward = λ reply b. with_turned w (framed c (record { place = left_by reply; bus = b }));
})

-- where all bytes that go out can be read
abbrev pub sent_asking : World → Content → Bool → Transaction → Held → List ℕ → WalkPlace → Option Asking
sent_asking w c true t h bytes p = Some (record {
  ask = (call_in t bytes false).ask;
  out = (call_in t bytes false).out;
  onward = λ reply b. with_turned w (walked c (record { place = transacted t h bytes reply p; bus = b }));
})
sent_asking w c false t h bytes p = None

abbrev pub held_asking : World → Content → Transaction → WalkPlace → Option Held → Option Asking
held_asking w c t p None = None
held_asking w c t p (Some h) =
    sent_asking w c (sending t h.queue_head p.memory).all t h (sending t h.queue_head p.memory).bytes
    (record p { memory = (sending t h.queue_head p.memory).memory })

abbrev pub walk_asking : World → Content → WalkRow → WalkPlace → Option Asking
walk_asking w c (walks.Transact t) p = held_asking w c t p p.walk.held
walk_asking w c _ p = None

abbrev pub asking_by : World → ControllerRow → Content → Option Asking
asking_by w rows.Frame c = frame_asking w c (effect_of (frame_place c))
asking_by w rows.Enter c = walk_asking w (entered c) (event_row (walk_place (entered c))) (at_event (walk_place (entered c)))
asking_by w rows.Go c = walk_asking w c (event_row (walk_place c)) (at_event (walk_place c))
asking_by w _ c = None

abbrev pub asking : World → Option Asking
asking w = asking_by w (controller_row w) (controller_parts w)

-- ---- what is heard

pub record IsHeardAs (fixed : Fixed) (w : World) (a : Asking) (new : World) : Type 0 where
  pub reply : Reply
  pub after : Bus
  pub heard : IsHeard fixed w.bus a.ask a.out reply after
  pub on : new ≡ a.onward reply after

-- a line says that the bus may not be used in microframe m
abbrev pub is_on_hold : List (ℕ × ℕ) → ℕ → Bool
is_on_hold spans m = list_any (λ span. nat_le span.0 m && nat_le m span.1) spans

abbrev pub is_controllers : List Left → Bool
is_controllers (Events events.C (suc n) ∷ rest) = true
is_controllers (Microframes (suc n) ∷ rest) = true
is_controllers _ = false

pub record HearsRightly (s : Script) (k : ℕ) : Type 0 where
  pub asks : (a : Asking) → asking (moment s k).world ≡ Some a → IsHeardAs (fixed_of s) (moment s k).world a (moment s (suc k)).world
  pub silent :
      asking (moment s k).world ≡ None → (controller_row (moment s k).world ≡ rows.Begin → ⊥)
      → (moment s (suc k)).world.bus ≡ (moment s k).world.bus
  pub held : is_allowed (fixed_of s) (moment s k).world.bus ≡ not (is_on_hold s.holds (later (moment s k).world.bus.microframe 1))

-- .. and what the translators of hubs ask below them as a microframe begins
pub record HearsThroughout (s : Script) : Type 0 where
  pub fates : (fixed_of s).fates ≡ s.fates
  pub seats : AreSeats s (fixed_of s).seats
  pub each : (k : ℕ) → is_controllers (moment s k).orders ≡ true → HearsRightly s k
  pub below :
      (h : HubContent) (floor : Floor) (ask : Ask) (out : List ℕ) → length floor.numbers ≡ length (seats_of s)
      → IsHeardBelow (fixed_of s) h floor ask out (below_reply (below_at (fixed_of s) h floor) ask out)
      (below_after (below_at (fixed_of s) h floor) ask out).floor
