-- What each event of the bus keeps holds of it at each moment of a script's run.
use Rattle.std.proofs.Common.{ℕ, Bool, true, false, List, Option, Some, None, ap, sym, subst, ◌∙◌}
use Rattle.usb_base.specs.declared.endpoints.EpDesc.{EpDesc}
use Rattle.usb_base.specs.declared.packets.Ask.{Ask}
use Rattle.script_types.specs.declared.scripts.Script.{Script}
use Rattle.op_registers.specs.Events.{next_index}
use Rattle.hc_copy.specs.declared.held.Held.{Held}
use Rattle.hc_copy.specs.declared.held.Transaction.{Transaction}
use Rattle.hc_copy.specs.Buffer.{sending}
use Rattle.hc_copy.specs.Transacting.{call_in}
use Rattle.async_walk.specs.declared.rows.WalkRow.{WalkRow}
use Rattle.async_walk.specs.declared.rows.WalkRow.TheVariants as walks
use Rattle.async_walk.specs.Rows.{WalkPlace, event_row, at_event}
use Rattle.periodic_walk.specs.Place.{Effect}
use Rattle.periodic_walk.specs.Place.Effect.{Leaves, Asks}
use Rattle.periodic_walk.specs.Rows.{effect_of}
use Rattle.hc_core.specs.declared.controller.ControllerRow.{ControllerRow}
use Rattle.hc_core.specs.declared.controller.ControllerRow.TheVariants as rows
use Rattle.hc_core.specs.Controller.{Content, entered, frame_place, walk_place}
use Rattle.bus_wire.specs.Bus.{Bus, Fixed, fixed_of, opening_bus, begin_after, transact_after}
use Rattle.bus_world.specs.World.{controller_parts, controller_row, frame_by, sent_by, sends_by, walk_by, turned_by}
use Rattle.bus_world.specs.Budgets.{moment}
use Rattle.law_world.proofs.lemmas.memory.Carrying.{carrying}
use Rattle.law_microframes.proofs.lemmas.visits.ReasonParts.{command_bus}
use Rattle.law_microframes.specs.due.repeats.Hearing.{number_of, IsHeardOn}
use Rattle.law_microframes.specs.due.repeats.Words.{BusSaysWords}
use Rattle.law_microframes.proofs.lemmas.due.lemmas.repeats.Alike.{begins_keep_translators, asks_keep_translators, begins_keep_multi, asks_keep_multi, asks_keep_number}
use Rattle.law_microframes.proofs.lemmas.due.lemmas.repeats.HubWords.{begins_keep, asks_keep_words}

module _ (P : Bus → Type 0) (fixed : Fixed) (begins : (frindex : ℕ) (b : Bus) → P b → P (begin_after fixed frindex b))
    (asks : (b : Bus) (ask : Ask) (out : List ℕ) → P b → P (transact_after fixed b ask out)) where
  frame_keeps : (e : Effect) (b : Bus) → P b → P (frame_by fixed e b).bus
  frame_keeps (Leaves p) b k = k
  frame_keeps (Asks ask out left_by) b k = asks b ask out k

  sent_keeps : (all : Bool) (t : Transaction) (h : Held) (bytes : List ℕ) (p : WalkPlace) (b : Bus) → P b
      → P (sent_by fixed all t h bytes p b).bus
  sent_keeps true t h bytes p b k = asks b (call_in t bytes false).ask (call_in t bytes false).out k
  sent_keeps false t h bytes p b k = k

  sends_keeps : (t : Transaction) (p : WalkPlace) (o : Option Held) (b : Bus) → P b → P (sends_by fixed t p o b).bus
  sends_keeps t p None b k = k
  sends_keeps t p (Some h) b k =
      sent_keeps (sending t h.queue_head p.memory).all t h (sending t h.queue_head p.memory).bytes
      (record p { memory = (sending t h.queue_head p.memory).memory }) b k

  walk_keeps : (row : WalkRow) (p : WalkPlace) (b : Bus) → P b → P (walk_by fixed row p b).bus
  walk_keeps (walks.Transact t) p b k = sends_keeps t p p.walk.held b k
  walk_keeps _ p b k = k

  turn_keeps : (row : ControllerRow) (c : Content) (b : Bus) → P b → P (turned_by fixed row c b).bus
  turn_keeps rows.Begin c b k = begins (next_index c.registers.frame_index) b k
  turn_keeps rows.Frame c b k = frame_keeps (effect_of (frame_place c)) b k
  turn_keeps rows.Enter c b k = walk_keeps (event_row (walk_place (entered c))) (at_event (walk_place (entered c))) b k
  turn_keeps rows.Go c b k = walk_keeps (event_row (walk_place c)) (at_event (walk_place c)) b k
  turn_keeps rows.Idle c b k = k
  turn_keeps rows.End c b k = k

pub each_bus : (P : Bus → Type 0) (s : Script) → ((frindex : ℕ) (b : Bus) → P b → P (begin_after (fixed_of s) frindex b))
    → ((b : Bus) (ask : Ask) (out : List ℕ) → P b → P (transact_after (fixed_of s) b ask out)) → P (opening_bus s) → (k : ℕ)
    → P (moment s k).world.bus
each_bus P s begins asks opening k =
    carrying {X = ℕ} (λ fixed w n. n) (λ w orders n. Unit {0}) (λ w n. P w.bus) s 0
    (record {
      controller = λ w orders n known h. turn_keeps P (fixed_of s) begins asks (controller_row w) (controller_parts w) w.bus h;
      driver = λ w orders n known h. h;
      command = λ w line cmd rest n known h. subst P (sym (command_bus w line cmd)) h;
    })
    (λ j. tt) opening k

pub each_bus_says : (s : Script) → BusSaysWords (fixed_of s) (opening_bus s) → (k : ℕ) → BusSaysWords (fixed_of s) (moment s k).world.bus
each_bus_says s opening k =
    each_bus (BusSaysWords (fixed_of s)) s (λ frindex b h. begins_keep (fixed_of s) frindex b h)
    (λ b ask out h. asks_keep_words (fixed_of s) b ask out h) opening k

begins_heard : (fixed : Fixed) (x : EpDesc) (frindex : ℕ) (b : Bus) → IsHeardOn fixed b x
    → IsHeardOn fixed (begin_after fixed frindex b) x
begins_heard fixed x frindex b h = record {
  place = h.place;
  found = h.found;
  seat = h.seat;
  there = h.there;
  number = record { number = h.number.number; is = h.number.is };
  hub = h.hub;
  behind = h.behind;
  translator = begins_keep_translators fixed frindex b h.hub x.port h.translator;
  served = h.served ∙ ap (λ (m : Bool). number_of m x.port) (sym (begins_keep_multi fixed frindex b h.hub x.port h.translator));
}

asks_heard : (fixed : Fixed) (x : EpDesc) (b : Bus) (ask : Ask) (out : List ℕ) → IsHeardOn fixed b x
    → IsHeardOn fixed (transact_after fixed b ask out) x
asks_heard fixed x b ask out h = record {
  place = h.place;
  found = h.found;
  seat = h.seat;
  there = h.there;
  number = asks_keep_number fixed b ask out h.place h.number;
  hub = h.hub;
  behind = h.behind;
  translator = asks_keep_translators fixed b ask out h.hub x.port h.translator;
  served = h.served ∙ ap (λ (m : Bool). number_of m x.port) (sym (asks_keep_multi fixed b ask out h.hub x.port h.translator));
}

pub each_bus_hears : (s : Script) (x : EpDesc) → IsHeardOn (fixed_of s) (opening_bus s) x → (k : ℕ)
    → IsHeardOn (fixed_of s) (moment s k).world.bus x
each_bus_hears s x opening k =
    each_bus (λ b. IsHeardOn (fixed_of s) b x) s (λ frindex b h. begins_heard (fixed_of s) x frindex b h)
    (λ b ask out h. asks_heard (fixed_of s) x b ask out h) opening k
