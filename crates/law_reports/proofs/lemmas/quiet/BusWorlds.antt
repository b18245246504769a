-- What is known of the bus of a script stands after each event of the controller: each is one ask, the beginning of a microframe, or none.
use Rattle.std.proofs.Common.{ℕ, Bool, true, false, List, Option, Some, None}
use Rattle.script_types.specs.declared.scripts.Script.{Script}
use Rattle.bus_wire.specs.Bus.{Bus, fixed_of}
use Rattle.hc_copy.specs.Buffer.{sending}
use Rattle.hc_copy.specs.declared.held.Held.{Held}
use Rattle.hc_copy.specs.declared.held.Transaction.{Transaction}
use Rattle.hc_copy.specs.Transacting.{call_in}
use Rattle.hc_core.specs.Controller.{Content, entered, frame_place, walk_place}
use Rattle.hc_core.specs.declared.controller.ControllerRow.{ControllerRow}
use Rattle.hc_core.specs.declared.controller.ControllerRow.TheVariants as rows
use Rattle.async_walk.specs.declared.rows.WalkRow.{WalkRow}
use Rattle.async_walk.specs.declared.rows.WalkRow.TheVariants as walks
use Rattle.async_walk.specs.Rows.{WalkPlace, at_event, event_row}
use Rattle.periodic_walk.specs.Place.{Effect}
use Rattle.periodic_walk.specs.Place.Effect.{Leaves, Asks}
use Rattle.periodic_walk.specs.Rows.{effect_of}
use Rattle.bus_world.specs.World.{World, controller_row, controller_parts, controller_next, turned_by, frame_by, walk_by, sends_by, sent_by}
use Rattle.law_reports.specs.quiet.Heard.{IsHeardBus}
use Rattle.law_reports.proofs.lemmas.quiet.BusEvents.{ask_keeps_bus, begin_keeps_bus}

module _ (s : Script) (b : Bus) (k : IsHeardBus s b) where
  sent_kept : (all : Bool) (t : Transaction) (x : Held) (bytes : List ℕ) (p : WalkPlace)
      → IsHeardBus s (sent_by (fixed_of s) all t x bytes p b).bus
  sent_kept true t x bytes p = ask_keeps_bus s b k (call_in t bytes false).ask (call_in t bytes false).out
  sent_kept false t x bytes p = k

  sends_kept : (t : Transaction) (p : WalkPlace) (held : Option Held) → IsHeardBus s (sends_by (fixed_of s) t p held b).bus
  sends_kept t p None = k
  sends_kept t p (Some x) =
      sent_kept (sending t x.queue_head p.memory).all t x (sending t x.queue_head p.memory).bytes
      (record p { memory = (sending t x.queue_head p.memory).memory })

  walk_kept : (row : WalkRow) (p : WalkPlace) → IsHeardBus s (walk_by (fixed_of s) row p b).bus
  walk_kept (walks.Transact t) p = sends_kept t p p.walk.held
  walk_kept _ p = k

  frame_kept : (e : Effect) → IsHeardBus s (frame_by (fixed_of s) e b).bus
  frame_kept (Leaves p) = k
  frame_kept (Asks ask out left_by) = ask_keeps_bus s b k ask out

  turned_kept : (row : ControllerRow) (c : Content) → IsHeardBus s (turned_by (fixed_of s) row c b).bus
  turned_kept rows.Begin c = begin_keeps_bus s b k _
  turned_kept rows.Frame c = frame_kept (effect_of (frame_place c))
  turned_kept rows.Enter c = walk_kept (event_row (walk_place (entered c))) (at_event (walk_place (entered c)))
  turned_kept rows.Go c = walk_kept (event_row (walk_place c)) (at_event (walk_place c))
  turned_kept _ c = k

pub controller_keeps_bus : (s : Script) (w : World) → IsHeardBus s w.bus → IsHeardBus s (controller_next (fixed_of s) w).bus
controller_keeps_bus s w k = turned_kept s w.bus k (controller_row w) (controller_parts w)
