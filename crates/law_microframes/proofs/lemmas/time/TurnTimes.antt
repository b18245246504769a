-- At each moment no walk has more time left than a microframe has: no event of either raises what is left.
use Rattle.std.proofs.Common.{◌≡◌, ℕ, ◌+◌, ◌*◌, ◌≤◌, Bool, true, false, Option, Some, None, sym, subst, refl, arith}
use Rattle.script_types.specs.declared.scripts.Script.{Script}
use Rattle.word_mem.specs.Memory.{reaches}
use Rattle.op_registers.specs.Events.{after_begin}
use Rattle.async_walk.specs.Rows.{WalkPlace}
use Rattle.periodic_walk.specs.declared.state.Hand.{Hand}
use Rattle.periodic_walk.specs.Place.{FramePlace}
use Rattle.periodic_walk.specs.Rows.{Leads}
use Rattle.hc_core.specs.declared.controller.ControllerRow.{ControllerRow}
use Rattle.hc_core.specs.declared.controller.ControllerRow.TheVariants as rows
use Rattle.hc_core.specs.Controller.{Control, Content, element_address, begun_at, entered, frame_place, walk_place, HasRow}
use Rattle.bus_wire.specs.Bus.{Bus, Wired, Fixed, fixed_of, is_allowed}
use Rattle.bus_world.specs.World.{World, controller_parts, controller_row, controller_next, turned_by, walk_next}
use Rattle.bus_world.specs.Budgets.{moment}
use Rattle.law_world.specs.steps.Streaming.{begins_by, transacts_by, wired}
use Rattle.law_world.proofs.lemmas.steps.StreamTurning.{world_has_row}
use Rattle.law_microframes.proofs.lemmas.visits.ReasonMoments.{StepsBy, holds_along}
use Rattle.law_microframes.proofs.lemmas.visits.ReasonParts.{command_control}
use Rattle.claims_world.specs.Microframes.{least_price, microframe_time}
use Rattle.law_microframes.proofs.lemmas.time.CountTaken.{events_take_time}
use Rattle.law_microframes.specs.time.ChainEvents.{ChainVisitsFall, ChainFetchesBegin}
use Rattle.law_microframes.specs.time.Ahead.{IsWithinTime}

within : (a b : ℕ) → a ≤ b → b ≤ microframe_time → a ≤ microframe_time
within a b less top = omega (arith, less, top)

same : (a b : ℕ) → a ≡ b → a ≤ b
same a b is = omega (arith, is)

taken : (m new old : ℕ) → m * least_price + new ≤ old → new ≤ old
taken m new old takes = omega (arith, takes)

ring_time : (fixed : Fixed) (p : WalkPlace) (b : Bus) → (walk_next fixed p b).place.walk.left ≤ p.walk.left
ring_time fixed p b = taken _ (walk_next fixed p b).place.walk.left p.walk.left (events_take_time fixed p b)

abbrev AreWithin : Control → Type 0
AreWithin c = (c.frame.left ≤ microframe_time) × (c.walk.left ≤ microframe_time)

begun_time : (b allowed : Bool) (c : Content) → AreWithin c.control → AreWithin (begun_at b allowed c).control
begun_time true true c k = (omega arith, k.1)
begun_time true false c k = (omega arith, k.1)
begun_time false allowed c k = k

within_in : (v : World) → AreWithin v.control → IsWithinTime v
within_in v k = record { frames = k.0; ring = k.1 }

module _ (visits : ChainVisitsFall transacts_by) (fetches : ChainFetchesBegin transacts_by) where
  frame_time : (p new : FramePlace) (before after : Wired) (o : Option Hand) → p.walk.hand ≡ o → Leads transacts_by p before new after → new.walk.left ≤ p.walk.left
  frame_time p new before after None is led = same new.walk.left p.walk.left (fetches p new before after is led).time
  frame_time p new before after (Some hand) is led = (visits p new before after hand is led).time

  -- ---- an event of the controller

  module _ (fixed : Fixed) (w : World) (k : AreWithin w.control) where
    abbrev TurnedBy : ControllerRow → Type 0
    TurnedBy row = HasRow begins_by transacts_by row (controller_parts w) (wired fixed w) (turned_by fixed row (controller_parts w) w.bus).content
        (record { fixed = fixed; bus = (turned_by fixed row (controller_parts w) w.bus).bus })

    row_time : (row : ControllerRow) → TurnedBy row → AreWithin (turned_by fixed row (controller_parts w) w.bus).content.control
    row_time rows.Begin has =
        begun_time (reaches w.memory (element_address (after_begin w.registers))) (is_allowed fixed w.bus) (record (controller_parts w) { registers = after_begin w.registers }) k
    row_time rows.Frame has =
        (within _ w.control.frame.left (frame_time (frame_place (controller_parts w)) _ _ _ w.control.frame.hand refl has.walked) k.0, k.1)
    row_time rows.Enter has = (k.0, within _ w.control.frame.left (ring_time fixed (walk_place (entered (controller_parts w))) w.bus) k.0)
    row_time rows.Go has = (k.0, within _ w.control.walk.left (ring_time fixed (walk_place (controller_parts w)) w.bus) k.1)
    row_time _ has = k

    controller_time : AreWithin (controller_next fixed w).control
    controller_time = row_time (controller_row w) (world_has_row fixed w)

  -- ---- a run

  steps_by : (fixed : Fixed) → StepsBy fixed (λ w v. AreWithin w.control → AreWithin v.control)
  steps_by fixed = record {
    stands = λ w k. k;
    controller = λ w k. controller_time fixed w k;
    driver = λ w k. k;
    command = λ w n cmd k. subst AreWithin (sym (command_control w n cmd)) k;
  }

  pub moment_time : (s : Script) (k : ℕ) → IsWithinTime (moment s k).world
  moment_time s k = within_in (moment s k).world (holds_along s (λ w. AreWithin w.control) (omega arith, omega arith) (steps_by (fixed_of s)) k)
