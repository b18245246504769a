-- At each moment of a script's run an endpoint that was in its frames as the frame began is there, unless it was cancelled (EHCI 1.0, 4.6).
use Rattle.std.proofs.Common.{ℕ, zero, suc, List, [], ◌∷◌, sym, subst}
use Rattle.script_types.specs.declared.scripts.Event.TheVariants as events
use Rattle.script_types.specs.declared.scripts.Script.{Script}
use Rattle.script_text.specs.Faults.{Spells}
use Rattle.bandwidth.specs.declared.placements.Placement.{Placement}
use Rattle.hc_interrupt.specs.Turns.{microframe_of}
use Rattle.hc_core.specs.declared.controller.ControllerRow.{ControllerRow}
use Rattle.hc_core.specs.declared.controller.ControllerRow.TheVariants as rows
use Rattle.bus_wire.specs.Bus.{Fixed, fixed_of}
use Rattle.bus_world.specs.Budgets.{moment}
use Rattle.bus_world.specs.Opening.{opening_world}
use Rattle.bus_world.specs.Orders.{Left, Events, Microframes, Answer, Command, Plugs, OrderedWorld, tick_at, ticks}
use Rattle.bus_world.specs.World.{World, controller_row, controller_next}
use Rattle.claims_world.specs.Carried.{carried_from, carried_in}
use Rattle.claims_world.specs.Coming.{IsInItsFrames}
use Rattle.claims_world.specs.DueAtBegin.{IsUncancelled}
use Rattle.law_world.specs.memory.Mixed.{IsMixedWorld}
use Rattle.law_world.proofs.lemmas.memory.Carrying.{carried_then}
use Rattle.law_world.proofs.lemmas.memory.LetGo.{moment_then}
use Rattle.law_world.proofs.lemmas.memory.Together.{texts_stay_mixed}
use Rattle.law_reports.specs.due_at_begin.Framed.{frame_began_at, frame_began_by, frame_began, TextsStayInFrames}
use Rattle.law_reports.proofs.lemmas.due_at_begin.InFrames.{driver_uncancelled, driver_in_frames, command_uncancelled, command_in_frames}

abbrev AreStill : World → World → Type 0
AreStill b w = (e q : ℕ) (p : Placement) → IsInItsFrames b.driver e q p → IsUncancelled w.driver e → IsInItsFrames w.driver e q p

module _ (fixed : Fixed) (b w : World) (k : IsMixedWorld w) (all : AreStill b w) where
  by_row : (r : ControllerRow) (u : ℕ) → AreStill (frame_began_at r u w b) (controller_next fixed w)
  by_row rows.Begin zero = λ e q p i off. i
  by_row rows.Begin (suc u) = λ e q p i off. all e q p i off
  by_row rows.Idle u = λ e q p i off. all e q p i off
  by_row rows.Frame u = λ e q p i off. all e q p i off
  by_row rows.Enter u = λ e q p i off. all e q p i off
  by_row rows.Go u = λ e q p i off. all e q p i off
  by_row rows.End u = λ e q p i off. all e q p i off

  by_orders : (orders : List Left) → IsMixedWorld (tick_at fixed w orders).world
      → AreStill (carried_in frame_began_by fixed w orders b) (tick_at fixed w orders).world
  by_orders [] l = all
  by_orders (Events event zero ∷ rest) l = all
  by_orders (Events events.C (suc n) ∷ rest) l = by_row (controller_row w) (microframe_of (controller_next fixed w).control.frame.index)
  by_orders (Events events.D (suc n) ∷ rest) l = λ e q p i off.
      (driver_in_frames w k e q p l (all e q p i (driver_uncancelled w e off)) off).frames
  by_orders (Microframes zero ∷ rest) l = all
  by_orders (Microframes (suc n) ∷ rest) l = by_row (controller_row w) (microframe_of (controller_next fixed w).control.frame.index)
  by_orders (Answer ended n ∷ rest) l = λ e q p i off.
      (driver_in_frames w k e q p l (all e q p i (driver_uncancelled w e off)) off).frames
  by_orders (Command n cmd ∷ rest) l = λ e q p i off.
      (command_in_frames w k n cmd e q p l (all e q p i (command_uncancelled w n cmd e off)) off).frames
  by_orders (Plugs there port ∷ rest) l = all

module _ (text : List ℕ) (s : Script) (spelled : Spells text s) where
  mixed_then : (k : ℕ) → IsMixedWorld (tick_at (fixed_of s) (moment s k).world (moment s k).orders).world
  mixed_then k = subst (λ (o : OrderedWorld). IsMixedWorld o.world) (moment_then s k) (texts_stay_mixed text s spelled (suc k))

  still_at : (k : ℕ) → AreStill (frame_began s k) (moment s k).world
  unfolding ticks carried_from
  still_at zero = λ e q p i off. i
  still_at (suc k) =
      subst (λ (o : OrderedWorld). AreStill (frame_began s (suc k)) o.world) (sym (moment_then s k))
      (subst (λ (b : World). AreStill b (tick_at (fixed_of s) (moment s k).world (moment s k).orders).world)
      (sym (carried_then frame_began_by s (opening_world s) k))
      (by_orders (fixed_of s) (frame_began s k) (moment s k).world (texts_stay_mixed text s spelled k) (still_at k) (moment s k).orders
      (mixed_then k)))

pub texts_stay_in_frames : TextsStayInFrames
texts_stay_in_frames text s spelled k e q p i off = still_at text s spelled k e q p i off
