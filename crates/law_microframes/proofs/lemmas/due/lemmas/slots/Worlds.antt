-- Each event of the controller goes on with the slots: those that were fetched active are those that are done, and one that is in hand
-- (EHCI 1.0, 4.4, 4.6 and 4.7.1).
use Rattle.std.proofs.Common.{◌≡◌, ◌≢◌, ℕ, ◌≤◌, Bool, true, false, List, [], Option, Some, None, ap, refl, sym, subst, ◌∙◌, arith}
use Rattle.law_microframes.proofs.Common.{repeats_less, frame_row}
use Rattle.async_walk.specs.declared.state.WalkStep.{WalkStep}
use Rattle.async_walk.specs.declared.state.WalkStep.TheVariants as walks
use Rattle.periodic_walk.specs.declared.state.Hand.{Hand}
use Rattle.periodic_walk.specs.Place.{FramePlace, Effect}
use Rattle.periodic_walk.specs.Place.Effect.{Leaves, Asks}
use Rattle.periodic_walk.specs.Rows.{effect_of}
use Rattle.hc_core.specs.declared.controller.ControllerRow.{ControllerRow}
use Rattle.hc_core.specs.declared.controller.ControllerRow.TheVariants as rows
use Rattle.hc_core.specs.declared.controller.HcStep.{HcStep}
use Rattle.hc_core.specs.declared.controller.MicroframePart.{MicroframePart}
use Rattle.hc_core.specs.declared.controller.MicroframePart.TheVariants.{Periodic, Asynchronous, Over}
use Rattle.hc_core.specs.Controller.{Content, part_after, hc_step, kind_of, frame_place, frame_step, begun_at}
use Rattle.bus_wire.specs.Bus.{Bus, Fixed, is_held}
use Rattle.bus_world.specs.World.{World, frame_by, controller_parts, with_turned, turned_by}
use Rattle.bus_world.specs.World.{controller_row, controller_next, kind_next}
use Rattle.claims_world.specs.InTime.{IsInTime}
use Rattle.claims_world.specs.Visits.{TellsMicroframe, is_held_now}
use Rattle.claims_world.specs.WithinLoad.{repeats_at, repeats_after, repeats_next}
use Rattle.law_world.specs.memory.Mixed.{IsMixedWorld}
use Rattle.law_microframes.proofs.lemmas.visits.ReasonParts.{InPart, row_in}
use Rattle.law_microframes.proofs.lemmas.visits.ReasonTexts.{never_faults}
use Rattle.claims_world.specs.Slots.{Slots, slots_after, slots_next, done_in}
use Rattle.law_microframes.proofs.lemmas.due.lemmas.slots.Events.{with_hand, with_part, AllPlaces, Serves, hand_serves}

-- ---- what is known, and what goes on

pub record IsKnown (fixed : Fixed) (w : World) (again : ℕ) : Type 0 where
  pub mixed : IsMixedWorld w
  pub timely : IsInTime fixed again w
  pub tells : TellsMicroframe fixed w

abbrev pub AreServed : Fixed → World → Slots → ℕ → Type 0
AreServed fixed w t again = is_held_now fixed w ≡ false → again ≤ 4000000
    → t.active ≡ with_part w.control.part w.control.frame.hand t.done

-- ---- places

pub at_place : (P : FramePlace → Type 0) (fixed : Fixed) (e : Effect) (b : Bus) → AllPlaces P e → P (frame_by fixed e b).place
at_place P fixed (Leaves q) b all = all
at_place P fixed (Asks ask out left_by) b all = all _

outside : (step : WalkStep) (hand : Option Hand) (ds : List ℕ) → with_part (part_after Asynchronous step) hand ds ≡ ds
outside walks.Fetch hand ds = refl
outside walks.Advance hand ds = refl
outside walks.Transact hand ds = refl
outside walks.WriteBack hand ds = refl
outside walks.Skip hand ds = refl
outside walks.Ended hand ds = refl
outside walks.Fault hand ds = refl

-- a microframe begins with nothing in hand, whether or not the element of the frame list may be read
begun : (b allowed : Bool) (c : Content) → c.control.part ≡ Over
    → [] ≡ with_part (begun_at b allowed c).control.part (begun_at b allowed c).control.frame.hand []
begun true allowed c part = refl
begun false allowed c part = ap (λ (x : MicroframePart). with_part x c.control.frame.hand []) (sym part)

-- ---- an event of the controller

module _ (fixed : Fixed) (w : World) (again : ℕ) (known : IsKnown fixed w again) (t : Slots) (all : AreServed fixed w t again) where
  -- which microframe it is stays until the next begins
  free_before : controller_row w ≢ rows.Begin → is_held_now fixed (controller_next fixed w) ≡ false → is_held_now fixed w ≡ false
  free_before other free = ap (is_held fixed.holds) (sym (known.tells.goes_on other)) ∙ free

  -- in no event of the walk of the frames is anything in hand
  none_in_hand : controller_row w ≢ rows.Frame → (part : MicroframePart) (hand : Option Hand) → w.control.part ≡ part
      → w.control.frame.hand ≡ hand → t.active ≡ with_part part hand t.done → t.active ≡ t.done
  none_in_hand other Periodic None part is same = same
  none_in_hand other Periodic (Some hand) part is same = absurd (other (frame_row w hand known.mixed part is))
  none_in_hand other Asynchronous hand part is same = same
  none_in_hand other Over hand part is same = same

  done_now : controller_row w ≢ rows.Frame → controller_row w ≢ rows.Begin → is_held_now fixed (controller_next fixed w) ≡ false
      → again ≤ 4000000 → t.active ≡ t.done
  done_now frame begin free few =
      none_in_hand frame w.control.part w.control.frame.hand refl refl (all (free_before begin free) few)

  next_is : (r : ControllerRow) → controller_row w ≡ r
      → controller_next fixed w ≡ with_turned w (turned_by fixed r (controller_parts w) w.bus)
  next_is r is = ap (λ (x : ControllerRow). with_turned w (turned_by fixed x (controller_parts w) w.bus)) is

  frame_goes_on : controller_row w ≡ rows.Frame
      → AreServed fixed (controller_next fixed w) (slots_after rows.Frame w t) (repeats_at w.control.frame.hand (kind_next w) again)
  frame_goes_on row free few =
      let p : FramePlace = frame_place (controller_parts w) in
      let hand : Option Hand = w.control.frame.hand in
      let less = repeats_less hand (kind_next w) again in
      let before = free_before (λ same. let no : rows.Frame ≡ rows.Begin = sym row ∙ same in cc) free in
      let part : w.control.part ≡ Periodic = subst (λ (r : ControllerRow). InPart r w.control.part) row (row_in w) in
      let prior : t.active ≡ with_hand hand t.done =
      all before (omega (arith, few, less)) ∙ ap (λ (x : MicroframePart). with_part x hand t.done) part in
      let serves = at_place (Serves (slots_after rows.Frame w t).active (done_in hand (hc_step (frame_step (controller_parts w))) t.done)
      (frame_step (controller_parts w))) fixed (effect_of p) w.bus
      (hand_serves p hand t.active t.done (never_faults w known.mixed row)
      (known.timely.in_time row before (omega (arith, few, less))) prior) in
      let kind : kind_next w ≡ hc_step (frame_step (controller_parts w)) =
      ap (λ (r : ControllerRow). kind_of r (controller_parts w)) row in
      subst (λ (x : World). (slots_after rows.Frame w t).active
      ≡ with_part x.control.part x.control.frame.hand (done_in hand (kind_next w) t.done))
      (sym (next_is rows.Frame row))
      (subst (λ (k : HcStep). (slots_after rows.Frame w t).active
      ≡ with_part (part_after Periodic (frame_step (controller_parts w))) (frame_by fixed (effect_of p) w.bus).place.walk.hand
      (done_in hand k t.done))
      (sym kind) serves)

  begin_goes_on : (again_then : ℕ) → controller_row w ≡ rows.Begin
      → AreServed fixed (controller_next fixed w) (slots_after rows.Begin w t) again_then
  begin_goes_on again_then row free few =
      subst (λ (x : World). [] ≡ with_part x.control.part x.control.frame.hand []) (sym (next_is rows.Begin row))
      (begun _ _ _ (subst (λ (r : ControllerRow). InPart r w.control.part) row (row_in w)))

  by_row : (r : ControllerRow) → controller_row w ≡ r
      → AreServed fixed (controller_next fixed w) (slots_after r w t) (repeats_after r (kind_next w) (controller_parts w) again)
  by_row rows.Begin is = begin_goes_on 0 is
  by_row rows.Frame is = frame_goes_on is
  by_row rows.Idle is = λ free few.
      subst (λ (x : World). t.active ≡ with_part x.control.part x.control.frame.hand t.done) (sym (next_is rows.Idle is))
      (all (free_before (λ same. let no : rows.Idle ≡ rows.Begin = sym is ∙ same in cc) free) few)
  by_row rows.Enter is = λ free few.
      subst (λ (x : World). t.active ≡ with_part x.control.part x.control.frame.hand t.done) (sym (next_is rows.Enter is))
      (done_now (λ same. let no : rows.Enter ≡ rows.Frame = sym is ∙ same in cc)
      (λ same. let no : rows.Enter ≡ rows.Begin = sym is ∙ same in cc) free few ∙ sym (outside _ _ t.done))
  by_row rows.Go is = λ free few.
      subst (λ (x : World). t.active ≡ with_part x.control.part x.control.frame.hand t.done) (sym (next_is rows.Go is))
      (done_now (λ same. let no : rows.Go ≡ rows.Frame = sym is ∙ same in cc)
      (λ same. let no : rows.Go ≡ rows.Begin = sym is ∙ same in cc) free few ∙ sym (outside _ _ t.done))
  by_row rows.End is = λ free few.
      subst (λ (x : World). t.active ≡ with_part x.control.part x.control.frame.hand t.done) (sym (next_is rows.End is))
      (done_now (λ same. let no : rows.End ≡ rows.Frame = sym is ∙ same in cc)
      (λ same. let no : rows.End ≡ rows.Begin = sym is ∙ same in cc) free few)

  pub controller_goes_on : AreServed fixed (controller_next fixed w) (slots_next fixed w t) (repeats_next fixed w again)
  controller_goes_on = by_row (controller_row w) refl
