-- Each event of the controller goes on with the siTDs: the transactions that came are those that were made, and one that is in hand (EHCI
-- 1.0, 4.4, 4.6 and 4.12.3).
use Rattle.std.proofs.Common.{◌≡◌, ◌≢◌, ℕ, ◌≤◌, Bool, true, false, List, [], Option, Some, None, ap, refl, sym, subst, ◌∙◌, arith}
use Rattle.law_microframes.proofs.Common.{repeats_less, frame_row}
use Rattle.usb_base.specs.declared.packets.Reply.{Reply}
use Rattle.itd_sitd.specs.declared.sitd.Sitd.{Sitd}
use Rattle.hc_interrupt.specs.Turns.{microframe_of}
use Rattle.async_walk.specs.declared.state.WalkStep.{WalkStep}
use Rattle.async_walk.specs.declared.state.WalkStep.TheVariants as walks
use Rattle.periodic_walk.specs.declared.state.Hand.{Hand}
use Rattle.periodic_walk.specs.Place.{FramePlace}
use Rattle.periodic_walk.specs.Rows.{effect_of}
use Rattle.hc_core.specs.declared.controller.ControllerRow.{ControllerRow}
use Rattle.hc_core.specs.declared.controller.ControllerRow.TheVariants as rows
use Rattle.hc_core.specs.declared.controller.HcStep.{HcStep}
use Rattle.hc_core.specs.declared.controller.MicroframePart.{MicroframePart}
use Rattle.hc_core.specs.declared.controller.MicroframePart.TheVariants.{Periodic, Asynchronous, Over}
use Rattle.hc_core.specs.Controller.{Content, part_after, hc_step, kind_of, frame_place, frame_step, begun_at}
use Rattle.bus_wire.specs.Bus.{Fixed, is_held}
use Rattle.bus_world.specs.World.{World, frame_by, controller_parts, with_turned, turned_by}
use Rattle.bus_world.specs.World.{controller_row, controller_next, kind_next}
use Rattle.claims_world.specs.Sitds.{SitdMade, Sitds, sitds_after, sitds_next, made_in, AreServed as AllServed}
use Rattle.claims_world.specs.Visits.{is_held_now}
use Rattle.claims_world.specs.WithinLoad.{repeats_at, repeats_after, repeats_next}
use Rattle.law_world.specs.steps.Streaming.{begins_by, transacts_by, wired}
use Rattle.law_world.proofs.lemmas.steps.StreamTurning.{world_has_row}
use Rattle.law_microframes.proofs.lemmas.visits.NoneLeftWalking.{index_stays}
use Rattle.law_microframes.proofs.lemmas.visits.ReasonParts.{InPart, row_in}
use Rattle.law_microframes.proofs.lemmas.visits.ReasonTexts.{never_faults}
use Rattle.law_microframes.proofs.lemmas.due.lemmas.slots.Worlds.{IsKnown, at_place}
use Rattle.law_microframes.proofs.lemmas.due.lemmas.sitds.Events.{WithHand, WithPart, Serves, hand_serves}

abbrev pub GoOn : Fixed → World → Sitds → ℕ → Type 0
GoOn fixed w t again = is_held_now fixed w ≡ false → again ≤ 4000000
    → WithPart (microframe_of w.control.frame.index) w.control.part w.control.frame.hand w.control.frame.reply t.came t.made

-- ---- places

outside : (u : ℕ) (step : WalkStep) (hand : Option Hand) (r : Reply) (cs : List (ℕ × Sitd)) (ms : List SitdMade) → AllServed u cs ms
    → WithPart u (part_after Asynchronous step) hand r cs ms
outside u walks.Fetch hand r cs ms served = served
outside u walks.Advance hand r cs ms served = served
outside u walks.Transact hand r cs ms served = served
outside u walks.WriteBack hand r cs ms served = served
outside u walks.Skip hand r cs ms served = served
outside u walks.Ended hand r cs ms served = served
outside u walks.Fault hand r cs ms served = served

-- a microframe begins with nothing in hand, whether or not the element of the frame list may be read
begun : (u : ℕ) (b allowed : Bool) (c : Content) → c.control.part ≡ Over
    → WithPart u (begun_at b allowed c).control.part (begun_at b allowed c).control.frame.hand
    (begun_at b allowed c).control.frame.reply [] []
begun u true allowed c part = tt
begun u false allowed c part =
    subst (λ (x : MicroframePart). WithPart u x c.control.frame.hand c.control.frame.reply [] []) (sym part) tt

-- ---- an event of the controller

module _ (fixed : Fixed) (w : World) (again : ℕ) (known : IsKnown fixed w again) (t : Sitds) (all : GoOn fixed w t again) where
  abbrev u : ℕ
  u = microframe_of w.control.frame.index

  -- which microframe it is stays until the next begins
  free_before : controller_row w ≢ rows.Begin → is_held_now fixed (controller_next fixed w) ≡ false → is_held_now fixed w ≡ false
  free_before other free = ap (is_held fixed.holds) (sym (known.tells.goes_on other)) ∙ free

  index_on : controller_row w ≢ rows.Begin → (controller_next fixed w).control.frame.index ≡ w.control.frame.index
  index_on other =
      index_stays begins_by transacts_by (controller_parts w) (wired fixed w) (controller_parts (controller_next fixed w))
      (wired fixed (controller_next fixed w)) (controller_row w) other (world_has_row fixed w)

  -- in no event of the walk of the frames is anything in hand
  none_in_hand : controller_row w ≢ rows.Frame → (part : MicroframePart) (hand : Option Hand) → w.control.part ≡ part
      → w.control.frame.hand ≡ hand → WithPart (microframe_of w.control.frame.index) part hand w.control.frame.reply t.came t.made
      → AllServed (microframe_of w.control.frame.index) t.came t.made
  none_in_hand other Periodic None part is served = served
  none_in_hand other Periodic (Some hand) part is served = absurd (other (frame_row w hand known.mixed part is))
  none_in_hand other Asynchronous hand part is served = served
  none_in_hand other Over hand part is served = served

  done_now : controller_row w ≢ rows.Frame → controller_row w ≢ rows.Begin → is_held_now fixed (controller_next fixed w) ≡ false
      → again ≤ 4000000 → AllServed (microframe_of w.control.frame.index) t.came t.made
  done_now frame begin free few =
      none_in_hand frame w.control.part w.control.frame.hand refl refl (all (free_before begin free) few)

  next_is : (r : ControllerRow) → controller_row w ≡ r
      → controller_next fixed w ≡ with_turned w (turned_by fixed r (controller_parts w) w.bus)
  next_is r is = ap (λ (x : ControllerRow). with_turned w (turned_by fixed x (controller_parts w) w.bus)) is

  -- .. in the same microframe
  as_then : (now : Sitds) → controller_row w ≢ rows.Begin
      → WithPart (microframe_of w.control.frame.index) (controller_next fixed w).control.part (controller_next fixed w).control.frame.hand
      (controller_next fixed w).control.frame.reply now.came now.made
      → WithPart (microframe_of (controller_next fixed w).control.frame.index) (controller_next fixed w).control.part
      (controller_next fixed w).control.frame.hand (controller_next fixed w).control.frame.reply now.came now.made
  as_then now other is =
      subst (λ (i : ℕ). WithPart (microframe_of i) (controller_next fixed w).control.part (controller_next fixed w).control.frame.hand
      (controller_next fixed w).control.frame.reply now.came now.made) (sym (index_on other)) is

  frame_goes_on : controller_row w ≡ rows.Frame
      → GoOn fixed (controller_next fixed w) (sitds_after rows.Frame w t) (repeats_at w.control.frame.hand (kind_next w) again)
  frame_goes_on row free few =
      let p : FramePlace = frame_place (controller_parts w) in
      let hand : Option Hand = w.control.frame.hand in
      let less = repeats_less hand (kind_next w) again in
      let other : controller_row w ≢ rows.Begin = λ same. let no : rows.Frame ≡ rows.Begin = sym row ∙ same in cc no in
      let before = free_before other free in
      let part : w.control.part ≡ Periodic = subst (λ (r : ControllerRow). InPart r w.control.part) row (row_in w) in
      let prior : WithHand u hand w.control.frame.reply t.came t.made =
      subst (λ (x : MicroframePart). WithPart u x hand w.control.frame.reply t.came t.made) part (all before (omega (arith, few, less))) in
      let now : Sitds = sitds_after rows.Frame w t in
      let serves = at_place (Serves u now.came (made_in hand w.control.frame.reply (hc_step (frame_step (controller_parts w))) t.made)
      (frame_step (controller_parts w))) fixed (effect_of p) w.bus
      (hand_serves p hand t.came t.made (never_faults w known.mixed row)
      (known.timely.in_time row before (omega (arith, few, less))) prior) in
      let kind : kind_next w ≡ hc_step (frame_step (controller_parts w)) =
      ap (λ (r : ControllerRow). kind_of r (controller_parts w)) row in
      as_then now other
      (subst (λ (x : World). WithPart u x.control.part x.control.frame.hand x.control.frame.reply now.came
      (made_in hand w.control.frame.reply (kind_next w) t.made))
      (sym (next_is rows.Frame row))
      (subst (λ (k : HcStep). WithPart u (part_after Periodic (frame_step (controller_parts w)))
      (frame_by fixed (effect_of p) w.bus).place.walk.hand (frame_by fixed (effect_of p) w.bus).place.walk.reply now.came
      (made_in hand w.control.frame.reply k t.made))
      (sym kind) serves))

  begin_goes_on : (again_then : ℕ) → controller_row w ≡ rows.Begin
      → GoOn fixed (controller_next fixed w) (sitds_after rows.Begin w t) again_then
  begin_goes_on again_then row free few =
      subst
      (λ (x : World). WithPart (microframe_of (controller_next fixed w).control.frame.index) x.control.part x.control.frame.hand
      x.control.frame.reply [] [])
      (sym (next_is rows.Begin row))
      (begun _ _ _ _ (subst (λ (r : ControllerRow). InPart r w.control.part) row (row_in w)))

  by_row : (r : ControllerRow) → controller_row w ≡ r
      → GoOn fixed (controller_next fixed w) (sitds_after r w t) (repeats_after r (kind_next w) (controller_parts w) again)
  by_row rows.Begin is = begin_goes_on 0 is
  by_row rows.Frame is = frame_goes_on is
  by_row rows.Idle is = λ free few.
      as_then t (λ same. let no : rows.Idle ≡ rows.Begin = sym is ∙ same in cc)
      (subst (λ (x : World). WithPart u x.control.part x.control.frame.hand x.control.frame.reply t.came t.made)
      (sym (next_is rows.Idle is))
      (all (free_before (λ same. let no : rows.Idle ≡ rows.Begin = sym is ∙ same in cc) free) few))
  by_row rows.Enter is = λ free few.
      as_then t (λ same. let no : rows.Enter ≡ rows.Begin = sym is ∙ same in cc)
      (subst (λ (x : World). WithPart u x.control.part x.control.frame.hand x.control.frame.reply t.came t.made)
      (sym (next_is rows.Enter is))
      (outside u _ _ _ t.came t.made (done_now (λ same. let no : rows.Enter ≡ rows.Frame = sym is ∙ same in cc)
      (λ same. let no : rows.Enter ≡ rows.Begin = sym is ∙ same in cc) free few)))
  by_row rows.Go is = λ free few.
      as_then t (λ same. let no : rows.Go ≡ rows.Begin = sym is ∙ same in cc)
      (subst (λ (x : World). WithPart u x.control.part x.control.frame.hand x.control.frame.reply t.came t.made)
      (sym (next_is rows.Go is))
      (outside u _ _ _ t.came t.made (done_now (λ same. let no : rows.Go ≡ rows.Frame = sym is ∙ same in cc)
      (λ same. let no : rows.Go ≡ rows.Begin = sym is ∙ same in cc) free few)))
  by_row rows.End is = λ free few.
      as_then t (λ same. let no : rows.End ≡ rows.Begin = sym is ∙ same in cc)
      (subst (λ (x : World). WithPart u x.control.part x.control.frame.hand x.control.frame.reply t.came t.made)
      (sym (next_is rows.End is))
      (done_now (λ same. let no : rows.End ≡ rows.Frame = sym is ∙ same in cc)
      (λ same. let no : rows.End ≡ rows.Begin = sym is ∙ same in cc) free few))

  pub controller_goes_on : GoOn fixed (controller_next fixed w) (sitds_next fixed w t) (repeats_next fixed w again)
  controller_goes_on = by_row (controller_row w) refl
