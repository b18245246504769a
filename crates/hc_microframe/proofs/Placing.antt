-- The place in the ring that is kept is that of the walk.
use Rattle.std.proofs.Common.{◌≡◌, ℕ, Bool, true, false, ◌||◌, not, Option, None, Some, ap, refl, sym, subst, ◌∙◌, if◌then◌else◌}
use Rattle.std.specs.Prelude.{unwrap_or}
use Rattle.word_mem.specs.Memory.{reaches}
use Rattle.op_registers.specs.RegisterFile.{RegisterFile}
use Rattle.op_registers.specs.Events.{after_begin}
use Rattle.hc_copy.specs.declared.held.Held.{Held}
use Rattle.async_walk.specs.declared.state.WalkStep.{WalkStep}
use Rattle.async_walk.specs.declared.state.WalkStep.TheVariants as steps
use Rattle.async_walk.specs.Walk.{cursor_address, held_address}
use Rattle.async_walk.specs.Rows.{WalkPlace}
use Rattle.periodic_walk.specs.declared.state.Hand.{Hand}
use Rattle.periodic_walk.specs.Walk.{Walk as FrameWalk, held_address as frame_address}
use Rattle.hc_core.specs.declared.controller.MicroframePart.{MicroframePart}
use Rattle.hc_core.specs.declared.controller.MicroframePart.TheVariants.{Over, Periodic, Asynchronous}
use Rattle.hc_core.specs.declared.controller.ControllerRow.{ControllerRow}
use Rattle.hc_core.specs.declared.controller.ControllerRow.TheVariants as rows
use Rattle.hc_core.specs.Controller.{Content, Control, microframe_row, part_row, enter_row, ring_row, element_address, begun_at, entered, hc_step, part_after, frame_step, walk_place, walk_step, either_address, kind_of, HasRow}
use Rattle.hc_microframe.specs.declared.state.State.{State}
use Rattle.hc_microframe.specs.Answers.{Told, Begins, Answers}
use Rattle.hc_microframe.specs.Microframe.{opening, IsEvent, is_end, Goes}
use Rattle.hc_microframe.specs.Microframe.Goes.{none, next}
use Rattle.hc_microframe.specs.Places.{RingStands, IsPlaced, PlaceIsKept}
use Rattle.hc_microframe.proofs.Ringing.{Tells, Leaves, ring_leaves}

-- ---- a row of the ring's walk

framing : (b async : Bool) → (if b then rows.Frame else enter_row async) ≡ rows.Go → ⊥
framing true async is = cc
framing false true is = cc
framing false false is = cc

ringing : (async : Bool) → ring_row async ≡ rows.Go → async ≡ true
ringing true is = refl
ringing false is = absurd cc

pub record IsGoing (r : RegisterFile) (part : MicroframePart) : Type 0 where
  pub part_is : part ≡ Asynchronous
  pub async : r.async_enable ≡ true

going_in : (r : RegisterFile) (frame : FrameWalk) (part : MicroframePart) → part_row r frame part ≡ rows.Go → IsGoing r part
going_in r frame Over is = absurd cc
going_in r frame Periodic is = absurd (framing _ r.async_enable is)
going_in r frame Asynchronous is = record { part_is = refl; async = ringing r.async_enable is }

running : (b : Bool) (row : ControllerRow) → (if b then row else rows.Idle) ≡ rows.Go → row ≡ rows.Go
running true row is = is
running false row is = absurd cc

going : (r : RegisterFile) (c : Control) → microframe_row r c ≡ rows.Go → IsGoing r c.part
going r c is = going_in r c.frame c.part (running r.run (part_row r c.frame c.part) is)

-- ---- each event

begun_placed : (b allowed : Bool) (c : Content) → IsPlaced c → IsPlaced (begun_at b allowed c)
begun_placed true allowed c is = record { ring = is.ring; frame = λ part. refl }
begun_placed false allowed c is = record { ring = is.ring; frame = is.frame }

not_ring : (step : WalkStep) → part_after Periodic step ≡ Asynchronous → ⊥
not_ring steps.Ended is = cc
not_ring steps.Fault is = cc
not_ring _ is = cc

row_placed : (c : Content) (wire : Told) (new : Content) (after : Told) (row : ControllerRow)
    → (row ≡ rows.Go → c.control.part ≡ Asynchronous) → IsPlaced c → HasRow Begins Answers row c wire new after → IsPlaced new
row_placed c wire new after rows.Idle part is row = subst IsPlaced (sym row.0) is
row_placed c wire new after rows.Begin part is row =
    let stepped : Content = record c { registers = after_begin c.registers } in
    subst IsPlaced (sym row.contents)
    (begun_placed (reaches c.memory (element_address stepped.registers)) row.allowed stepped (record { ring = is.ring; frame = is.frame }))
row_placed c wire new after rows.Frame part is row = record {
  ring = subst RingStands (sym row.ring) is.ring;
  frame = λ at. absurd (not_ring (frame_step c) (sym row.part ∙ at));
}
row_placed c wire new after rows.Enter part is row = record {
  ring = (ring_leaves Answers (walk_place (entered c)) wire (walk_place new) after tt row.walked).stands;
  frame = λ at. ap (λ (f : FrameWalk). f.hand) row.frame;
}
row_placed c wire new after rows.Go part is row = record {
  ring = (ring_leaves Answers (walk_place c) wire (walk_place new) after is.ring row.walked).stands;
  frame = λ at. ap (λ (f : FrameWalk). f.hand) row.frame ∙ is.frame (part refl);
}
row_placed c wire new after rows.End part is row = subst IsPlaced (sym row.0) (record { ring = tt; frame = λ at. refl })

event_placed : (c : Content) (wire : Told) (new : Content) (after : Told) → IsPlaced c → IsEvent c wire new after → IsPlaced new
event_placed c wire new after is event =
    row_placed c wire new after (microframe_row c.registers c.control) (λ go. (going c.registers c.control go).part_is) is event

goes_placed : (start : Content) (desk : Told) (n : ℕ) (c : Content) (t : Told) → IsPlaced start → Goes start desk n c t → IsPlaced c
goes_placed start desk _ _ _ is none = is
goes_placed start desk _ _ _ is (next n old before new after goes event unasked on) =
    event_placed old before new after (goes_placed start desk n old before is goes) event

-- ---- the last event

or_not : (a b : Bool) → b ≡ true → (a || not b) ≡ true → a ≡ true
or_not true b on is = refl
or_not false true on is = absurd cc
or_not false false on is = absurd cc

told_end : (step : WalkStep) (held : Option Held) (new : WalkPlace) → is_end (hc_step step) ≡ true → new.registers.run ≡ true
    → Tells step held new → cursor_address new.walk.cursor ≡ unwrap_or (held_address held) 0
told_end steps.Ended held new is runs tells = tells
told_end steps.Fault held new is runs tells = absurd cc
told_end _ held new is runs tells = absurd cc

chosen : (run async : Bool) (x y : ℕ) → run ≡ true → async ≡ true → (if not run then 0 else if async then x else y) ≡ x
chosen true true x y runs on = refl
chosen true false x y runs on = absurd cc
chosen false async x y runs on = absurd cc

no_frame : (hand : Option Hand) (ring : Option ℕ) → hand ≡ None → either_address (frame_address hand) ring ≡ ring
no_frame None ring is = refl
no_frame (Some h) ring is = absurd cc

pub place_is_kept : PlaceIsKept
place_is_kept s words desk n new left after m go runs =
    let old : Content = m.over.old in
    let begins : IsPlaced (opening s words) = record { ring = tt; frame = λ part. refl } in
    let placed : IsPlaced old = goes_placed (opening s words) desk m.over.earlier old m.over.before begins m.over.goes in
    let at : IsGoing old.registers old.control.part = going old.registers old.control go in
    let row : HasRow Begins Answers rows.Go old m.over.before m.end after =
    subst (λ (r : ControllerRow). HasRow Begins Answers r old m.over.before m.end after) go m.over.event
    in
    let leaves : Leaves old.registers.async_enable old.control.walk.held (walk_step old) (walk_place m.end) =
    ring_leaves Answers (walk_place old) m.over.before (walk_place m.end) after placed.ring row.walked
    in
    let last : (is_end (kind_of rows.Go old) || not m.end.registers.run) ≡ true =
    subst (λ (r : ControllerRow). (is_end (kind_of r old) || not m.end.registers.run) ≡ true) go m.over.last
    in
    let ends : cursor_address m.end.control.walk.cursor ≡ unwrap_or (held_address old.control.walk.held) 0 =
    told_end (walk_step old) old.control.walk.held (walk_place m.end) (or_not _ m.end.registers.run runs last) runs leaves.tells
    in
    let hand : m.held ≡ held_address old.control.walk.held =
    m.over.hand ∙ no_frame old.control.frame.hand (held_address old.control.walk.held) (placed.frame at.part_is)
    in
    ap (λ (state : State). state.cursor) m.state
    ∙ chosen m.end.registers.run m.end.registers.async_enable (unwrap_or m.held 0) s.cursor runs (leaves.async ∙ at.async)
    ∙ ap (λ (o : Option ℕ). unwrap_or o 0) hand ∙ sym ends
