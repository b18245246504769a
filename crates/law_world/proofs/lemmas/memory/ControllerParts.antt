-- What an event of the controller leaves of a queue head: it stays sound, wherever it stands. What was unlinked in this microframe is still met while the walk of the frames
-- goes on, and a microframe that begins changes nothing.
use Rattle.std.proofs.Common.{◌≡◌, ℕ, Bool, true, false, ◌&&◌, not, if◌then◌else◌, Option, Some, None, ap, refl, sym, subst, ◌∙◌}
use Rattle.std.proofs.lemmas.Bool.{true≢false}
use Rattle.std.specs.Prelude.{is_some, List}
use Rattle.usb_base.specs.declared.packets.Ask.{Ask}
use Rattle.usb_base.specs.declared.packets.Reply.{Reply}
use Rattle.op_registers.specs.RegisterFile.{RegisterFile}
use Rattle.periodic_walk.specs.Walk.{Walk as FrameWalk, is_over}
use Rattle.hc_core.specs.declared.controller.MicroframePart.{MicroframePart}
use Rattle.hc_core.specs.declared.controller.MicroframePart.TheVariants.{Periodic}
use Rattle.hc_core.specs.declared.controller.ControllerRow.TheVariants as events
use Rattle.hc_core.specs.Controller.{Content, microframe_row, part_row, enter_row, walk_place}
use Rattle.drv_table.specs.DriverContent.{DriverContent}
use Rattle.law_structures.specs.lent_structures.Structures.{QueueHead, Isochronous, SplitIsochronous, Structures, StructureSets}
use Rattle.law_ring.specs.Hand.{Hand}
use Rattle.claims_base.specs.Controller.{Base}
use Rattle.law_controller.specs.controlled_streams.Control.{a_microframe, a_step}
use Rattle.law_frames.specs.Met.{Kind, AQueue, AnItd, ASitd, IsQueuePart, IsMetItd, IsMetSitd}
use Rattle.law_frames.specs.FrameHand.{FrameHand}
use Rattle.law_frames.proofs.Queues.{a_members_part_is_linked}
use Rattle.law_controller.specs.frame_control.Both.{AreMet, RunsBoth, BothEffect, of_ring, of_frame}
use Rattle.law_controller.proofs.lemmas.frame_control.Staying.{ring_leaves}
use Rattle.law_descriptors.specs.Both.{owns, both, descs_now, parts_now}
use Rattle.law_descriptors.specs.Meeting.{met}
use Rattle.law_world.specs.memory.framed_memory.Now.{IsFramedNow, recent_then, FramedNowAfter}
use Rattle.law_descriptors.proofs.lemmas.queue_events.Walks.{unmet_left}

-- ---- what is recent stays while the frames are walked

enter_same : (b : Bool) (recent : ℕ → Option Kind) → recent_then (enter_row b) recent ≡ recent
enter_same true recent = refl
enter_same false recent = refl

frame_same : (goes async : Bool) (recent : ℕ → Option Kind) → recent_then (if goes then events.Frame else enter_row async) recent ≡ recent
frame_same true async recent = refl
frame_same false async recent = enter_same async recent

part_same : (r : RegisterFile) (frame : FrameWalk) (part : MicroframePart) (recent : ℕ → Option Kind) → part ≡ Periodic → recent_then (part_row r frame part) recent ≡ recent
part_same r frame Periodic recent is = frame_same (r.periodic_enable && not (is_over frame)) r.async_enable recent
part_same r frame _ recent is = absurd (cc)

row_same : (runs : Bool) (r : RegisterFile) (frame : FrameWalk) (part : MicroframePart) (recent : ℕ → Option Kind) → part ≡ Periodic
    → recent_then (if runs then part_row r frame part else events.Idle) recent ≡ recent
row_same true r frame part recent is = part_same r frame part recent is
row_same false r frame part recent is = refl

module _ {W : Type 0} (begins : W → ℕ → Bool → W → Type 0) (transacts : W → Ask → List ℕ → Reply → W → Type 0) (base : Base) (member : ℕ → Bool) (recent : ℕ → Option Kind) (descs parts : StructureSets) (hand : Hand) (frame : FrameHand) (c : Content)
    (d : DriverContent) (wire after : W) (new : Content) (k : IsFramedNow base member recent descs parts hand frame c d)
    (a : FramedNowAfter begins transacts base member (recent_then (microframe_row c.registers c.control) recent) descs parts hand frame c d wire after new) where
  abbrev descs_then : StructureSets
  descs_then = descs_now descs a.now

  abbrev parts_then : StructureSets
  parts_then = parts_now descs parts a.now

  runs : RunsBoth base member (met d recent) (both descs parts) hand frame c
  runs = k.framed.runs

  -- those that are met while the frames are walked
  met_then : c.control.part ≡ Periodic → AreMet (met d recent) (both descs_then parts_then)
  met_then part = subst (λ (r : ℕ → Option Kind). AreMet (met d r) (both descs_then parts_then)) (row_same c.registers.run c.registers c.control.frame c.control.part recent part) a.framed.framed.runs.members

  module _ (n : ℕ) (off : owns descs n ≡ false) (sound : IsQueuePart n (parts n)) where
    was : both descs parts n ≡ parts n
    was = ap (λ (b : Bool). if b then descs n else parts n) off

    becomes : parts_then n ≡ a.now n
    becomes = ap (λ (b : Bool). if b then parts n else a.now n) off

    off_then : owns descs_then n ≡ false
    off_then = ap (λ (b : Bool). is_some ((if b then a.now n else descs n) n)) off ∙ off

    all : both descs_then parts_then n ≡ parts_then n
    all = ap (λ (b : Bool). if b then descs_then n else parts_then n) off_then

    on_ring : member n ≡ true → IsQueuePart n (parts_then n)
    on_ring on = subst (IsQueuePart n) all (a_members_part_is_linked member n (both descs_then parts_then n) (a.framed.framed.runs.ring.members n on)).part_is

    unmoved : a.now n ≡ both descs parts n → IsQueuePart n (parts_then n)
    unmoved same = subst (IsQueuePart n) (sym (becomes ∙ same ∙ was)) sound

    by_met : c.control.part ≡ Periodic → member n ≡ false → (o : Option Kind) → met d recent n ≡ o → IsQueuePart n (parts_then n)
    by_met part out None none =
        unmoved (unmet_left begins transacts base member (met d recent) (both descs parts) hand frame c wire after a.now a.later a.frame_later runs n a.effect out none)
    by_met part out (Some AQueue) on = subst (IsQueuePart n) all (met_then part n AQueue on).part_is
    by_met part out (Some AnItd) on =
        let m : IsMetItd (met d recent) n (both descs parts n) = runs.members n AnItd on in
        absurd (let e : Some (QueueHead sound.queue) ≡ Some (Isochronous m.itd) = sym sound.here ∙ ap (λ (part : Structures). part n) (sym was) ∙ m.here in cc)
    by_met part out (Some ASitd) on =
        let m : IsMetSitd (met d recent) n (both descs parts n) = runs.members n ASitd on in
        absurd (let e : Some (QueueHead sound.queue) ≡ Some (SplitIsochronous m.sitd) = sym sound.here ∙ ap (λ (part : Structures). part n) (sym was) ∙ m.here in cc)

    -- the walk of the ring leaves what isn't of the ring
    off_ring : member n ≡ false → BothEffect begins transacts (both descs parts) c.control hand frame wire after a.now a.later a.frame_later → IsQueuePart n (parts_then n)
    off_ring out (of_ring (a_microframe b) nothing) = unmoved (ap (λ (ps : StructureSets). ps n) b.parts_stay)
    off_ring out (of_ring (a_step w) nothing) =
        unmoved
        (ring_leaves transacts base member (both descs parts) hand (walk_place c) wire after a.now a.later w.kind n runs.ring w.effect (λ b on same. true≢false (sym on ∙ ap member (sym same) ∙ out)))
    off_ring out (of_frame w) = by_met w.part out (met d recent n) refl

    by_member : (b : Bool) → member n ≡ b → IsQueuePart n (parts_then n)
    by_member true on = on_ring on
    by_member false out = off_ring out a.effect

  by_owner : (n : ℕ) → IsQueuePart n (parts n) → (b : Bool) → owns descs n ≡ b → IsQueuePart n (parts_then n)
  by_owner n sound true on = subst (IsQueuePart n) (sym (ap (λ (b : Bool). if b then parts n else a.now n) on)) sound
  by_owner n sound false off = by_member n off sound (member n) refl

  pub sound_then : (n : ℕ) → IsQueuePart n (parts n) → IsQueuePart n (parts_now descs parts a.now n)
  sound_then n sound = by_owner n sound (owns descs n) refl
