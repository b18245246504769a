-- Where both walks are over structures that memory tells, each event of the controller writes words of its own alone.
use Rattle.std.proofs.Common.{◌≡◌, ◌≢◌, ℕ, ◌%◌, Bool, true, false, if◌then◌else◌, List, Option, Some, None, ap, refl, sym, subst, ◌∙◌}
use Rattle.std.proofs.Common.{⊎_elim, inl, inr}
use Rattle.std.specs.Prelude.{◌⊎◌, ◌&&◌, not, IfSome}
use Rattle.law_controller.proofs.Common.{ring_off}
use Rattle.usb_base.specs.declared.packets.Ask.{Ask}
use Rattle.usb_base.specs.declared.packets.Reply.{Reply}
use Rattle.word_mem.specs.Memory.{Mem, reaches, word_at}
use Rattle.op_registers.specs.RegisterFile.{RegisterFile}
use Rattle.op_registers.specs.Events.{after_begin}
use Rattle.qh_qtd.specs.declared.queue_head.Qh.{Qh}
use Rattle.hc_copy.specs.Overlay.{settled_queue}
use Rattle.hc_iso.specs.declared.held.IsoEnd.{IsoEnd}
use Rattle.periodic_walk.specs.declared.state.Hand.{Hand as FrameCopy}
use Rattle.periodic_walk.specs.Walk.{Walk as FrameWalk, is_over}
use Rattle.hc_core.specs.declared.controller.ControllerRow.{ControllerRow}
use Rattle.hc_core.specs.declared.controller.ControllerRow.TheVariants as rows
use Rattle.hc_core.specs.declared.controller.MicroframePart.{MicroframePart}
use Rattle.hc_core.specs.declared.controller.MicroframePart.TheVariants.{Over, Periodic, Asynchronous}
use Rattle.hc_core.specs.Controller.{Content, microframe_row, part_row, element_address, begun_at, began, entered}
use Rattle.hc_core.specs.Controller.{frame_place}
use Rattle.hc_core.specs.Controller.{walk_place, HasRow}
use Rattle.claims_base.specs.Controller.{Base}
use Rattle.claims_world.specs.Reach.{QueueAt, ItdAt, SitdAt, Reaches}
use Rattle.claims_world.specs.Reach as reach
use Rattle.claims_world.specs.Owners.{IsControllers}
use Rattle.law_structures.specs.lent_structures.Structures.{QueueHead, StructureSets, Tells}
use Rattle.law_structures.specs.lent_structures.Sound.{IsSoundQueue, IsMember}
use Rattle.law_ring.specs.Hand.{Copy, Hand, Empty, Copied, Settled, Stale, held_of, settled_queue_of}
use Rattle.law_ring.specs.Ring.{IsInHand}
use Rattle.law_frames.specs.Met.{Kind, AQueue, IsMetQueue}
use Rattle.law_frames.specs.FrameHand.{FrameHand, Nothing, OfQueue, OfSettled, OfItd, OfSitd, frame_held, came, settled_in}
use Rattle.law_frames.specs.Frame.{IsInFrame, IsFrameWalk}
use Rattle.law_controller.specs.frame_control.Both.{RunsBoth}
use Rattle.law_controller.proofs.lemmas.event_places.Writing.{Stays}
use Rattle.law_world.specs.memory.Owners.{EndsActive, RunsWriteTheirOwn}
use Rattle.law_world.proofs.lemmas.memory.OwnPlaces.{IsQueueLeft, IsHandLeft}
use Rattle.law_world.proofs.lemmas.memory.OwnRing.{ring_left}
use Rattle.law_world.proofs.lemmas.memory.OwnFrames.{frame_left}
use Rattle.law_world.proofs.lemmas.memory.OwnHands.{copied, settled, itd_own, sitd_own}

-- ---- an event of the frames comes in the periodic part

frame_part : (runs : Bool) (r : RegisterFile) (f : FrameWalk) (part : MicroframePart)
    → (if runs then part_row r f part else rows.Idle) ≡ rows.Frame → part ≡ Periodic
frame_part false r f part is = absurd (cc is)
frame_part true r f Over is = absurd (cc is)
frame_part true r f Periodic is = refl
frame_part true r f Asynchronous is = absurd (ring_off r.async_enable is)

begun_stays : (at : ℕ) (c : Content) (b allowed : Bool) → Stays at c.memory (begun_at b allowed c).memory
begun_stays at c true allowed = refl
begun_stays at c false allowed = refl

same_head : (p q : Qh) → Some (QueueHead p) ≡ Some (QueueHead q) → p ≡ q
same_head p q is = cc is

module _ (base : Base) (member : ℕ → Bool) (met : ℕ → Option Kind) (parts : StructureSets) (hand : Hand) (frame : FrameHand) (c : Content)
    (k : RunsBoth base member met parts hand frame c) (ends : EndsActive c.control) (at : ℕ) (low : at % 4 ≡ 0) where
  tells : Tells c.memory parts
  tells = k.ring.tells

  -- ---- the ring

  member_sound : (n : ℕ) (q : Qh) → member n ≡ true → parts n n ≡ Some (QueueHead q) → IsSoundQueue (parts n) q
  member_sound n q on here =
      let m : IsMember member n (parts n) = k.ring.members n on in subst (IsSoundQueue (parts n))
      (same_head m.queue q (sym m.here ∙ here)) m.sound

  ring_own : (x : Hand) → c.control.walk.held ≡ held_of x → IsInHand member parts c.control.walk.reply x
      → IsControllers c at ⊎ IfSome (held_of x) (λ h. IsQueueLeft h c.control.walk.reply at)
  unfolding settled_queue
  ring_own Empty is in_hand = inr tt
  ring_own (Copied x) is in_hand =
      copied c parts tells at low x in_hand.here (reach.held (QueueAt x.at) _ (reach.of_ring _ is refl refl))
      (member_sound x.at x.queue in_hand.on in_hand.here)
      c.control.walk.reply
  ring_own (Settled x s) is in_hand =
      settled c parts tells at low x (in_hand.0).here (reach.held (QueueAt x.at) _ (reach.of_ring _ is refl refl))
      (member_sound x.at x.queue (in_hand.0).on (in_hand.0).here) c.control.walk.reply s
      (settled_queue_of x s) in_hand.1 refl refl refl refl
  ring_own (Stale n q) is in_hand =
      let halted = in_hand.halted in
      inr (record {
        overlay = λ goes. absurd (let g = goes refl in cc (g, halted));
        token = λ works. absurd (let w = (works refl).1 in cc (w, halted));
        bytes = λ o some. absurd (cc some);
      })

  ring_case : IsControllers c at ⊎ IfSome c.control.walk.held (λ h. IsQueueLeft h c.control.walk.reply at)
  ring_case =
      subst (λ o. IsControllers c at ⊎ IfSome o (λ h. IsQueueLeft h c.control.walk.reply at)) (sym k.ring.held)
      (ring_own hand k.ring.held k.ring.in_hand)

  -- ---- the frames

  met_sound : (n : ℕ) (q : Qh) → met n ≡ Some AQueue → parts n n ≡ Some (QueueHead q) → IsSoundQueue (parts n) q
  met_sound n q on here =
      let m : IsMetQueue met n (parts n) = k.members n AQueue on in
      subst (IsSoundQueue (parts n)) (same_head m.part_is.queue q (sym m.part_is.here ∙ here)) m.part_is.sound

  frame_own : c.control.part ≡ Periodic → (x : FrameHand) → c.control.frame.hand ≡ frame_held x
      → IsInFrame met parts c.control.frame.got c.control.frame.reply x
      → IsControllers c at ⊎ IfSome (frame_held x) (IsHandLeft c.control.frame.got c.control.frame.reply at)
  unfolding settled_queue
  frame_own part Nothing is in_hand = inr tt
  frame_own part (OfQueue x made) is in_hand =
      copied c parts tells at low x in_hand.here (reach.held (QueueAt x.at) _ (reach.of_frame _ part is refl refl))
      (met_sound x.at x.queue in_hand.on in_hand.here)
      c.control.frame.reply
  frame_own part (OfSettled x z made) is in_hand =
      settled c parts tells at low x (in_hand.0).here (reach.held (QueueAt x.at) _ (reach.of_frame _ part is refl refl))
      (met_sound x.at x.queue (in_hand.0).on (in_hand.0).here) c.control.frame.reply (came z) (settled_in x z)
      (in_hand.1).came_to refl refl refl refl
  frame_own part (OfItd x) is in_hand =
      itd_own c parts tells at low met c.control.frame.got x in_hand (reach.held (ItdAt x.held.at) _ (reach.of_frame _ part is refl refl))
      (λ e ended. ends x.held e part is ended)
  frame_own part (OfSitd x) is in_hand =
      sitd_own c parts tells at low met c.control.frame.reply x in_hand
      (reach.held (SitdAt x.held.at) _ (reach.of_frame _ part is refl refl))

  frame_case : c.control.part ≡ Periodic → IsControllers c at ⊎ IfSome c.control.frame.hand
      (IsHandLeft c.control.frame.got c.control.frame.reply at)
  frame_case part =
      let walk : IsFrameWalk met parts frame (frame_place c) = k.walk part in
      subst (λ o. IsControllers c at ⊎ IfSome o (IsHandLeft c.control.frame.got c.control.frame.reply at)) (sym walk.held)
      (frame_own part frame walk.held walk.in_hand)

  -- ---- an event

  module _ {W : Type 0} (begins : W → ℕ → Bool → W → Type 0) (transacts : W → Ask → List ℕ → Reply → W → Type 0) (wire : W) (new : Content)
      (after : W)
      (changed : word_at new.memory at ≢ word_at c.memory at) where
    same : (expected : Content) → new ≡ expected → Stays at c.memory expected.memory → IsControllers c at
    same expected is stays = absurd (changed (ap (λ (x : Content). word_at x.memory at) is ∙ stays))

    by_row : (row : ControllerRow) → microframe_row c.registers c.control ≡ row → HasRow begins transacts row c wire new after
        → IsControllers c at
    by_row rows.Idle is row = same c row.0 refl
    by_row rows.Begin is row =
        let stepped : Content = record c { registers = after_begin c.registers } in
        same (began row.allowed c) row.contents (begun_stays at stepped (reaches c.memory (element_address stepped.registers)) row.allowed)
    by_row rows.Frame is row =
        ⊎_elim (λ (own : IsControllers c at). own)
        (λ (left : IfSome c.control.frame.hand (IsHandLeft c.control.frame.got c.control.frame.reply at)).
        absurd (changed (frame_left transacts at (frame_place c) wire (frame_place new) after left row.walked)))
        (frame_case (frame_part c.registers.run c.registers c.control.frame c.control.part is))
    by_row rows.Enter is row = absurd (changed (ring_left transacts at (walk_place (entered c)) wire (walk_place new) after tt row.walked))
    by_row rows.Go is row =
        ⊎_elim (λ (own : IsControllers c at). own)
        (λ (left : IfSome c.control.walk.held (λ h. IsQueueLeft h c.control.walk.reply at)).
        absurd (changed (ring_left transacts at (walk_place c) wire (walk_place new) after left row.walked)))
        ring_case
    by_row rows.End is row = same _ row.0 refl

pub runs_write_their_own : {W : Type 0} (begins : W → ℕ → Bool → W → Type 0) (transacts : W → Ask → List ℕ → Reply → W → Type 0)
    → RunsWriteTheirOwn begins transacts
runs_write_their_own begins transacts = λ base member met parts hand frame c wire new after k ends row at low changed.
    by_row base member met parts hand frame c k ends at low begins transacts wire new after changed
    (microframe_row c.registers c.control) refl row
