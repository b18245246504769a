-- An event of either walk over all structures.
use Rattle.std.proofs.Common.{◌≡◌, ◌≢◌, ℕ, Bool, true, false, List, Option, Some, None, ap, sym, subst, ◌∙◌, arith}
use Rattle.std.proofs.lemmas.Bool.{true≢false}
use Rattle.usb_base.specs.declared.packets.Ask.{Ask}
use Rattle.usb_base.specs.declared.packets.Reply.{Reply}
use Rattle.qh_qtd.specs.declared.queue_head.Qh.{Qh}
use Rattle.hc_core.specs.Controller.{Content, walk_place, frame_place}
use Rattle.law_structures.specs.lent_structures.Structures.{QueueHead, StructureSets}
use Rattle.law_ring.specs.Hand.{Hand}
use Rattle.claims_base.specs.Controller.{Base}
use Rattle.law_ring.specs.Front.{LinksRise, HasFront, FrontGoesOn}
use Rattle.law_ring.specs.Halted.{HaltStops}
use Rattle.law_ring.proofs.FrontGoing.{each_event_moves_the_front_on}
use Rattle.law_ring.proofs.Walking.{walk_keeps_halts as ring_halts, halted_queue_stays}
use Rattle.law_controller.specs.controlled_streams.Control.{a_microframe, a_step}
use Rattle.law_controller.specs.controlled_streams.Kept.{KeepsEach}
use Rattle.law_controller.proofs.lemmas.controlled_streams.Keeping.{kept_same}
use Rattle.law_controller.proofs.lemmas.controlled_streams.Events.{effect_keeps}
use Rattle.law_frames.specs.Met.{Kind}
use Rattle.law_frames.specs.FrameHand.{FrameHand}
use Rattle.law_controller.specs.frame_control.Both.{RunsBoth, BothEffect, of_ring, of_frame}
use Rattle.law_descriptors.proofs.lemmas.frame_keeps.Framing.{frame_keeps}
use Rattle.law_frames.proofs.lemmas.framed_fronts.Running.{front_kept, halts_kept, halted_left}
use Rattle.law_controller.proofs.lemmas.frame_control.Staying.{ring_leaves}
use Rattle.law_frames.proofs.Leaving.{unmet_stays}

-- ---- nothing changes

same_front : (order : ℕ → ℕ) (front : ℕ) (out : List ℕ) (n : ℕ) (parts now : StructureSets) → now ≡ parts → HasFront order front out n (parts n) → FrontGoesOn order front out n parts now
same_front order front out n parts now same k =
    subst (FrontGoesOn order front out n parts) (sym same)
    (record { front_now = front; goes_on = omega arith; has = k; still = λ a old. old; passed = λ a old. old; tail = λ c within old. old })

-- ---- an event of either

module _ {W : Type 0} (begins : W → ℕ → Bool → W → Type 0) (transacts : W → Ask → List ℕ → Reply → W → Type 0) (base : Base) (member : ℕ → Bool) (met : ℕ → Option Kind) (parts : StructureSets) (hand : Hand) (frame : FrameHand) (c : Content) (wire after : W) (now : StructureSets) (later : Hand) (frame_later : FrameHand) (k : RunsBoth base member met parts hand frame c) where
  pub all_kept : BothEffect begins transacts parts c.control hand frame wire after now later frame_later → KeepsEach parts now
  all_kept (of_ring (a_microframe b) nothing) n = kept_same parts now b.parts_stay n
  all_kept (of_ring (a_step w) nothing) n = effect_keeps transacts base member parts hand (walk_place c) wire after now later w.kind k.ring w.effect n
  all_kept (of_frame w) n =
      (frame_keeps transacts met parts frame (frame_place c) wire after now frame_later w.kind (record { tells = k.ring.tells; members = k.members; walk = k.walk w.part }) w.effect n).queues

  module _ (n : ℕ) (q : Qh) (here : parts n n ≡ Some (QueueHead q)) where
    pub front_on : (order : ℕ → ℕ) (front : ℕ) (out : List ℕ) → BothEffect begins transacts parts c.control hand frame wire after now later frame_later → LinksRise order (parts n) → HasFront order front out n (parts n)
        → FrontGoesOn order front out n parts now
    front_on order front out (of_ring (a_microframe b) nothing) rise has = same_front order front out n parts now b.parts_stay has
    front_on order front out (of_ring (a_step w) nothing) rise has =
        each_event_moves_the_front_on transacts member parts hand (walk_place c).walk.reply wire after now later w.kind order front out n k.ring.members k.ring.in_hand w.effect rise has
    front_on order front out (of_frame w) rise has =
        front_kept transacts met parts c.control.frame frame wire after now frame_later w.kind order front out n q k.members (k.walk w.part).in_hand w.effect here rise has

    pub halts_on : (order : ℕ → ℕ) (front : ℕ) (out : List ℕ) → BothEffect begins transacts parts c.control hand frame wire after now later frame_later → HasFront order front out n (parts n) → HaltStops order out n (parts n)
        → HaltStops order out n (now n)
    halts_on order front out (of_ring (a_microframe b) nothing) has stops = subst (λ (ps : StructureSets). HaltStops order out n (ps n)) (sym b.parts_stay) stops
    halts_on order front out (of_ring (a_step w) nothing) has stops =
        ring_halts transacts member parts hand (walk_place c).walk.reply wire after now later w.kind order front out n k.ring.members k.ring.in_hand w.effect has stops
    halts_on order front out (of_frame w) has stops =
        halts_kept transacts met parts c.control.frame frame wire after now frame_later w.kind order front out n q k.members (k.walk w.part).in_hand w.effect here has stops

    -- a queue head that is halted stays with all that it has
    pub halted_on : q.token.halted ≡ true → BothEffect begins transacts parts c.control hand frame wire after now later frame_later → now n ≡ parts n
    halted_on halted (of_ring (a_microframe b) nothing) = ap (λ (ps : StructureSets). ps n) b.parts_stay
    halted_on halted (of_ring (a_step w) nothing) = halted_queue_stays transacts member parts hand (walk_place c).walk.reply wire after now later w.kind n q k.ring.members k.ring.in_hand w.effect here halted
    halted_on halted (of_frame w) = halted_left transacts met parts c.control.frame frame wire after now frame_later w.kind n q k.members (k.walk w.part).in_hand w.effect here halted

  -- what neither walk may meet stays
  pub unmet_left : (n : ℕ) → BothEffect begins transacts parts c.control hand frame wire after now later frame_later → member n ≡ false → met n ≡ None → now n ≡ parts n
  unmet_left n (of_ring (a_microframe b) nothing) off unmet = ap (λ (ps : StructureSets). ps n) b.parts_stay
  unmet_left n (of_ring (a_step w) nothing) off unmet =
      ring_leaves transacts base member parts hand (walk_place c) wire after now later w.kind n k.ring w.effect (λ a on same. true≢false (sym on ∙ ap member (sym same) ∙ off))
  unmet_left n (of_frame w) off unmet =
      unmet_stays transacts met parts frame (frame_place c) wire after now frame_later w.kind (record { tells = k.ring.tells; members = k.members; walk = k.walk w.part }) w.effect n unmet
