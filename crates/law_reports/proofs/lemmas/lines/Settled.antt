-- Where nothing is told of a queue head, no transaction of it waits for its write-back, whichever walk made it.
use Rattle.std.proofs.Common.{◌≡◌, ◌≢◌, ℕ, Bool, Option, Some, ap, refl, sym, subst, ◌∙◌, inl}
use Rattle.law_controller.proofs.Common.{over_not_periodic, asynchronous_not_periodic}
use Rattle.qh_qtd.specs.declared.queue_head.Qh.{Qh}
use Rattle.hc_core.specs.declared.controller.MicroframePart.{MicroframePart}
use Rattle.hc_core.specs.declared.controller.MicroframePart.TheVariants.{Over, Periodic, Asynchronous}
use Rattle.hc_core.specs.Controller.{Content, walk_place, frame_place}
use Rattle.claims_base.specs.Controller.{Base}
use Rattle.law_structures.specs.lent_structures.Structures.{QueueHead, StructureSets}
use Rattle.law_ring.specs.Hand.{Copy, Hand, Empty, Copied, Settled, Stale}
use Rattle.law_ring.specs.Ring.{IsInHand}
use Rattle.law_frames.specs.FrameHand.{FrameHand, Nothing, OfQueue, OfSettled, OfItd, OfSitd, QueueSettlement}
use Rattle.law_frames.specs.Frame.{IsInFrame, IsFrameWalk}
use Rattle.law_frames.specs.Met.{Kind}
use Rattle.law_controller.specs.frame_control.Both.{RunsBoth}
use Rattle.law_controller.specs.frame_control.Joined.{joined}
use Rattle.law_queues.specs.cancelled_bytes.Cancelled.{SettlesElsewhere}

module _ (base : Base) (member : ℕ → Bool) (met : ℕ → Option Kind) (parts : StructureSets) (hand : Hand) (frame : FrameHand) (c : Content)
    (k : RunsBoth base member met parts hand frame c) (n : ℕ) (none : (q : Qh) → parts n n ≡ Some (QueueHead q) → ⊥) where
  away : (copy : Copy) → parts copy.at copy.at ≡ Some (QueueHead copy.queue) → copy.at ≢ n
  away copy here same = none copy.queue (ap (λ (i : ℕ). parts i i) (sym same) ∙ here)

  of_ring : (h : Hand) → hand ≡ h → SettlesElsewhere h n
  of_ring Empty is = tt
  of_ring (Copied copy) is = tt
  of_ring (Settled copy z) is =
      let both = subst (IsInHand member parts (walk_place c).walk.reply) is k.ring.in_hand in
      away copy both.0.here
  of_ring (Stale at q) is = tt

  -- outside the periodic part the frames have none
  in_periodic : (copy : Copy) (z : QueueSettlement) (made : ℕ) → frame ≡ OfSettled copy z made → (part : MicroframePart)
      → c.control.part ≡ part
      → c.control.part ≡ Periodic
  in_periodic copy z made is Periodic part = part
  in_periodic copy z made is Over part = absurd (some (sym is ∙ k.outside (inl (λ periodic. over_not_periodic (sym part ∙ periodic)))))
    where
      some : OfSettled copy z made ≡ Nothing → ⊥
      some e = cc
  in_periodic copy z made is Asynchronous part = absurd (some (sym is ∙ k.outside
      (inl (λ periodic. asynchronous_not_periodic (sym part ∙ periodic)))))
    where
      some : OfSettled copy z made ≡ Nothing → ⊥
      some e = cc

  of_frame : (f : FrameHand) → frame ≡ f → SettlesElsewhere (joined hand f) n
  of_frame Nothing is = of_ring hand refl
  of_frame (OfQueue copy made) is = tt
  of_frame (OfSettled copy z made) is =
      let walk : IsFrameWalk met parts frame (frame_place c) = k.walk (in_periodic copy z made is c.control.part refl) in
      let both = subst (IsInFrame met parts (frame_place c).walk.got (frame_place c).walk.reply) is walk.in_hand in
      away copy both.0.here
  of_frame (OfItd copy) is = of_ring hand refl
  of_frame (OfSitd copy) is = of_ring hand refl

  pub settles_elsewhere : SettlesElsewhere (joined hand frame) n
  settles_elsewhere = of_frame frame refl
