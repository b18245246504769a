-- What an event of the controller does to the streams of all queue heads, by the walk that it is of.
use Rattle.std.proofs.Common.{◌≡◌, ◌≢◌, ℕ, Bool, List, Option, ap, refl, sym, subst, ◌∙◌, inl, inr}
use Rattle.std.specs.Prelude.{◌⊎◌}
use Rattle.law_controller.proofs.Common.{over_not_periodic, asynchronous_not_periodic}
use Rattle.usb_base.specs.declared.packets.Ask.{Ask}
use Rattle.usb_base.specs.declared.packets.Reply.{Reply}
use Rattle.hc_core.specs.declared.controller.MicroframePart.{MicroframePart}
use Rattle.hc_core.specs.declared.controller.MicroframePart.TheVariants.{Over, Periodic, Asynchronous}
use Rattle.hc_core.specs.Controller.{Content, walk_place, frame_place}
use Rattle.law_structures.specs.lent_structures.Structures.{StructureSets}
use Rattle.law_ring.specs.Hand.{Copy, Hand, Empty, Copied}
use Rattle.claims_base.specs.Controller.{Base}
use Rattle.law_ring.specs.Ring.{IsCopied, IsInHand, IsRing}
use Rattle.law_ring.specs.Told.{SameTold}
use Rattle.law_ring.specs.Streams.{NoneBeside, StreamEffect}
use Rattle.law_ring.specs.Streams.StreamEffect.{same, aside, grows}
use Rattle.law_controller.specs.controlled_streams.Control.{BeginsMicroframe, ControlEffect, a_microframe, a_step}
use Rattle.law_frames.specs.Met.{Kind}
use Rattle.law_frames.specs.FrameHand.{FrameHand, Nothing, OfQueue, OfSettled, OfItd, OfSitd, queue_hand}
use Rattle.law_frames.specs.Frame.{IsCopiedQueue, IsInFrame, IsFrameWalk}
use Rattle.law_frames.specs.FrameStreams.{IsIsoAsk}
use Rattle.law_frames.proofs.Telling.{frame_moves_streams}
use Rattle.law_controller.specs.frame_control.Both.{RunsBoth, WalksFrames, BothEffect, of_ring, of_frame}
use Rattle.law_controller.specs.frame_control.Joined.{joined, BothStreamEffect, begun, moved, WalksMoveStreams, IsAsked, JoinedIsAsked}

-- ---- one hand

-- in the periodic part it is that of the frames
pub joined_frame : (hand : Hand) (frame : FrameHand) → hand ≡ Empty → joined hand frame ≡ queue_hand frame
joined_frame hand Nothing none = none
joined_frame hand (OfQueue c made) none = refl
joined_frame hand (OfSettled c s made) none = refl
joined_frame hand (OfItd c) none = none
joined_frame hand (OfSitd c) none = none

not_periodic : (part other : MicroframePart) → part ≡ other → (other ≡ Periodic → ⊥) → part ≢ Periodic
not_periodic part other is not same_one = not (sym is ∙ same_one)

-- ---- a ring has none beside its queue heads

with_beside : {W : Type 0} (Beside : Ask → Type 0) (transacts : W → Ask → List ℕ → Reply → W → Type 0) (parts : StructureSets)
    (hand : Hand) (wire after : W) (now : StructureSets) (later : Hand)
    → StreamEffect NoneBeside transacts parts hand wire after now later → StreamEffect Beside transacts parts hand wire after now later
with_beside Beside transacts parts hand wire after now later (same told quiet) = same told quiet
with_beside Beside transacts parts hand wire after now later (aside told ask out reply none made) = absurd none
with_beside Beside transacts parts hand wire after now later (grows m all g) = grows m all g

same_begun : (hand later : Hand) (parts now : StructureSets) → now ≡ parts → later ≡ hand → SameTold hand parts later now
same_begun hand later parts now all stays =
    subst (λ (ps : StructureSets). SameTold hand parts later ps) (sym all)
    (subst (λ (h : Hand). SameTold hand parts h parts) (sym stays)
    (record { bytes = λ n e xs told. told; toggle = λ n b has. has; endpoint = λ n x has. has }))

-- ---- an event

module _ {W : Type 0} (begins : W → ℕ → Bool → W → Type 0) (transacts : W → Ask → List ℕ → Reply → W → Type 0) (base : Base)
    (member : ℕ → Bool) (met : ℕ → Option Kind) (parts : StructureSets) (hand : Hand) (frame : FrameHand) (c : Content) (wire after : W)
    (now : StructureSets) (later : Hand) (frame_later : FrameHand) (k : RunsBoth base member met parts hand frame c) where
  abbrev Goal : Hand → Hand → Type 0
  Goal one two = BothStreamEffect begins (IsIsoAsk parts) transacts parts one wire after now two

  by_ring : ControlEffect begins transacts parts hand wire after now later → Goal hand later
  by_ring (a_microframe b) = begun b.index b.allowed b.asked (same_begun hand later parts now b.parts_stay b.hand_stays)
  by_ring (a_step w) = moved (with_beside (IsIsoAsk parts) transacts parts hand wire after now later w.streams)

  by_frame : WalksFrames transacts parts c.control hand frame wire after now later frame_later
      → Goal (joined hand frame) (joined later frame_later)
  by_frame w =
      let empty_later : later ≡ Empty = w.hand_stays ∙ w.nothing in
      subst (λ (h : Hand). Goal h (joined later frame_later)) (sym (joined_frame hand frame w.nothing))
      (subst (Goal (queue_hand frame)) (sym (joined_frame later frame_later empty_later))
      (moved (frame_moves_streams transacts met parts frame (frame_place c) wire after now frame_later w.kind
      (record { tells = k.ring.tells; members = k.members; walk = k.walk w.part }) w.effect)))

  by_walk : BothEffect begins transacts parts c.control hand frame wire after now later frame_later
      → Goal (joined hand frame) (joined later frame_later)
  by_walk (of_ring effect free) =
      subst (λ (f : FrameHand). Goal (joined hand f) (joined later frame_later)) (sym free.0)
      (subst (λ (f : FrameHand). Goal hand (joined later f)) (sym free.1) (by_ring effect))
  by_walk (of_frame w) = by_frame w

pub walks_move_streams : {W : Type 0} (begins : W → ℕ → Bool → W → Type 0) (transacts : W → Ask → List ℕ → Reply → W → Type 0)
    → WalksMoveStreams begins transacts
walks_move_streams begins transacts base member met parts hand frame c wire after now later frame_later k effect =
    by_walk begins transacts base member met parts hand frame c wire after now later frame_later k effect

-- ---- whose copy it is

abbrev as_copy : Hand → Copy → Copy
as_copy (Copied c) other = c
as_copy _ other = other

same_copy : (c d : Copy) → Copied c ≡ Copied d → c ≡ d
same_copy c d e = ap (λ (h : Hand). as_copy h c) e

module _ (base : Base) (member : ℕ → Bool) (met : ℕ → Option Kind) (parts : StructureSets) (hand : Hand) (frame : FrameHand) (c : Content)
    (copy : Copy) (k : RunsBoth base member met parts hand frame c) where
  of_member : hand ≡ Copied copy → IsAsked member met copy
  of_member is = let copied : IsCopied member parts copy = subst (IsInHand member parts (walk_place c).walk.reply) is k.ring.in_hand in
      inl copied.on

  -- outside the periodic part the frames have none
  in_periodic : (f : FrameHand) → frame ≡ f → (f ≡ Nothing → ⊥) → (part : MicroframePart) → c.control.part ≡ part
      → c.control.part ≡ Periodic
  in_periodic f is some Periodic part = part
  in_periodic f is some Over part = absurd (some (sym is ∙ k.outside (inl (not_periodic c.control.part Over part over_not_periodic))))
  in_periodic f is some Asynchronous part = absurd
      (some (sym is ∙ k.outside (inl (not_periodic c.control.part Asynchronous part asynchronous_not_periodic))))

  of_queue_head : (d : Copy) (count : ℕ) → frame ≡ OfQueue d count → d ≡ copy → IsAsked member met copy
  of_queue_head d count is same_one =
      let walk : IsFrameWalk met parts frame (frame_place c) = k.walk (in_periodic (OfQueue d count) is (λ e. cc) c.control.part refl) in
      let copied : IsCopiedQueue met parts d = subst (IsInFrame met parts (frame_place c).walk.got (frame_place c).walk.reply) is
      walk.in_hand in
      subst (IsAsked member met) same_one (inr copied.on)

  pub is_asked : (f : FrameHand) → frame ≡ f → joined hand f ≡ Copied copy → IsAsked member met copy
  is_asked Nothing is e = of_member e
  is_asked (OfQueue d count) is e = of_queue_head d count is (same_copy d copy e)
  is_asked (OfSettled d s count) is e = absurd cc
  is_asked (OfItd d) is e = of_member e
  is_asked (OfSitd d) is e = of_member e

pub joined_is_asked : JoinedIsAsked
joined_is_asked base member met parts hand frame c copy k e = is_asked base member met parts hand frame c copy k frame refl e
