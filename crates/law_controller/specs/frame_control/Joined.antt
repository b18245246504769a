-- The streams of all queue heads, in the ring and in the frames, at any event of the controller (EHCI 1.0, 4.6 to 4.10 and 4.12): what
-- either walk has in hand of a queue head is one hand.
--     joined hand frame         that hand; outside the periodic part the frames have nothing, and in it the ring has nothing
--     BothStreamEffect ..       a microframe begins, and nothing is told otherwise; or an event of either walk does this to the streams
--     IsAsked member met c      the copy c is one of a queue head of the ring, or of the frames
--     WalksMoveStreams          each event of the controller does so
--     JoinedIsAsked             a copy in that hand is so
use Rattle.std.specs.Prelude.{◌≡◌, ℕ, ◌⊎◌, Bool, true, List, Option, Some}
use Rattle.usb_base.specs.declared.packets.Ask.{Ask}
use Rattle.usb_base.specs.declared.packets.Reply.{Reply}
use Rattle.hc_core.specs.Controller.{Content}
use Rattle.law_structures.specs.lent_structures.Structures.{StructureSets}
use Rattle.law_ring.specs.Hand.{Copy, Hand, Copied, Settled}
use Rattle.claims_base.specs.Controller.{Base}
use Rattle.law_ring.specs.Told.{SameTold}
use Rattle.law_ring.specs.Streams.{StreamEffect}
use Rattle.law_frames.specs.Met.{Kind, AQueue}
use Rattle.law_frames.specs.FrameHand.{came, FrameHand, Nothing, OfQueue, OfSettled, OfItd, OfSitd}
use Rattle.law_frames.specs.FrameStreams.{IsIsoAsk}
use Rattle.law_controller.specs.frame_control.Both.{RunsBoth, BothEffect}

abbrev pub joined : Hand → FrameHand → Hand
joined hand Nothing = hand
joined hand (OfQueue c made) = Copied c
joined hand (OfSettled c s made) = Settled c (came s)
joined hand (OfItd c) = hand
joined hand (OfSitd c) = hand

pub data BothStreamEffect {W : Type 0} (begins : W → ℕ → Bool → W → Type 0) (Beside : Ask → Type 0)
    (transacts : W → Ask → List ℕ → Reply → W → Type 0) (parts : StructureSets) (hand : Hand)
    (wire after : W) (now : StructureSets) (later : Hand) : Type 0 where
  begun : (index : ℕ) (allowed : Bool) → begins wire index allowed after → SameTold hand parts later now
      → BothStreamEffect begins Beside transacts parts hand wire after now later
  moved : StreamEffect Beside transacts parts hand wire after now later
      → BothStreamEffect begins Beside transacts parts hand wire after now later

abbrev pub WalksMoveStreams : {W : Type 0} → (W → ℕ → Bool → W → Type 0) → (W → Ask → List ℕ → Reply → W → Type 0) → Type 0
WalksMoveStreams {W} begins transacts = (base : Base) (member : ℕ → Bool) (met : ℕ → Option Kind) (parts : StructureSets) (hand : Hand)
    (frame : FrameHand) (c : Content) (wire after : W)
    (now : StructureSets) (later : Hand) (frame_later : FrameHand) → RunsBoth base member met parts hand frame c
    → BothEffect begins transacts parts c.control hand frame wire after now later frame_later
    → BothStreamEffect begins (IsIsoAsk parts) transacts parts (joined hand frame) wire after now (joined later frame_later)

abbrev pub IsAsked : (ℕ → Bool) → (ℕ → Option Kind) → Copy → Type 0
IsAsked member met c = (member c.at ≡ true) ⊎ (met c.at ≡ Some AQueue)

abbrev pub JoinedIsAsked : Type 0
JoinedIsAsked = (base : Base) (member : ℕ → Bool) (met : ℕ → Option Kind) (parts : StructureSets) (hand : Hand) (frame : FrameHand)
    (c : Content) (copy : Copy)
    → RunsBoth base member met parts hand frame c → joined hand frame ≡ Copied copy → IsAsked member met copy
