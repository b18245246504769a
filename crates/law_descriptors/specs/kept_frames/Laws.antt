-- What an event of the controller keeps and leaves, where it walks a ring and the frames (EHCI 1.0, 3, 4.6 to 4.10 and 4.12.3).
--     EventsKeepBoth ..              it keeps structures
--     EventsLeaveWords ..             and leaves the words of them that no event writes, and what isn't Lent
--     RingLeavesFrames ..      an event of the ring's walk leaves the parts of what the frames meet
--     FramesLeaveRing ..       an event of the walk of the frames leaves those of the ring
use Rattle.std.specs.Prelude.{◌≡◌, ℕ, Bool, true, List, Option, Some}
use Rattle.usb_base.specs.declared.packets.Ask.{Ask}
use Rattle.usb_base.specs.declared.packets.Reply.{Reply}
use Rattle.hc_core.specs.Controller.{Content, microframe_row, HasRow}
use Rattle.law_controller.specs.aligned_copies.Aligned.{AreAligned}
use Rattle.law_structures.specs.lent_structures.Structures.{StructureSets}
use Rattle.law_ring.specs.Hand.{Hand}
use Rattle.claims_base.specs.Controller.{Base}
use Rattle.law_controller.specs.controlled_streams.Control.{ControlEffect}
use Rattle.law_frames.specs.Met.{Kind}
use Rattle.law_frames.specs.FrameHand.{FrameHand}
use Rattle.law_controller.specs.frame_control.Both.{RunsBoth, WalksFrames, BothEffect, ControlsBoth}
use Rattle.law_descriptors.specs.frame_keeps.Kept.{KeepsParts}
use Rattle.law_descriptors.specs.frame_keeps.Leaving.{LeavesStructures}

abbrev pub EventsKeepBoth : {W : Type 0} → (W → ℕ → Bool → W → Type 0) → (W → Ask → List ℕ → Reply → W → Type 0) → Type 0
EventsKeepBoth {W} begins transacts = (base : Base) (member : ℕ → Bool) (met : ℕ → Option Kind) (parts : StructureSets) (hand : Hand) (frame : FrameHand) (c : Content) (wire after : W)
    (now : StructureSets) (later : Hand) (frame_later : FrameHand) → RunsBoth base member met parts hand frame c
    → BothEffect begins transacts parts c.control hand frame wire after now later frame_later → KeepsParts parts now

abbrev pub EventsLeaveWords : {W : Type 0} → (W → ℕ → Bool → W → Type 0) → (W → Ask → List ℕ → Reply → W → Type 0) → Type 0
EventsLeaveWords {W} begins transacts = (base : Base) (member : ℕ → Bool) (met : ℕ → Option Kind) (parts : StructureSets) (hand : Hand) (frame : FrameHand) (c : Content) (wire : W)
    (new : Content) (after : W) → RunsBoth base member met parts hand frame c → AreAligned c
    → HasRow begins transacts (microframe_row c.registers c.control) c wire new after
    → ControlsBoth begins transacts base member met parts hand frame c.control wire after new → LeavesStructures parts c.memory new.memory

-- ---- each walk beside the other

abbrev pub RingLeavesFrames : {W : Type 0} → (W → ℕ → Bool → W → Type 0) → (W → Ask → List ℕ → Reply → W → Type 0) → Type 0
RingLeavesFrames {W} begins transacts = (base : Base) (member : ℕ → Bool) (met : ℕ → Option Kind) (parts : StructureSets) (hand : Hand) (frame : FrameHand) (c : Content) (wire after : W)
    (now : StructureSets) (later : Hand) (n : ℕ) (kind : Kind) → RunsBoth base member met parts hand frame c → ControlEffect begins transacts parts hand wire after now later
    → met n ≡ Some kind → now n ≡ parts n

abbrev pub FramesLeaveRing : {W : Type 0} → (W → Ask → List ℕ → Reply → W → Type 0) → Type 0
FramesLeaveRing {W} transacts = (base : Base) (member : ℕ → Bool) (met : ℕ → Option Kind) (parts : StructureSets) (hand : Hand) (frame : FrameHand) (c : Content) (wire after : W)
    (now : StructureSets) (later : Hand) (frame_later : FrameHand) (n : ℕ) → RunsBoth base member met parts hand frame c
    → WalksFrames transacts parts c.control hand frame wire after now later frame_later → member n ≡ true → now n ≡ parts n
