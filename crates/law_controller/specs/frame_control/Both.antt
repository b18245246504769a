-- A ring of queue heads and the frames under the controller, at any event of a microframe (EHCI 1.0, 4.6 to 4.10 and 4.12.3): its periodic part walks the
-- chain of a frame, then its asynchronous part the ring, over structures that tell memory. Whom the walk of the frames may meet, `met` tells.
--     LeadToMet met words          each element of the frame list ends its frame's chain, or leads to one that is met
--     AreMet met parts             each that is met is sound
--     AreApart member met          nothing that is met is of the ring
--     RunsBoth base member met parts hand frame c
--                                  the walk of the ring is over a ring, and the walk of the frames over those that are met; `hand` is in the ring's hand in
--                                  the asynchronous part alone, `frame` in the frames' hand in the periodic part alone, while its
--                                  schedule is on
--     WalksFrames ..                an event is one of the walk of the frames
--     BothEffect ..                an event begins a microframe or is one of the ring's walk, with nothing in the frames' hand; or it is
--                                  one of the walk of the frames
--     ControlsBoth ..              an event of the controller with its effect
use Rattle.std.specs.Prelude.{◌≡◌, ◌≢◌, ℕ, ◌<◌, ◌⊎◌, Bool, false, List, slice_index, Option, Some}
use Rattle.usb_base.specs.declared.packets.Ask.{Ask}
use Rattle.usb_base.specs.declared.packets.Reply.{Reply}
use Rattle.link_words.specs.Links.{link_read}
use Rattle.async_walk.specs.declared.state.WalkStep.{WalkStep}
use Rattle.hc_core.specs.declared.controller.MicroframePart.TheVariants.{Periodic, Asynchronous}
use Rattle.hc_core.specs.Controller.{Control, Content, frame_place, walk_place}
use Rattle.law_structures.specs.lent_structures.Structures.{StructureSets}
use Rattle.law_ring.specs.Hand.{Hand, Empty}
use Rattle.claims_base.specs.Controller.{Base}
use Rattle.law_ring.specs.Ring.{IsRing}
use Rattle.law_controller.specs.controlled_streams.Control.{FrameList, ControlEffect}
use Rattle.law_frames.specs.Met.{Kind, LeadsTo, IsMetAs}
use Rattle.law_frames.specs.FrameHand.{FrameHand, Nothing}
use Rattle.law_frames.specs.Frame.{IsFrameWalk}
use Rattle.law_frames.specs.FrameEffects.{FrameEffect}

-- ---- whom the walk of the frames meets

abbrev pub LeadToMet : (ℕ → Option Kind) → List ℕ → Type 0
LeadToMet met words = (i : ℕ) → i < 1024 → LeadsTo met (link_read (slice_index words i))

abbrev pub AreMet : (ℕ → Option Kind) → StructureSets → Type 0
AreMet met parts = (n : ℕ) (kind : Kind) → met n ≡ Some kind → IsMetAs met n (parts n) kind

abbrev pub AreApart : (ℕ → Bool) → (ℕ → Option Kind) → Type 0
AreApart member met = (n : ℕ) (kind : Kind) → met n ≡ Some kind → member n ≡ false

-- ---- the controller over both

pub record RunsBoth (base : Base) (member : ℕ → Bool) (met : ℕ → Option Kind) (parts : StructureSets) (hand : Hand) (frame : FrameHand) (c : Content) : Type 0 where
  pub ring : IsRing base member parts hand (walk_place c)
  pub between : c.control.part ≢ Asynchronous → hand ≡ Empty
  pub list : FrameList parts base
  pub elements : LeadToMet met list.words
  pub members : AreMet met parts
  pub apart : AreApart member met
  pub walk : c.control.part ≡ Periodic → IsFrameWalk met parts frame (frame_place c)
  pub outside : (c.control.part ≢ Periodic) ⊎ (base.periodic_enable ≡ false) → frame ≡ Nothing

-- ---- an event, where the controller's content was `old` before it

pub record WalksFrames {W : Type 0} (transacts : W → Ask → List ℕ → Reply → W → Type 0) (parts : StructureSets) (old : Control) (hand : Hand) (frame : FrameHand) (wire after : W)
    (now : StructureSets) (later : Hand) (frame_later : FrameHand) : Type 0 where
  pub part : old.part ≡ Periodic
  pub kind : WalkStep
  pub effect : FrameEffect transacts parts old.frame frame wire after now frame_later kind
  pub nothing : hand ≡ Empty
  pub hand_stays : later ≡ hand

pub data BothEffect {W : Type 0} (begins : W → ℕ → Bool → W → Type 0) (transacts : W → Ask → List ℕ → Reply → W → Type 0) (parts : StructureSets) (old : Control) (hand : Hand)
    (frame : FrameHand) (wire after : W) (now : StructureSets) (later : Hand) (frame_later : FrameHand) : Type 0 where
  of_ring : ControlEffect begins transacts parts hand wire after now later → (frame ≡ Nothing) × (frame_later ≡ Nothing)
      → BothEffect begins transacts parts old hand frame wire after now later frame_later
  of_frame : WalksFrames transacts parts old hand frame wire after now later frame_later → BothEffect begins transacts parts old hand frame wire after now later frame_later

pub record ControlsBoth {W : Type 0} (begins : W → ℕ → Bool → W → Type 0) (transacts : W → Ask → List ℕ → Reply → W → Type 0) (base : Base) (member : ℕ → Bool) (met : ℕ → Option Kind)
    (parts : StructureSets) (hand : Hand) (frame : FrameHand) (old : Control) (wire after : W) (new : Content) : Type 0 where
  pub now : StructureSets
  pub later : Hand
  pub frame_later : FrameHand
  pub runs : RunsBoth base member met now later frame_later new
  pub effect : BothEffect begins transacts parts old hand frame wire after now later frame_later
