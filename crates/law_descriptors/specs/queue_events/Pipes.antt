-- The pipes of IN endpoints at high speed, in the ring and in the frames, at an event of the controller (EHCI 1.0, 4.6 to 4.10; USB
-- 2.0, 8.6).
--     IsBothToldBy ..        what was told of the packets taken: none where a microframe began, else as the event of the walk tells
--     BothPipes ..           at most one packet more of one of the streams, and both sides of each pipe agree
--     AskedAreNear ..        the queue head that a walk may ask next is among those told: the copy of one that works
--     BothKeepPipes          each event does so, where that is so, and isochronous transactions ask none of the streams
use Rattle.std.specs.Prelude.{◌≡◌, ℕ, ◌≤◌, Bool, true, List, [], length, Option, Some}
use Rattle.usb_base.specs.declared.packets.Ask.{Ask}
use Rattle.usb_base.specs.declared.packets.Reply.{Reply}
use Rattle.hc_core.specs.Controller.{Content}
use Rattle.law_structures.specs.lent_structures.Structures.{QueueHead, StructureSets}
use Rattle.law_ring.specs.Hand.{Copy, Hand, Copied}
use Rattle.claims_base.specs.Controller.{Base}
use Rattle.law_ring.specs.Told.{Endpoint}
use Rattle.law_ring.specs.Bus.{Sender, IsStreamAsk, IsBus, KeepsSenders}
use Rattle.law_ring.specs.Pipes.{AreEndpoints, ArePiped, grown, IsToldBy}
use Rattle.law_frames.specs.Met.{Kind}
use Rattle.law_frames.specs.FrameHand.{FrameHand}
use Rattle.law_frames.specs.FrameStreams.{IsIsoAsk}
use Rattle.law_controller.specs.frame_control.Both.{RunsBoth, BothEffect}
use Rattle.law_controller.specs.frame_control.Joined.{joined, BothStreamEffect, begun, moved}
use Rattle.law_descriptors.specs.Both.{both, parts_now}

abbrev pub IsBothToldBy : {W : Type 0} {begins : W → ℕ → Bool → W → Type 0} {Beside : Ask → Type 0}
    {transacts : W → Ask → List ℕ → Reply → W → Type 0} {parts : StructureSets} {hand : Hand}
    {wire after : W} {now : StructureSets} {later : Hand} → (ℕ → Bool) → ℕ → List (List ℕ)
    → BothStreamEffect begins Beside transacts parts hand wire after now later → Type 0
IsBothToldBy streams at more (begun index allowed asked told) = more ≡ []
IsBothToldBy streams at more (moved z) = IsToldBy streams at more z

pub record BothPipes {W : Type 0} {begins : W → ℕ → Bool → W → Type 0} {Beside : Ask → Type 0}
    {transacts : W → Ask → List ℕ → Reply → W → Type 0} {parts : StructureSets} {hand : Hand}
    {wire after : W} {now : StructureSets} {later : Hand} (stream : ℕ → ℕ → Bool) (packets : ℕ → ℕ → List (List ℕ))
    (sender : W → ℕ → ℕ → Option Sender) (near streams : ℕ → Bool)
    (endpoint : ℕ → Endpoint) (acc : ℕ → List (List ℕ)) (z : BothStreamEffect begins Beside transacts parts hand wire after now later) :
    Type 0 where
  pub at : ℕ
  pub more : List (List ℕ)
  pub few : length more ≤ 1
  pub all : ArePiped stream packets sender near streams endpoint (grown acc at more) now later after
  pub told : IsBothToldBy streams at more z

abbrev pub AskedAreNear : (ℕ → Bool) → StructureSets → Hand → Type 0
AskedAreNear near parts hand = (copy : Copy) → hand ≡ Copied copy → parts copy.at copy.at ≡ Some (QueueHead copy.queue)
    → copy.queue.token.active ≡ true → near copy.at ≡ true

abbrev pub BothKeepPipes : {W : Type 0} → (W → ℕ → Bool → W → Type 0) → (W → Ask → List ℕ → Reply → W → Type 0) → Type 0
BothKeepPipes {W} begins transacts = (stream : ℕ → ℕ → Bool) (packets : ℕ → ℕ → List (List ℕ)) (sender : W → ℕ → ℕ → Option Sender)
    (near streams : ℕ → Bool) (endpoint : ℕ → Endpoint)
    (acc : ℕ → List (List ℕ)) (base : Base) (member : ℕ → Bool) (met : ℕ → Option Kind) (descs parts : StructureSets) (hand : Hand)
    (frame : FrameHand) (c : Content)
    (wire after : W) (now : StructureSets) (later : Hand) (frame_later : FrameHand) → AreEndpoints stream near streams endpoint
    → IsBus transacts stream sender
    → KeepsSenders begins stream sender → RunsBoth base member met (both descs parts) hand frame c
    → BothEffect begins transacts (both descs parts) c.control hand frame wire after now later frame_later
    → AskedAreNear near parts (joined hand frame)
    → ((ask : Ask) → IsIsoAsk (both descs parts) ask → IsStreamAsk stream ask → ⊥)
    → (z : BothStreamEffect begins (IsIsoAsk (both descs parts)) transacts parts (joined hand frame) wire after
    (parts_now descs parts now) (joined later frame_later))
    → ArePiped stream packets sender near streams endpoint acc parts (joined hand frame) wire
    → BothPipes stream packets sender near streams endpoint acc z
