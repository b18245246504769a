-- The pipe of an OUT endpoint at high speed, in the ring or in the frames, at an event of the controller (EHCI 1.0, 4.6 to 4.11; USB
-- 2.0, 8.5 and 8.6).
--     OutPipeGoesOn ..       no other of the queue heads that are told sends to the endpoint, and both sides of its pipe agree
--     BothKeepOutPipes       so it is after each event, with the bytes that it moved more known to be taken, where the queue head that is
--                            asked is among those told, and isochronous transactions send to none of the streams
use Rattle.std.specs.Prelude.{ℕ, Bool, List, ◌++◌, Option}
use Rattle.usb_base.specs.declared.packets.Ask.{Ask}
use Rattle.usb_base.specs.declared.packets.Reply.{Reply}
use Rattle.drv_table.specs.DriverContent.{DriverContent}
use Rattle.hc_core.specs.Controller.{Content}
use Rattle.law_structures.specs.lent_structures.Structures.{StructureSets}
use Rattle.law_ring.specs.Hand.{Hand}
use Rattle.claims_base.specs.Controller.{Base}
use Rattle.law_ring.specs.QueueParts.{IsQueuePart}
use Rattle.law_ring.specs.Told.{Endpoint}
use Rattle.law_ring.specs.OutBus.{Taker, IsOutAsk, IsOutBus, KeepsTakers}
use Rattle.law_ring.specs.OutPipes.{IsOutPipe}
use Rattle.law_ring.specs.OutPipeLaws.{IsOnlyEndpoint}
use Rattle.law_frames.specs.Met.{Kind}
use Rattle.law_frames.specs.FrameHand.{FrameHand}
use Rattle.law_frames.specs.FrameStreams.{IsIsoAsk}
use Rattle.law_controller.specs.frame_control.Both.{RunsBoth, BothEffect}
use Rattle.law_controller.specs.frame_control.Joined.{joined, BothStreamEffect}
use Rattle.law_descriptors.specs.Both.{both, parts_now}
use Rattle.law_descriptors.specs.PartLaws.{IsDescribing}
use Rattle.law_descriptors.specs.queue_events.Streams.{bytes_of_both}
use Rattle.law_descriptors.specs.queue_events.Pipes.{AskedAreNear}

pub record OutPipeGoesOn (stream : ℕ → ℕ → Bool) (o : Option Taker) (near : ℕ → Bool) (known : List ℕ) (parts : StructureSets) (hand : Hand)
    (n : ℕ) (x : Endpoint) : Type 0 where
  pub only : IsOnlyEndpoint stream near parts n x
  pub pipe : IsOutPipe o known parts hand n x

abbrev pub BothKeepOutPipes : {W : Type 0} → (W → ℕ → Bool → W → Type 0) → (W → Ask → List ℕ → Reply → W → Type 0) → Type 0
BothKeepOutPipes {W} begins transacts = (stream : ℕ → ℕ → Bool) (taker : W → ℕ → ℕ → Option Taker) (near : ℕ → Bool) (n : ℕ)
    (x : Endpoint) (known : List ℕ) (base : Base) (member : ℕ → Bool) (met : ℕ → Option Kind) (d : DriverContent)
    (descs parts : StructureSets) (hand : Hand) (frame : FrameHand) (c : Content) (wire after : W) (now : StructureSets) (later : Hand)
    (frame_later : FrameHand) → IsOutBus transacts stream taker → KeepsTakers begins stream taker → IsDescribing d descs parts
    → RunsBoth base member met (both descs parts) hand frame c
    → BothEffect begins transacts (both descs parts) c.control hand frame wire after now later frame_later
    → AskedAreNear near parts (joined hand frame)
    → ((ask : Ask) → IsIsoAsk (both descs parts) ask → IsOutAsk stream ask → ⊥)
    → (z : BothStreamEffect begins (IsIsoAsk (both descs parts)) transacts parts (joined hand frame) wire after
    (parts_now descs parts now) (joined later frame_later))
    → IsQueuePart n (parts n) → IsQueuePart n (parts_now descs parts now n)
    → OutPipeGoesOn stream (taker wire x.addr x.ep) near known parts (joined hand frame) n x
    → OutPipeGoesOn stream (taker after x.addr x.ep) near (known ++ bytes_of_both n z) (parts_now descs parts now)
    (joined later frame_later) n x
