-- Each event of the controller keeps the streams of the endpoints at high speed, whichever walk it is of (EHCI 1.0, 4.6 to 4.11; USB 2.0,
-- 8.5 and 8.6).
--     PipesGoOn ..         of each queue head these packets more moved, whose bytes the event moved, and both sides of each pipe agree
--     EventKeepsPipes      so it is after each event, where the queue head that is asked is met, and isochronous transactions ask none of
--                          the streams
use Rattle.std.specs.Prelude.{◌≡◌, ℕ, Bool, true, List, ◌++◌, Option}
use Rattle.std.specs.List.{concat}
use Rattle.usb_base.specs.declared.packets.Ask.{Ask}
use Rattle.usb_base.specs.declared.packets.Reply.{Reply}
use Rattle.drv_table.specs.DriverContent.{DriverContent}
use Rattle.hc_core.specs.Controller.{Content}
use Rattle.law_structures.specs.lent_structures.Structures.{StructureSets}
use Rattle.law_ring.specs.Hand.{Hand}
use Rattle.claims_base.specs.Controller.{Base}
use Rattle.law_ring.specs.QueueParts.{IsQueuePart}
use Rattle.law_ring.specs.Told.{Endpoint as Told}
use Rattle.law_ring.specs.Bus.{Sender, IsStreamAsk, IsBus, KeepsSenders}
use Rattle.law_ring.specs.OutBus.{Taker, IsOutAsk, IsOutBus, KeepsTakers}
use Rattle.law_frames.specs.Met.{Kind}
use Rattle.law_frames.specs.FrameHand.{FrameHand}
use Rattle.law_frames.specs.FrameStreams.{IsIsoAsk}
use Rattle.law_controller.specs.frame_control.Both.{RunsBoth, BothEffect}
use Rattle.law_controller.specs.frame_control.Joined.{joined, BothStreamEffect}
use Rattle.law_descriptors.specs.Both.{both, parts_now}
use Rattle.law_descriptors.specs.PartLaws.{IsDescribing}
use Rattle.law_descriptors.specs.queue_events.Streams.{bytes_of_both}
use Rattle.law_descriptors.specs.queue_events.Pipes.{AskedAreNear}
use Rattle.law_world.specs.memory.pipe_steps.Pipes.{PipesStand}

pub record PipesGoOn {W : Type 0} {begins : W → ℕ → Bool → W → Type 0} {Beside : Ask → Type 0}
    {transacts : W → Ask → List ℕ → Reply → W → Type 0} {parts : StructureSets} {hand : Hand} {wire after : W} {now : StructureSets}
    {later : Hand} (sends takes : ℕ → ℕ → Bool) (packets : ℕ → ℕ → List (List ℕ)) (sender : W → ℕ → ℕ → Option Sender)
    (taker : W → ℕ → ℕ → Option Taker) (near ins outs : ℕ → Bool) (ends : ℕ → Told) (acc : ℕ → List (List ℕ))
    (z : BothStreamEffect begins Beside transacts parts hand wire after now later) : Type 0 where
  pub moved : ℕ → List (List ℕ)
  pub adds : (n : ℕ) → concat (moved n) ≡ concat (acc n) ++ bytes_of_both n z
  pub pipes : PipesStand sends takes packets sender taker near ins outs ends moved now later after

abbrev pub EventKeepsPipes : {W : Type 0} → (W → ℕ → Bool → W → Type 0) → (W → Ask → List ℕ → Reply → W → Type 0)
    → (W → ℕ → ℕ → Option Sender) → (W → ℕ → ℕ → Option Taker) → Type 0
EventKeepsPipes {W} begins transacts sender taker = (sends takes : ℕ → ℕ → Bool) (packets : ℕ → ℕ → List (List ℕ))
    (near ins outs : ℕ → Bool) (ends : ℕ → Told) (acc : ℕ → List (List ℕ)) (base : Base) (member : ℕ → Bool) (met : ℕ → Option Kind)
    (d : DriverContent) (descs parts : StructureSets) (hand : Hand) (frame : FrameHand) (c : Content) (wire after : W)
    (now : StructureSets) (later : Hand) (frame_later : FrameHand) → IsBus transacts sends sender → KeepsSenders begins sends sender
    → IsOutBus transacts takes taker → KeepsTakers begins takes taker → IsDescribing d descs parts
    → RunsBoth base member met (both descs parts) hand frame c
    → BothEffect begins transacts (both descs parts) c.control hand frame wire after now later frame_later
    → AskedAreNear near parts (joined hand frame)
    → ((ask : Ask) → IsIsoAsk (both descs parts) ask → IsStreamAsk sends ask → ⊥)
    → ((ask : Ask) → IsIsoAsk (both descs parts) ask → IsOutAsk takes ask → ⊥)
    → ((n : ℕ) → outs n ≡ true → IsQueuePart n (parts n) × IsQueuePart n (parts_now descs parts now n))
    → (z : BothStreamEffect begins (IsIsoAsk (both descs parts)) transacts parts (joined hand frame) wire after
    (parts_now descs parts now) (joined later frame_later))
    → PipesStand sends takes packets sender taker near ins outs ends acc parts (joined hand frame) wire
    → PipesGoOn sends takes packets sender taker near ins outs ends acc z
