-- What an event of the controller does to the streams of a driver's queues, where it walks a ring and the frames (EHCI 1.0, 4.6 to 4.10
-- and 4.12): it is told of the structures of the queues alone, and what either walk has in hand of a queue head is one hand.
--     BothStreams        each event does so; a transaction beside the queue heads is one of an isochronous descriptor
--     bytes_of_both      the bytes that an event moved of the queue head at n
--     BothAdds           they are added to the end of what was moved of all published qTDs of that queue head
--     EventsSendWhole         the qTDs of an OUT endpoint are sent whole, and in turn
use Rattle.std.specs.Prelude.{ℕ, Bool, List, [], Option}
use Rattle.usb_base.specs.declared.packets.Ask.{Ask}
use Rattle.usb_base.specs.declared.packets.Reply.{Reply}
use Rattle.drv_table.specs.DriverContent.{DriverContent}
use Rattle.hc_core.specs.Controller.{Content}
use Rattle.law_structures.specs.lent_structures.Structures.{StructureSets}
use Rattle.law_ring.specs.Hand.{Hand}
use Rattle.claims_base.specs.Controller.{Base}
use Rattle.law_ring.specs.QueueParts.{IsQueuePart}
use Rattle.law_ring.specs.Streams.{StreamEffect}
use Rattle.law_ring.specs.Order.{Accounts, bytes_of_effect, GoesOnInOrder}
use Rattle.law_ring.specs.OutPipes.{IsOut}
use Rattle.law_frames.specs.Met.{Kind}
use Rattle.law_frames.specs.FrameHand.{FrameHand}
use Rattle.law_frames.specs.FrameStreams.{IsIsoAsk}
use Rattle.law_controller.specs.frame_control.Both.{RunsBoth, BothEffect}
use Rattle.law_controller.specs.frame_control.Joined.{joined, BothStreamEffect, begun, moved}
use Rattle.law_queues.specs.whole_sends.Whole.{AreSentWhole}
use Rattle.law_descriptors.specs.Both.{both, parts_now}
use Rattle.law_descriptors.specs.PartLaws.{IsDescribing}

abbrev pub BothStreams : {W : Type 0} → (W → ℕ → Bool → W → Type 0) → (W → Ask → List ℕ → Reply → W → Type 0) → Type 0
BothStreams {W} begins transacts = (base : Base) (member : ℕ → Bool) (met : ℕ → Option Kind) (d : DriverContent)
    (descs parts : StructureSets) (hand : Hand) (frame : FrameHand) (c : Content)
    (wire after : W) (now : StructureSets) (later : Hand) (frame_later : FrameHand) → IsDescribing d descs parts
    → RunsBoth base member met (both descs parts) hand frame c
    → BothEffect begins transacts (both descs parts) c.control hand frame wire after now later frame_later
    → BothStreamEffect begins (IsIsoAsk (both descs parts)) transacts parts (joined hand frame) wire after (parts_now descs parts now)
    (joined later frame_later)

abbrev pub bytes_of_both : {W : Type 0} {begins : W → ℕ → Bool → W → Type 0} {Beside : Ask → Type 0}
    {transacts : W → Ask → List ℕ → Reply → W → Type 0} {parts : StructureSets} {hand : Hand}
    {wire after : W} {now : StructureSets} {later : Hand} → ℕ → BothStreamEffect begins Beside transacts parts hand wire after now later
    → List ℕ
bytes_of_both n (begun index allowed asked told) = []
bytes_of_both n (moved z) = bytes_of_effect n z

abbrev pub BothAdds : {W : Type 0} → (W → ℕ → Bool → W → Type 0) → (W → Ask → List ℕ → Reply → W → Type 0) → Type 0
BothAdds {W} begins transacts = (base : Base) (member : ℕ → Bool) (met : ℕ → Option Kind) (descs parts : StructureSets) (hand : Hand)
    (frame : FrameHand) (c : Content)
    (wire after : W) (now : StructureSets) (later : Hand) (frame_later : FrameHand)
    → RunsBoth base member met (both descs parts) hand frame c
    → BothEffect begins transacts (both descs parts) c.control hand frame wire after now later frame_later
    → (z : BothStreamEffect begins (IsIsoAsk (both descs parts)) transacts parts (joined hand frame) wire after
    (parts_now descs parts now) (joined later frame_later))
    → (order : ℕ → ℕ) (place : ℕ) (out : List ℕ) (n : ℕ) (xs : List ℕ) → IsQueuePart n (parts n)
    → Accounts order place out (joined hand frame) parts n xs
    → GoesOnInOrder order out (joined later frame_later) (parts_now descs parts now) n xs (bytes_of_both n z)

abbrev pub EventsSendWhole : {W : Type 0} → (W → ℕ → Bool → W → Type 0) → (W → Ask → List ℕ → Reply → W → Type 0) → Type 0
EventsSendWhole {W} begins transacts = (base : Base) (member : ℕ → Bool) (met : ℕ → Option Kind) (d : DriverContent)
    (descs parts : StructureSets) (hand : Hand) (frame : FrameHand) (c : Content)
    (wire after : W) (now : StructureSets) (later : Hand) (frame_later : FrameHand) → IsDescribing d descs parts
    → RunsBoth base member met (both descs parts) hand frame c
    → BothEffect begins transacts (both descs parts) c.control hand frame wire after now later frame_later
    → (order : ℕ → ℕ) (place : ℕ) (out : List ℕ) (n : ℕ) (told : List ℕ) → IsQueuePart n (parts n) → IsOut (parts n)
    → Accounts order place out (joined hand frame) parts n told
    → AreSentWhole order out (joined hand frame) n (parts n) → AreSentWhole order out (joined later frame_later) n
    (parts_now descs parts now n)
