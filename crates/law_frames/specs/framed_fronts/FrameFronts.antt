-- How far the queue of an interrupt endpoint has gone along its qTDs, under the walk of the frames (EHCI 1.0, 4.6 and 4.10): as in a ring, the
-- front of a queue head goes on with each event of the walk, not past its tail, and a qTD that was halted stops the queue. It is so of each queue head,
-- whatever its link leads to, and whether the walk meets it or not, at any speed of the endpoint (4.12.2). Beside it there may be iTDs and siTDs.
--     AreMet met parts       whatever the walk may meet is as it is owed
--     FrameKeepsLinks        an event of the walk of the frames leaves it so that links lead to later qTDs only
--     FrameKeepsTail         .. and that they lead no further than the tail
--     FrameKeepsFront        .. leaves the front, or moves it on; a qTD that is done stands behind it from then on
--     FrameKeepsHalts        .. leaves it so that one that was halted stops the queue
--     FrameLeavesHalted      .. leaves all structures of a queue head that is halted
--     FramesKeepFront, FramesKeepHalts
--                            however many events follow each other
use Rattle.std.specs.Prelude.{◌≡◌, ℕ, true, List, Option, Some}
use Rattle.usb_base.specs.declared.packets.Ask.{Ask}
use Rattle.usb_base.specs.declared.packets.Reply.{Reply}
use Rattle.qh_qtd.specs.declared.queue_head.Qh.{Qh}
use Rattle.async_walk.specs.declared.state.WalkStep.{WalkStep}
use Rattle.periodic_walk.specs.Walk.{Walk}
use Rattle.periodic_walk.specs.Place.{FramePlace}
use Rattle.law_structures.specs.lent_structures.Structures.{QueueHead, StructureSets}
use Rattle.law_ring.specs.Front.{LinksRise, LinksWithin, HasFront, FrontGoesOn}
use Rattle.law_ring.specs.Halted.{HaltStops}
use Rattle.law_frames.specs.Met.{Kind, IsMetAs}
use Rattle.law_frames.specs.FrameHand.{FrameHand}
use Rattle.law_frames.specs.Frame.{IsInFrame, IsFrame}
use Rattle.law_frames.specs.FrameEffects.{FrameEffect}
use Rattle.law_frames.specs.Walks.{HappenInTurn}

abbrev pub AreMet : (ℕ → Option Kind) → StructureSets → Type 0
AreMet met parts = (a : ℕ) (kind : Kind) → met a ≡ Some kind → IsMetAs met a (parts a) kind

-- ---- an event

abbrev pub FrameKeepsLinks : {W : Type 0} → (W → Ask → List ℕ → Reply → W → Type 0) → Type 0
FrameKeepsLinks {W} transacts = (met : ℕ → Option Kind) (parts : StructureSets) (w : Walk) (hand : FrameHand) (wire after : W) (now : StructureSets) (later : FrameHand) (kind : WalkStep)
    (order : ℕ → ℕ) (n : ℕ) (q : Qh) → AreMet met parts → IsInFrame met parts w.got w.reply hand → FrameEffect transacts parts w hand wire after now later kind
    → parts n n ≡ Some (QueueHead q) → LinksRise order (parts n) → LinksRise order (now n)

abbrev pub FrameKeepsTail : {W : Type 0} → (W → Ask → List ℕ → Reply → W → Type 0) → Type 0
FrameKeepsTail {W} transacts = (met : ℕ → Option Kind) (parts : StructureSets) (w : Walk) (hand : FrameHand) (wire after : W) (now : StructureSets) (later : FrameHand) (kind : WalkStep)
    (order : ℕ → ℕ) (tail n : ℕ) (q : Qh) → AreMet met parts → IsInFrame met parts w.got w.reply hand → FrameEffect transacts parts w hand wire after now later kind
    → parts n n ≡ Some (QueueHead q) → LinksWithin order tail (parts n) → LinksWithin order tail (now n)

abbrev pub FrameKeepsFront : {W : Type 0} → (W → Ask → List ℕ → Reply → W → Type 0) → Type 0
FrameKeepsFront {W} transacts = (met : ℕ → Option Kind) (parts : StructureSets) (w : Walk) (hand : FrameHand) (wire after : W) (now : StructureSets) (later : FrameHand) (kind : WalkStep)
    (order : ℕ → ℕ) (front : ℕ) (out : List ℕ) (n : ℕ) (q : Qh) → AreMet met parts → IsInFrame met parts w.got w.reply hand → FrameEffect transacts parts w hand wire after now later kind
    → parts n n ≡ Some (QueueHead q) → LinksRise order (parts n) → HasFront order front out n (parts n) → FrontGoesOn order front out n parts now

abbrev pub FrameKeepsHalts : {W : Type 0} → (W → Ask → List ℕ → Reply → W → Type 0) → Type 0
FrameKeepsHalts {W} transacts = (met : ℕ → Option Kind) (parts : StructureSets) (w : Walk) (hand : FrameHand) (wire after : W) (now : StructureSets) (later : FrameHand) (kind : WalkStep)
    (order : ℕ → ℕ) (front : ℕ) (out : List ℕ) (n : ℕ) (q : Qh) → AreMet met parts → IsInFrame met parts w.got w.reply hand → FrameEffect transacts parts w hand wire after now later kind
    → parts n n ≡ Some (QueueHead q) → HasFront order front out n (parts n) → HaltStops order out n (parts n) → HaltStops order out n (now n)

abbrev pub FrameLeavesHalted : {W : Type 0} → (W → Ask → List ℕ → Reply → W → Type 0) → Type 0
FrameLeavesHalted {W} transacts = (met : ℕ → Option Kind) (parts : StructureSets) (w : Walk) (hand : FrameHand) (wire after : W) (now : StructureSets) (later : FrameHand) (kind : WalkStep)
    (n : ℕ) (q : Qh) → AreMet met parts → IsInFrame met parts w.got w.reply hand → FrameEffect transacts parts w hand wire after now later kind
    → parts n n ≡ Some (QueueHead q) → q.token.halted ≡ true → now n ≡ parts n

-- ---- however many

abbrev pub FramesKeepFront : {W : Type 0} → (W → Ask → List ℕ → Reply → W → Type 0) → Type 0
FramesKeepFront {W} transacts = (met : ℕ → Option Kind) (parts : StructureSets) (hand : FrameHand) (wire after : W) (p new : FramePlace) (now : StructureSets) (later : FrameHand) (kinds : List WalkStep)
    (order : ℕ → ℕ) (front : ℕ) (out : List ℕ) (n : ℕ) (q : Qh) → IsFrame met parts hand p → HappenInTurn transacts met new after now later kinds p wire parts hand
    → parts n n ≡ Some (QueueHead q) → LinksRise order (parts n) → HasFront order front out n (parts n) → FrontGoesOn order front out n parts now

abbrev pub FramesKeepHalts : {W : Type 0} → (W → Ask → List ℕ → Reply → W → Type 0) → Type 0
FramesKeepHalts {W} transacts = (met : ℕ → Option Kind) (parts : StructureSets) (hand : FrameHand) (wire after : W) (p new : FramePlace) (now : StructureSets) (later : FrameHand) (kinds : List WalkStep)
    (order : ℕ → ℕ) (front : ℕ) (out : List ℕ) (n : ℕ) (q : Qh) → IsFrame met parts hand p → HappenInTurn transacts met new after now later kinds p wire parts hand
    → parts n n ≡ Some (QueueHead q) → LinksRise order (parts n) → HasFront order front out n (parts n) → HaltStops order out n (parts n) → HaltStops order out n (now n)
