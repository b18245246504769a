-- What both walks have in hand, as one hand, beside a step of the driver.
use Rattle.std.proofs.Common.{ℕ}
use Rattle.law_controller.proofs.Common.{same_hand as hand_itself}
use Rattle.link_words.specs.declared.fields.LinkBits.{LinkBits}
use Rattle.law_ring.specs.Hand.{Hand}
use Rattle.law_ring.specs.Sparing.{SameHand}
use Rattle.law_ring.specs.Stores.{hand_linked}
use Rattle.law_ring.specs.OutPipes.{IsUnmoved}
use Rattle.law_ring.proofs.SparedSparing.{linked_hand_is_same}
use Rattle.law_controller.proofs.lemmas.controlled_streams.Outs.{linked_is_unmoved}
use Rattle.law_controller.specs.frame_control.Joined.{joined}
use Rattle.law_controller.specs.frame_stores.Stores.{frame_linked}
use Rattle.law_frames.specs.FrameHand.{FrameHand, Nothing, OfQueue, OfSettled, OfItd, OfSitd, queue_hand}
use Rattle.law_world.specs.memory.Steps.{HandStays, same_hand, linked_hand, FrameStays, same_frame, linked_frame}

-- the same is told, and what isn't written back moved nothing still
pub record TellsAlike (hand later : Hand) : Type 0 where
  pub hands : SameHand hand later
  pub unmoved : (n : ℕ) → IsUnmoved hand n → IsUnmoved later n

pub alike_itself : (hand : Hand) → TellsAlike hand hand
alike_itself hand = record { hands = hand_itself hand; unmoved = λ n un. un }

pub alike_linked : (at : ℕ) (l : LinkBits) (hand : Hand) → TellsAlike hand (hand_linked at l hand)
alike_linked at l hand = record { hands = linked_hand_is_same at l hand; unmoved = λ n. linked_is_unmoved at l hand n }

of_hand : (hand later : Hand) → HandStays hand later → TellsAlike hand later
of_hand hand _ same_hand = alike_itself hand
of_hand hand _ (linked_hand n l) = alike_linked n l hand

-- where a link was stored
linked_frames : (hand later : Hand) (n : ℕ) (l : LinkBits) (frame : FrameHand) → TellsAlike hand later
    → TellsAlike (joined hand frame) (joined later (frame_linked n l frame))
linked_frames hand later n l Nothing k = k
linked_frames hand later n l (OfQueue c made) k = alike_linked n l (queue_hand (OfQueue c made))
linked_frames hand later n l (OfSettled c s made) k = alike_linked n l (queue_hand (OfSettled c s made))
linked_frames hand later n l (OfItd c) k = k
linked_frames hand later n l (OfSitd c) k = k

same_frames : (hand later : Hand) (frame : FrameHand) → TellsAlike hand later → TellsAlike (joined hand frame) (joined later frame)
same_frames hand later Nothing k = k
same_frames hand later (OfQueue c made) k = alike_itself (queue_hand (OfQueue c made))
same_frames hand later (OfSettled c s made) k = alike_itself (queue_hand (OfSettled c s made))
same_frames hand later (OfItd c) k = k
same_frames hand later (OfSitd c) k = k

pub stays_alike : (hand later : Hand) (frame frame_later : FrameHand) → HandStays hand later → FrameStays frame frame_later
    → TellsAlike (joined hand frame) (joined later frame_later)
stays_alike hand later frame _ stays same_frame = same_frames hand later frame (of_hand hand later stays)
stays_alike hand later frame _ stays (linked_frame n l) = linked_frames hand later n l frame (of_hand hand later stays)

-- where the ring's hand alone tells the same
pub ring_alike : (hand later : Hand) (frame : FrameHand) → TellsAlike hand later → TellsAlike (joined hand frame) (joined later frame)
ring_alike = same_frames
