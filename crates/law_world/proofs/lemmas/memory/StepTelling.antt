-- What memory and a hand tell of the queues is the same, where only links of queue heads differ.
use Rattle.std.proofs.Common.{◌≡◌, ℕ, refl, subst}
use Rattle.law_world.proofs.Common.{hand_tells}
use Rattle.law_controller.proofs.Common.{same_hand as hand_itself}
use Rattle.link_words.specs.declared.fields.LinkBits.{LinkBits}
use Rattle.law_structures.specs.lent_structures.Sound.{buffer_name}
use Rattle.law_structures.specs.lent_structures.Structures.{StructureSets}
use Rattle.law_ring.specs.Hand.{Hand}
use Rattle.law_ring.specs.Sparing.{SameHand, SparesHead, SparesElement}
use Rattle.law_ring.specs.Stores.{hand_linked}
use Rattle.law_ring.specs.Told.{Endpoint, HasEndpoint, SameTold}
use Rattle.law_ring.proofs.SparedSparing.{linked_hand_is_same, spared_is_told, spared_has_toggle}
use Rattle.law_frames.specs.FrameHand.{FrameHand, queue_hand, Nothing, OfQueue, OfSettled, OfItd, OfSitd}
use Rattle.law_controller.specs.frame_stores.Stores.{frame_linked}
use Rattle.law_world.specs.memory.SameQueues.{IsRelinked, IsSameQueue}
use Rattle.law_world.specs.memory.Steps.{FrameStays, same_frame, linked_frame}
use Rattle.law_world.specs.memory.StepLaws.{StaysTellsTheSame}

-- ---- the hands

linked_queue : (n : ℕ) (l : LinkBits) (frame : FrameHand) → hand_linked n l (queue_hand frame) ≡ queue_hand (frame_linked n l frame)
linked_queue n l Nothing = refl
linked_queue n l (OfQueue c made) = refl
linked_queue n l (OfSettled c s made) = refl
linked_queue n l (OfItd c) = refl
linked_queue n l (OfSitd c) = refl

frame_tells : (frame later : FrameHand) → FrameStays frame later → SameHand (queue_hand frame) (queue_hand later)
frame_tells frame _ same_frame = hand_itself (queue_hand frame)
frame_tells frame _ (linked_frame n l) =
    subst (SameHand (queue_hand frame)) (linked_queue n l frame) (linked_hand_is_same n l (queue_hand frame))

-- ---- the structures

module _ (parts now : StructureSets) (same : (n : ℕ) → IsSameQueue n (parts n) (now n)) where
  pub spares_head : (n : ℕ) → SparesHead parts now n
  spares_head n q here =
      let h : IsRelinked (now n) n q = (same n).head q here in
      record {
        queue = record q { link = h.link };
        here = h.here;
        overlay = record { token = refl; current = refl; offset = refl; endpoint = refl };
      }

  pub spares_element : (n e : ℕ) → SparesElement parts now n e
  spares_element n e = record { element = λ t here. (same n).elements e t here; bytes = λ t here. (same n).bytes (buffer_name t) }

  named : (n : ℕ) (x : Endpoint) → HasEndpoint parts n x → HasEndpoint now n x
  named n x k =
      let h : IsRelinked (now n) n k.queue = (same n).head k.queue k.head in
      record { queue = record k.queue { link = h.link }; head = h.here; is = k.is }

  pub tells_same : (hand later : Hand) → SameHand hand later → SameTold hand parts later now
  tells_same hand later k = record {
    bytes = λ n e xs told. spared_is_told hand later parts now n e xs k (spares_head n) (spares_element n e) told;
    toggle = λ n b has. spared_has_toggle hand later parts now n b k (spares_head n) has;
    endpoint = named;
  }

pub stays_tells_the_same : StaysTellsTheSame
stays_tells_the_same s t k = (
  tells_same s.parts t.parts k.parts s.hand t.hand (hand_tells s.hand t.hand k.hand),
  tells_same s.parts t.parts k.parts (queue_hand s.frame) (queue_hand t.frame) (frame_tells s.frame t.frame k.frame),
)
