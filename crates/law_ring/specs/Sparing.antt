-- Steps of a driver that spare what is told of a ring's endpoints (EHCI 1.0, 4.8 and 4.10): the overlay of a queue head and what it says of its
-- endpoint stay, whatever its link is, and so do published qTDs and their buffers.
--     SameHand hand later          what is in hand tells the same, as where a link was stored over the queue head that was read
--     SameOverlay q r              the queue head r has the overlay and the endpoint of q
--     SparesHead parts now n       the queue head at n has them still
--     SparesElement parts now n e  the qTD at e is as it was, and so are the bytes of its buffer
use Rattle.std.specs.Prelude.{◌≡◌, ℕ, List, Some}
use Rattle.qh_qtd.specs.declared.qtd.Qtd.{Qtd}
use Rattle.qh_qtd.specs.declared.queue_head.Qh.{Qh}
use Rattle.law_structures.specs.lent_structures.Structures.{QueueHead, Element, StructureSets}
use Rattle.law_ring.specs.Hand.{Hand}
use Rattle.law_ring.specs.Effects.{buffer_of}
use Rattle.law_ring.specs.Told.{hand_bytes, hand_toggle, endpoint_of}

pub record SameHand (hand later : Hand) : Type 0 where
  pub bytes : (n : ℕ) (q : Qh) (e : ℕ) (t : Qtd) (bs : List ℕ) → hand_bytes later n q e t bs ≡ hand_bytes hand n q e t bs
  pub toggle : (n : ℕ) (q : Qh) → hand_toggle later n q ≡ hand_toggle hand n q

pub record SameOverlay (q r : Qh) : Type 0 where
  pub token : r.token ≡ q.token
  pub current : r.current ≡ q.current
  pub offset : r.offset ≡ q.offset
  pub endpoint : endpoint_of r ≡ endpoint_of q

pub record HasOverlay (now : StructureSets) (n : ℕ) (q : Qh) : Type 0 where
  pub queue : Qh
  pub here : now n n ≡ Some (QueueHead queue)
  pub overlay : SameOverlay q queue

abbrev pub SparesHead : StructureSets → StructureSets → ℕ → Type 0
SparesHead parts now n = (q : Qh) → parts n n ≡ Some (QueueHead q) → HasOverlay now n q

pub record SparesElement (parts now : StructureSets) (n e : ℕ) : Type 0 where
  pub element : (t : Qtd) → parts n e ≡ Some (Element t) → now n e ≡ Some (Element t)
  pub bytes : (t : Qtd) → parts n e ≡ Some (Element t) → buffer_of (now n) t ≡ buffer_of (parts n) t
