-- What is sent whole stays so where links change, where less is out, and where new qTDs come behind; whichever walk meets the queue head.
use Rattle.std.proofs.Common.{◌≡◌, ℕ, ◌==◌, Bool, true, false, if◌then◌else◌, List, [], ◌∷◌, Some, refl, subst, ⊎_elim, inl, inr}
use Rattle.std.specs.Prelude.{◌⊎◌}
use Rattle.link_words.specs.declared.fields.LinkBits.{LinkBits}
use Rattle.qh_qtd.specs.declared.qtd.Qtd.{Qtd}
use Rattle.qh_qtd.specs.declared.queue_head.Qh.{Qh}
use Rattle.drv_table.specs.Words.{to_queue_head}
use Rattle.law_structures.specs.lent_structures.Structures.{QueueHead, Element, Structures, put}
use Rattle.law_structures.specs.lent_structures.Sound.{LeadsAmong, IsMember}
use Rattle.law_structures.proofs.lemmas.lent_structures.Altering.{found_queue}
use Rattle.law_structures.proofs.lemmas.lent_structures.Names.{put_same}
use Rattle.law_ring.specs.Hand.{Hand, Copied, Settled}
use Rattle.law_ring.specs.Front.{HadRest}
use Rattle.law_ring.specs.Order.{IsAmong}
use Rattle.law_ring.specs.QueueParts.{IsQueuePart}
use Rattle.law_frames.specs.FrameHand.{FrameHand, Nothing, OfQueue, OfSettled, OfItd, OfSitd, came}
use Rattle.law_controller.specs.controlled_streams.Returned.{staying, staying_of}
use Rattle.law_controller.specs.frame_control.Joined.{joined}
use Rattle.law_queues.specs.whole_sends.Whole.{EndsWhole, AreSentWhole}
use Rattle.law_queues.specs.whole_sends.Laws.{IsNewBehind}
use Rattle.law_queues.proofs.lemmas.whole_sends.Keeping.{linked_ends_whole, spared_is_whole, renumbered_is_whole, added_is_whole}
use Rattle.law_world.specs.memory.SameQueues.{IsRelinked, IsSameQueue}
use Rattle.law_world.specs.memory.Mixed.{Standing}
use Rattle.law_world.specs.memory.Steps.{HandStays, same_hand, linked_hand, FrameStays, same_frame, linked_frame, AreTold}
use Rattle.law_world.proofs.lemmas.memory.Alike.{queue_part}
use Rattle.law_reports.specs.lines.Lined.{in_hand}
use Rattle.law_reports.proofs.lemmas.lines.Same.{relinked_put}

-- ---- what is in hand

pub ring_ends : (n : ℕ) (hand later : Hand) (frame : FrameHand) → (EndsWhole hand n → EndsWhole later n) → EndsWhole (joined hand frame) n
    → EndsWhole (joined later frame) n
ring_ends n hand later Nothing ends is = ends is
ring_ends n hand later (OfQueue c made) ends is = is
ring_ends n hand later (OfSettled c z made) ends is = is
ring_ends n hand later (OfItd c) ends is = ends is
ring_ends n hand later (OfSitd c) ends is = ends is

hand_ends : (n : ℕ) (hand later : Hand) → HandStays hand later → EndsWhole hand n → EndsWhole later n
hand_ends n hand _ same_hand is = is
hand_ends n hand _ (linked_hand m l) is = linked_ends_whole m l hand n is

frame_ends : (n : ℕ) (hand later : Hand) (frame now : FrameHand) → FrameStays frame now → (EndsWhole hand n → EndsWhole later n)
    → EndsWhole (joined hand frame) n → EndsWhole (joined later now) n
frame_ends n hand later frame _ same_frame ends is = ring_ends n hand later frame ends is
frame_ends n hand later Nothing _ (linked_frame m l) ends is = ends is
frame_ends n hand later (OfQueue c made) _ (linked_frame m l) ends is = linked_ends_whole m l (Copied c) n is
frame_ends n hand later (OfSettled c z made) _ (linked_frame m l) ends is = linked_ends_whole m l (Settled c (came z)) n is
frame_ends n hand later (OfItd c) _ (linked_frame m l) ends is = ends is
frame_ends n hand later (OfSitd c) _ (linked_frame m l) ends is = ends is

pub told_ends : (s t : Standing) (n : ℕ) → AreTold s t → EndsWhole (in_hand s) n → EndsWhole (in_hand t) n
told_ends s t n k is = frame_ends n s.hand t.hand s.frame t.frame k.frame (hand_ends n s.hand t.hand k.hand) is

-- ---- links change

had_rest : (n : ℕ) (part now : Structures) → IsSameQueue n part now → (r : Qh) → now n ≡ Some (QueueHead r) → HadRest part n r
had_rest n part now same r here =
    let h : IsRelinked part n r = same.head_was r here in
    record {
      queue = record r { link = h.link };
      here = h.here;
      rest = record { token = refl; current = refl; next = refl; alternate = refl };
    }

pub relinked_whole : (order : ℕ → ℕ) (out : List ℕ) (hand later : Hand) (n : ℕ) (part now : Structures) → IsSameQueue n part now
    → (EndsWhole hand n → EndsWhole later n) → AreSentWhole order out hand n part → AreSentWhole order out later n now
relinked_whole order out hand later n part now same ends k =
    spared_is_whole order out out hand later n part now ends (λ b is. is) (had_rest n part now same)
    (λ a t here. same.elements_were a t here) k

-- ---- less is out

pub fewer_whole : (order : ℕ → ℕ) (out less : List ℕ) (hand : Hand) (n : ℕ) (part : Structures)
    → ((b : ℕ) → IsAmong b less → IsAmong b out) → AreSentWhole order out hand n part → AreSentWhole order less hand n part
fewer_whole order out less hand n part fewer k =
    spared_is_whole order out less hand hand n part part (λ is. is) fewer
    (λ r here. record { queue = r; here = here; rest = record { token = refl; current = refl; next = refl; alternate = refl } })
    (λ a t here. here) k

stays_by : (g : Bool) (e b : ℕ) (less es : List ℕ) → (IsAmong b less → IsAmong b es) → IsAmong b (if g then less else e ∷ less)
    → IsAmong b (e ∷ es)
stays_by true e b less es fewer among = inr (fewer among)
stays_by false e b less es fewer (inl same) = inl same
stays_by false e b less es fewer (inr among) = inr (fewer among)

stays_among : (goes : ℕ → Bool) (xs : List ℕ) (b : ℕ) → IsAmong b (staying goes xs) → IsAmong b xs
stays_among goes [] b is = is
stays_among goes (e ∷ es) b is = stays_by (goes e) e b (staying goes es) es (λ among. stays_among goes es b among) is

pub staying_among : (k : ℕ) (goes : ℕ → Bool) (out : ℕ → List ℕ) (n b : ℕ) → IsAmong b (staying_of k goes out n) → IsAmong b (out n)
staying_among k goes out n b is = by (n == k) is
  where
    by : (g : Bool) → IsAmong b (if g then staying goes (out n) else out n) → IsAmong b (out n)
    by true among = stays_among goes (out n) b among
    by false among = among

-- ---- with another link it is one of a ring

module _ (n : ℕ) (part : Structures) (p : IsQueuePart n part) where
  abbrev all : ℕ → Bool
  all m = true

  abbrev link : LinkBits
  link = to_queue_head 2

  abbrev ringed : Structures
  ringed = put (λ m. part) n n (QueueHead (record p.queue { link = link })) n

  same : IsSameQueue n part (put (λ m. part) n n (QueueHead (record p.queue { link = link })) n)
  same = relinked_put (λ m. part) n p.queue link p.here n

  leads : LeadsAmong all link
  leads = record { to = 64; leads = refl; on = refl }

  pub member : IsMember (λ m. true) n (put (λ m. part) n n (QueueHead (record p.queue { link = link })) n)
  member =
      let q : IsQueuePart n ringed = queue_part n part ringed same p in
      let is : record p.queue { link = link } ≡ q.queue =
      found_queue (ringed n) (record p.queue { link = link }) q.queue (put_same (λ m. part) n n (QueueHead
      (record p.queue { link = link })))
      q.here in
      record {
        queue = q.queue;
        here = q.here;
        link = subst (λ (r : Qh). LeadsAmong all r.link) is leads;
        sound = q.sound;
        elements = q.elements;
        own = q.own;
      }

  pub renumbered : (order order_now : ℕ → ℕ) (out : List ℕ) (hand : Hand)
      → ((a : ℕ) (t : Qtd) → part a ≡ Some (Element t) → order_now a ≡ order a)
      → AreSentWhole order out hand n part → AreSentWhole order_now out hand n ringed
  renumbered order order_now out hand alike k =
      renumbered_is_whole all order order_now out hand n ringed member (λ a t here. alike a t (same.elements_were a t here))
      (relinked_whole order out hand hand n part ringed same (λ is. is) k)

  -- other numbers, and new qTDs behind
  pub added : (order order_now : ℕ → ℕ) (out more : List ℕ) (hand : Hand) (now : Structures)
      → ((a : ℕ) (t : Qtd) → part a ≡ Some (Element t) → order_now a ≡ order a)
      → ((b : ℕ) (u : Qtd) → IsAmong b more → part b ≡ Some (Element u) → IsAmong b out)
      → ((r : Qh) → now n ≡ Some (QueueHead r) → HadRest part n r)
      → ((a : ℕ) (t : Qtd) → now a ≡ Some (Element t) → (part a ≡ Some (Element t)) ⊎ IsNewBehind order_now more part now a t)
      → AreSentWhole order out hand n part → AreSentWhole order_now more hand n now
  added order order_now out more hand now alike fewer head each k =
      added_is_whole all order_now out more hand n ringed now member (λ b u among here. fewer b u among (same.elements_were b u here))
      (λ r here.
      let had : HadRest part n r = head r here in
      let h : IsRelinked ringed n had.queue = same.head had.queue had.here in
      record {
        queue = record had.queue { link = h.link };
        here = h.here;
        rest = record { token = had.rest.token; current = had.rest.current; next = had.rest.next; alternate = had.rest.alternate };
      })
      (λ a t here.
      ⊎_elim (λ (was : part a ≡ Some (Element t)). inl (same.elements a t was))
      (λ (new : IsNewBehind order_now more part now a t).
      inr (record {
        behind = λ b u there. new.behind b u (same.elements_were b u there);
        idle = new.idle;
        published = new.published;
        next = new.next;
      })) (each a t here)) (renumbered order order_now out hand alike k)
