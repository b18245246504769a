-- What is told of a queue whose structures are the same, but for the link of its queue head.
use Rattle.std.proofs.Common.{◌≡◌, ◌≢◌, ℕ, ◌*◌, true, List, length, slice_get, Some, ap, refl, sym, subst, ◌∙◌, ⊎_elim}
use Rattle.std.proofs.lemmas.Bool.{cases_eq}
use Rattle.std.proofs.lemmas.Option.{same_Some}
use Rattle.law_world.proofs.Common.{hand_tells}
use Rattle.law_controller.proofs.Common.{same_hand as hand_itself}
use Rattle.link_words.specs.declared.fields.LinkBits.{LinkBits}
use Rattle.qh_qtd.specs.declared.qtd.Qtd.{Qtd}
use Rattle.qh_qtd.specs.declared.queue_head.Qh.{Qh}
use Rattle.claims_report.specs.Streams.{has_stream}
use Rattle.drv_table.specs.declared.content.Endpoint.{Endpoint}
use Rattle.drv_table.specs.DriverContent.{DriverContent}
use Rattle.law_structures.specs.lent_structures.Structures.{Structure, QueueHead, Element, Buffer, StructureSets, put}
use Rattle.law_structures.specs.lent_structures.Sound.{buffer_name}
use Rattle.law_structures.proofs.lemmas.lent_structures.Altering.{found_queue}
use Rattle.law_structures.proofs.lemmas.lent_structures.Names.{put_beside, put_same, put_else, put_found}
use Rattle.law_ring.specs.Effects.{bytes_in}
use Rattle.law_ring.specs.Hand.{Hand, Copied, Settled}
use Rattle.law_ring.specs.Order.{IsPlaced, IsOrdered}
use Rattle.law_ring.specs.Sparing.{SameHand, SparesHead, SparesElement}
use Rattle.law_ring.proofs.SparedSparing.{linked_hand_is_same, accounts_are_spared}
use Rattle.law_frames.specs.FrameHand.{FrameHand, came, Nothing, OfQueue, OfSettled, OfItd, OfSitd}
use Rattle.law_controller.specs.controlled_streams.Reported.{IsReported}
use Rattle.law_controller.specs.frame_control.Joined.{joined}
use Rattle.law_queues.specs.harvest_laws.Told.{ToldStands}
use Rattle.law_queues.specs.harvest_laws.ToldLaws.{SparesDone}
use Rattle.law_queues.proofs.lemmas.harvest_laws.Standing.{spared_is_told}
use Rattle.law_world.specs.memory.SameQueues.{IsRelinked, IsSameQueue}
use Rattle.law_world.proofs.lemmas.memory.Alike.{same_itself}
use Rattle.law_world.specs.memory.Mixed.{Standing}
use Rattle.law_world.specs.memory.Steps.{FrameStays, same_frame, linked_frame, AreTold}
use Rattle.law_reports.specs.lines.Lined.{in_hand}

-- ---- what either walk has in hand

-- of a walk of the ring alone
pub ring_hand : (hand later : Hand) (frame : FrameHand) → SameHand hand later → SameHand (joined hand frame) (joined later frame)
ring_hand hand later Nothing k = k
ring_hand hand later (OfQueue c made) k = hand_itself (Copied c)
ring_hand hand later (OfSettled c z made) k = hand_itself (Settled c (came z))
ring_hand hand later (OfItd c) k = k
ring_hand hand later (OfSitd c) k = k

linked_tells : (n : ℕ) (frame : FrameHand) (hand later : Hand) (later_frame : FrameHand) → FrameStays frame later_frame
    → SameHand hand later
    → SameHand (joined hand frame) (joined later later_frame)
linked_tells n frame hand later _ same_frame k = ring_hand hand later frame k
linked_tells n Nothing hand later _ (linked_frame m l) k = k
linked_tells n (OfQueue c made) hand later _ (linked_frame m l) k = linked_hand_is_same m l (Copied c)
linked_tells n (OfSettled c z made) hand later _ (linked_frame m l) k = linked_hand_is_same m l (Settled c (came z))
linked_tells n (OfItd c) hand later _ (linked_frame m l) k = k
linked_tells n (OfSitd c) hand later _ (linked_frame m l) k = k

pub hands_tell : (s t : Standing) → AreTold s t → SameHand (in_hand s) (in_hand t)
hands_tell s t k = linked_tells 0 s.frame s.hand t.hand t.frame k.frame (hand_tells s.hand t.hand k.hand)

-- ---- one queue

pub same_at : (parts now : StructureSets) (n : ℕ) → now n ≡ parts n → IsSameQueue n (parts n) (now n)
same_at parts now n same = subst (IsSameQueue n (parts n)) (sym same) (same_itself n (parts n))

module _ (parts now : StructureSets) (n : ℕ) (same : IsSameQueue n (parts n) (now n)) where
  pub relinked_head : SparesHead parts now n
  relinked_head q here =
      let h : IsRelinked (now n) n q = same.head q here in
      record {
        queue = record q { link = h.link };
        here = h.here;
        overlay = record { token = refl; current = refl; offset = refl; endpoint = refl };
      }

  pub relinked_element : (e : ℕ) → SparesElement parts now n e
  relinked_element e = record { element = λ t here. same.elements e t here; bytes = λ t here. same.bytes (buffer_name t) }

  pub relinked_order : (order : ℕ → ℕ) (place : ℕ) → IsOrdered order place n (parts n) → IsOrdered order place n (now n)
  relinked_order order place o = record {
    next = λ a t b here leads. o.next a t b (same.elements_were a t here) leads;
    alternate = λ a t b here leads. o.alternate a t b (same.elements_were a t here) leads;
    queue = λ q here.
        let h : IsRelinked (parts n) n q = same.head_was q here in
        let p : IsPlaced order place (record q { link = h.link }) = o.queue (record q { link = h.link }) h.here in
        record { next = p.next; alternate = p.alternate; current = p.current };
    fresh = λ a t here on from. o.fresh a t (same.elements_were a t here) on from ∙ sym (ap length (same.bytes (buffer_name t)));
  }

  pub relinked_reported : (order : ℕ → ℕ) (out : List ℕ) (hand later : Hand) (acc : List (List ℕ)) (reported : List ℕ) → SameHand hand later
      → IsReported order out hand parts n acc reported → IsReported order out later now n acc reported
  relinked_reported order out hand later acc reported k r = record {
    place = r.place;
    told = r.told;
    accounts = accounts_are_spared order order r.place r.place out hand later parts now n r.told k relinked_head
        (λ e among. relinked_element e)
        (relinked_order order r.place r.accounts.ordered) r.accounts.sorted
        (λ a t among here from. r.accounts.published a t among (same.elements_were a t here) from)
        (λ a t here on. r.accounts.complete a t (same.elements_were a t here) on) r.accounts;
    sum = r.sum;
  }

-- ---- all of a driver

pub relinked_told : (d : DriverContent) (hand later : Hand) (parts now : StructureSets) (reported : ℕ → List ℕ) → SameHand hand later
    → ((e : ℕ) (x : Endpoint) → slice_get d.endpoints e ≡ Some x → has_stream x.desc.kind ≡ true
    → IsSameQueue (32 * x.queue) (parts (32 * x.queue)) (now (32 * x.queue)))
    → ToldStands d hand parts reported → ToldStands d later now reported
relinked_told d hand later parts now reported k same told =
    spared_is_told d hand later parts now reported k spares told
  where
    spares : SparesDone d parts now
    spares = record {
      heads = λ e x here on. relinked_head parts now (32 * x.queue) (same e x here on);
      done = λ e t x y a is on one. relinked_element parts now (32 * x.queue) (same e x is.endpoint on) (32 * a);
    }

-- ---- a link is stored

module _ (parts : StructureSets) (n : ℕ) (q : Qh) (l : LinkBits) (here : parts n n ≡ Some (QueueHead q)) where
  abbrev new : Structure
  new = QueueHead (record q { link = l })

  abbrev then : StructureSets
  then = put parts n n (QueueHead (record q { link = l }))

  no_element : (r : Qh) (t : Qtd) → ◌≡◌ {A = Structure} (Element t) (QueueHead r) → ⊥
  no_element r t is = cc

  no_buffer : (r : Qh) (pages : List ℕ) (j : ℕ) (bs : List ℕ) → ◌≡◌ {A = Structure} (Buffer pages j bs) (QueueHead r) → ⊥
  no_buffer r pages j bs is = cc

  not_element : (a : ℕ) (t : Qtd) → parts n a ≡ Some (Element t) → a ≢ n
  not_element a t is same = no_element q t (same_Some (Element t) (QueueHead q) (sym is ∙ ap (parts n) same ∙ here))

  not_buffer : (a : ℕ) (pages : List ℕ) (j : ℕ) (bs : List ℕ) → parts n a ≡ Some (Buffer pages j bs) → a ≢ n
  not_buffer a pages j bs is same = no_buffer q pages j bs (same_Some (Buffer pages j bs) (QueueHead q) (sym is ∙ ap (parts n) same ∙ here))

  its_own : IsSameQueue n (parts n) (put parts n n (QueueHead (record q { link = l })) n)
  its_own = record {
    elements = λ a t is. put_else parts n n new a (not_element a t is) ∙ is;
    elements_were = λ a t is.
        ⊎_elim (λ (put_there : (n ≡ n) × (a ≡ n) × (Element t ≡ QueueHead (record q { link = l }))). absurd
        (no_element (record q { link = l }) t put_there.2))
        (λ (was : parts n a ≡ Some (Element t)). was) (put_found parts n n new n a (Element t) is);
    buffers = λ a pages j bs is. put_else parts n n new a (not_buffer a pages j bs is) ∙ is;
    buffers_were = λ a pages j bs is.
        ⊎_elim
        (λ (put_there : (n ≡ n) × (a ≡ n) × (Buffer pages j bs ≡ QueueHead (record q { link = l }))).
        absurd (no_buffer (record q { link = l }) pages j bs put_there.2))
        (λ (was : parts n a ≡ Some (Buffer pages j bs)). was) (put_found parts n n new n a (Buffer pages j bs) is);
    bytes = λ a.
        ⊎_elim (λ (same : a ≡ n). ap bytes_in (ap (then n) same ∙ put_same parts n n new) ∙ sym (ap bytes_in (ap (parts n) same ∙ here)))
        (λ (differs : a ≢ n). ap bytes_in (put_else parts n n new a differs)) (cases_eq a n);
    head = λ r is.
        record {
          link = l;
          here = put_same parts n n new ∙ ap (λ (z : Qh). Some (QueueHead (record z { link = l })))
              (found_queue (parts n n) q r here is);
        };
    head_was = λ r is.
        record {
          link = q.link;
          here = here
              ∙ ap (λ (z : Qh). Some (QueueHead (record z { link = q.link })))
              (found_queue (then n n) (record q { link = l }) r (put_same parts n n new) is);
        };
  }

  pub relinked_put : (m : ℕ) → IsSameQueue m (parts m) (put parts n n (QueueHead (record q { link = l })) m)
  relinked_put m =
      ⊎_elim (λ (same : m ≡ n). subst (λ (j : ℕ). IsSameQueue j (parts j) (then j)) (sym same) its_own)
      (λ (differs : m ≢ n). subst (IsSameQueue m (parts m)) (sym (put_beside parts n n new m differs)) (same_itself m (parts m)))
      (cases_eq m n)
