-- What is written beside the requests: a store, a lend, structures that are given back, and a link.
use Rattle.std.proofs.Common.{◌≡◌, ◌≢◌, ℕ, suc, ◌-◌, ◌<◌, Bool, true, false, if◌then◌else◌, List, Option, Some, None, ap, refl, sym, subst, ◌∙◌, ⊎_elim, arith}
use Rattle.std.specs.Prelude.{◌⊎◌}
use Rattle.std.proofs.lemmas.Bool.{cases_eq, eq-eqb, false≢true}
use Rattle.law_controller.proofs.Common.{same_hand, no_bytes}
use Rattle.law_devices.proofs.Common.{is_same}
use Rattle.law_common.proofs.Numbers.{other_number}
use Rattle.qh_qtd.specs.declared.qtd.Qtd.{Qtd}
use Rattle.qh_qtd.specs.declared.queue_head.Qh.{Qh}
use Rattle.law_structures.specs.lent_structures.Structures.{Structure, QueueHead, Element, Buffer, Structures, StructureSets, put}
use Rattle.law_structures.specs.lent_structures.Sound.{buffer_name}
use Rattle.law_structures.proofs.lemmas.lent_structures.Names.{put_same, put_else, put_beside}
use Rattle.law_structures.proofs.lemmas.lent_structures.Altering.{found_queue, no_two}
use Rattle.law_request.specs.Host.{Stage}
use Rattle.claims_report.specs.ControlSides.{Device}
use Rattle.law_ring.specs.Hand.{Hand}
use Rattle.law_ring.specs.Effects.{bytes_in, buffer_of}
use Rattle.law_ring.specs.Fewer.{fewer_structures, without_those}
use Rattle.law_ring.specs.Front.{SameRest}
use Rattle.law_ring.specs.Sparing.{SameHand, SameOverlay, HasOverlay, SparesHead}
use Rattle.law_ring.specs.Stores.{hand_linked}
use Rattle.law_ring.proofs.SparedSparing.{linked_hand_is_same}
use Rattle.law_devices.specs.ring_requests.Laid.{place_at, IsIdle}
use Rattle.law_devices.specs.ring_requests.Windows.{Queue}
use Rattle.law_devices.specs.ring_requests.Resting.{HeadStays, SameSide}
use Rattle.law_devices.proofs.lemmas.ring_requests.RestingSpared.{linked_side}
use Rattle.law_reports.specs.requests.Courses.{Course, NoQueue, Asks, Rests, has_queue, queue_in, tail_in, AreInLine, IsCourse, queues, have_queues}
use Rattle.law_reports.specs.requests.Spared.{KeepsBuffer, KeepsQtds, KeepsQueue, KeepsEndpoints, IsNoRequests, StoreSparesCourses, IsLentBeside, LendSparesCourses, GoBeside, ReleaseSparesCourses, LinkSparesCourses}
use Rattle.law_reports.proofs.lemmas.requests.Courses.{HasHead, head_of}
use Rattle.law_reports.proofs.lemmas.requests.QueueChanging.{all_kept, course_kept}

-- ---- what is there already

last_idle : (v : Queue) (b : ℕ) (part : Structures) → AreInLine v b → 0 < v.count → ((i a : ℕ) → suc i ≡ v.count → (v.places i).behind ≡ Some a → IsIdle part a) → IsIdle part b
last_idle v b part line some tail = let last : suc (v.count - 1) ≡ v.count = omega (arith, some) in tail (v.count - 1) b last (line.last (v.count - 1) last)

module _ {W : Type 0} (device : W → ℕ → ℕ → Option Device) (parts : StructureSets) (hand : Hand) (wire : W) (n : ℕ) where
  pub tail_of : (c : Course) → has_queue c ≡ true → IsCourse device parts hand wire n c → IsIdle (parts n) (tail_in c)
  tail_of NoQueue on k = absurd (false≢true on)
  tail_of (Asks v b l) on k = last_idle v b (parts n) k.line (let within = k.queue.within in omega (arith, within)) k.queue.tail
  tail_of (Rests v b c) on k = k.rest.tail

-- ---- the queue head

same_overlay : (q : Qh) → SameOverlay q q
same_overlay q = record { token = refl; current = refl; offset = refl; endpoint = refl }

module _ (parts now : StructureSets) (n : ℕ) (still : (q : Qh) → parts n n ≡ Some (QueueHead q) → now n n ≡ Some (QueueHead q)) where
  pub head_stays : (v : Queue) → HasHead parts n v → HeadStays (parts n) (now n) n
  head_stays v h = record { queue = h.queue; here = h.head; later = h.queue; there = still h.queue h.head; rest = is_same h.queue; own = refl }

  pub head_spared : SparesHead parts now n
  head_spared q here = record { queue = q; here = still q here; overlay = same_overlay q }

pub endpoints_still : (member : ℕ → Bool) (parts now : StructureSets) → ((n : ℕ) (q : Qh) → parts n n ≡ Some (QueueHead q) → now n n ≡ Some (QueueHead q)) → KeepsEndpoints member parts now
endpoints_still member parts now still k own met has = record { queue = has.queue; head = still k has.queue has.head; is = has.is }

-- ---- the structures of the queue head are the same

module _ {W : Type 0} (device : W → ℕ → ℕ → Option Device) (parts now : StructureSets) (hand later : Hand) (wire : W) (n : ℕ) (side : SameSide hand later n) (hands : SameHand hand later) (same : now n ≡ parts n) where
  at_same : (a : ℕ) (s : Structure) → parts n a ≡ Some s → now n a ≡ Some s
  at_same a s here = ap (λ (part : Structures). part a) same ∙ here

  keeps_same : (v : Queue) (b : ℕ) → HasHead parts n v → IsIdle (parts n) b → KeepsQueue v b hand later parts now n
  keeps_same v b head tail = record {
    side = side;
    same = hands;
    head = head_stays parts now n (λ q. at_same n (QueueHead q)) v head;
    overlay = head_spared parts now n (λ q. at_same n (QueueHead q));
    qtds = record {
      place = λ i s t few. at_same (place_at (v.places i) s) (Element t);
      before = λ i s t few here. ap (λ (part : Structures). part (place_at (v.places i) s)) (sym same) ∙ here;
      buffer = λ i s t few here. record { here = λ pages j bytes. at_same (buffer_name t) (Buffer pages j bytes); bytes = ap (λ (part : Structures). buffer_of part t) same };
    };
    tail = record { qtd = tail.qtd; here = at_same b (Element tail.qtd) tail.here; idle = tail.idle };
  }

  pub same_kept : (c : Course) → IsCourse device parts hand wire n c → IsCourse device now later wire n c
  same_kept c k = course_kept device parts now hand later wire n c (λ on. keeps_same (queue_in c) (tail_in c) (head_of device parts hand wire n c on k) (tail_of device parts hand wire n c on k)) k

pub same_side : (hand : Hand) (n : ℕ) → SameSide hand hand n
same_side hand n q = refl

-- ---- a store

module _ (parts : StructureSets) (k a : ℕ) (old new : Qtd) (here : parts k a ≡ Some (Element old)) where
  abbrev now : StructureSets
  now = put parts k a (Element new)

  pub store_else : (n b : ℕ) → (n ≡ k → b ≢ a) → put parts k a (Element new) n b ≡ parts n b
  store_else n b other =
      ⊎_elim {C = now n b ≡ parts n b} (λ (same : n ≡ k). subst (λ (i : ℕ). now i b ≡ parts i b) (sym same) (put_else parts k a (Element new) b (other same)))
      (λ (differs : n ≢ k). ap (λ (part : Structures). part b) (put_beside parts k a (Element new) n differs)) (cases_eq n k)

  pub store_head : (n : ℕ) (q : Qh) → parts n n ≡ Some (QueueHead q) → put parts k a (Element new) n n ≡ Some (QueueHead q)
  store_head n q head = store_else n n (λ same. no_two (parts k) n a (QueueHead q) (Element old) (ap (λ (i : ℕ). parts i n) (sym same) ∙ head) here (λ z. cc)) ∙ head

  store_bytes : (n b : ℕ) → bytes_in (put parts k a (Element new) n b) ≡ bytes_in (parts n b)
  store_bytes n b =
      ⊎_elim {C = bytes_in (now n b) ≡ bytes_in (parts n b)}
      (λ (same : n ≡ k).
      ⊎_elim {C = bytes_in (now n b) ≡ bytes_in (parts n b)}
      (λ (at : b ≡ a).
      subst (λ (i : ℕ). bytes_in (now i b) ≡ bytes_in (parts i b)) (sym same)
      (subst (λ (j : ℕ). bytes_in (now k j) ≡ bytes_in (parts k j)) (sym at) (ap bytes_in (put_same parts k a (Element new)) ∙ sym (ap bytes_in here))))
      (λ (differs : b ≢ a). ap bytes_in (store_else n b (λ one. differs))) (cases_eq b a))
      (λ (differs : n ≢ k). ap bytes_in (store_else n b (λ one. absurd (differs one)))) (cases_eq n k)

  store_buffer : (n : ℕ) (t : Qtd) → KeepsBuffer (parts n) (put parts k a (Element new) n) t
  store_buffer n t = record {
    here = λ pages j bytes there. store_else n (buffer_name t) (λ same. no_two (parts k) (buffer_name t) a (Buffer pages j bytes) (Element old) (ap (λ (i : ℕ). parts i (buffer_name t)) (sym same) ∙ there) here (λ z. cc)) ∙ there;
    bytes = store_bytes n (buffer_name t);
  }

  store_tail : (n b : ℕ) → (n ≡ k → b ≡ a → new.token.active ≡ false) → IsIdle (parts n) b → IsIdle (put parts k a (Element new) n) b
  store_tail n b idle t =
      ⊎_elim {C = IsIdle (now n) b}
      (λ (same : n ≡ k).
      ⊎_elim {C = IsIdle (now n) b} (λ (at : b ≡ a). record { qtd = new; here = ap (λ (i : ℕ). now i b) same ∙ ap (now k) at ∙ put_same parts k a (Element new); idle = idle same at })
      (λ (differs : b ≢ a). record { qtd = t.qtd; here = store_else n b (λ one. differs) ∙ t.here; idle = t.idle }) (cases_eq b a))
      (λ (differs : n ≢ k). record { qtd = t.qtd; here = store_else n b (λ one. absurd (differs one)) ∙ t.here; idle = t.idle }) (cases_eq n k)

  -- the qTDs of these requests stand elsewhere
  pub store_qtds : (v : Queue) (n : ℕ) → (n ≡ k → (i : ℕ) (s : Stage) → i < v.count → place_at (v.places i) s ≢ a) → KeepsQtds v (parts n) (put parts k a (Element new) n)
  store_qtds v n apart = record {
    place = λ i s t few there. store_else n (place_at (v.places i) s) (λ same. apart same i s few) ∙ there;
    before = λ i s t few there. sym (store_else n (place_at (v.places i) s) (λ same. apart same i s few)) ∙ there;
    buffer = λ i s t few there. store_buffer n t;
  }

  pub store_keeps : (hand : Hand) (v : Queue) (b n : ℕ) → (n ≡ k → (i : ℕ) (s : Stage) → i < v.count → place_at (v.places i) s ≢ a) → (n ≡ k → b ≡ a → new.token.active ≡ false) → HasHead parts n v → IsIdle (parts n) b
      → KeepsQueue v b hand hand parts (put parts k a (Element new)) n
  store_keeps hand v b n apart idle head tail = record {
    side = same_side hand n;
    same = same_hand hand;
    head = head_stays parts now n (store_head n) v head;
    overlay = head_spared parts now n (store_head n);
    qtds = store_qtds v n apart;
    tail = store_tail n b idle tail;
  }

pub store_spares : {W : Type 0} (device : W → ℕ → ℕ → Option Device) → StoreSparesCourses device
store_spares device member courses parts hand wire k a old new here apart idle stand =
    all_kept device member courses parts (put parts k a (Element new)) hand hand wire
    (λ n z.
    course_kept device parts (put parts k a (Element new)) hand hand wire n (courses n)
    (λ on.
    store_keeps parts k a old new here hand (queues courses n) (tail_in (courses n)) n (λ same i s few. subst (λ (j : ℕ). have_queues courses j ≡ true → i < (queues courses j).count → place_at ((queues courses j).places i) s ≢ a) (sym same) (apart i s) on few)
    (λ same. subst (λ (j : ℕ). have_queues courses j ≡ true → tail_in (courses j) ≡ a → new.token.active ≡ false) (sym same) idle on) (head_of device parts hand wire n (courses n) on z) (tail_of device parts hand wire n (courses n) on z)) z)
    (endpoints_still member parts (put parts k a (Element new)) (store_head parts k a old new here)) stand

-- ---- a lend

module _ (courses : ℕ → Course) (parts now : StructureSets) (k : IsLentBeside courses parts now) (hand : Hand) where
  lend_keeps : (n : ℕ) → have_queues courses n ≡ true → HasHead parts n (queues courses n) → IsIdle (parts n) (tail_in (courses n)) → KeepsQueue (queues courses n) (tail_in (courses n)) hand hand parts now n
  lend_keeps n on head tail = record {
    side = same_side hand n;
    same = same_hand hand;
    head = head_stays parts now n (λ q. k.still n n (QueueHead q)) (queues courses n) head;
    overlay = head_spared parts now n (λ q. k.still n n (QueueHead q));
    qtds = record {
      place = λ i s t few. k.still n (place_at ((queues courses n).places i) s) (Element t);
      before = λ i s t few there.
          ⊎_elim {C = parts n (place_at ((queues courses n).places i) s) ≡ Some (Element t)} (λ before. before) (λ (none : IsNoRequests courses n (place_at ((queues courses n).places i) s)). absurd (none i s on few refl))
          (k.elements n (place_at ((queues courses n).places i) s) t there);
      buffer = λ i s t few there. record { here = λ pages j bytes. k.still n (buffer_name t) (Buffer pages j bytes); bytes = k.buffers n (place_at ((queues courses n).places i) s) t there };
    };
    tail = record { qtd = tail.qtd; here = k.still n (tail_in (courses n)) (Element tail.qtd) tail.here; idle = tail.idle };
  }

pub lend_spares : {W : Type 0} (device : W → ℕ → ℕ → Option Device) → LendSparesCourses device
lend_spares device member courses parts now hand wire k stand =
    all_kept device member courses parts now hand hand wire
    (λ n z.
    course_kept device parts now hand hand wire n (courses n)
    (λ on. lend_keeps courses parts now k hand n on (head_of device parts hand wire n (courses n) on z) (tail_of device parts hand wire n (courses n) on z)) z)
    (endpoints_still member parts now (λ n q. k.still n n (QueueHead q))) stand

-- ---- structures that are given back

module _ (parts : StructureSets) (k : ℕ) (goes : ℕ → Bool) where
  abbrev left : StructureSets
  left = without_those parts k goes

  left_at : (n b : ℕ) → n ≡ k → without_those parts k goes n b ≡ (if goes b then None else parts n b)
  left_at n b same = ap (λ (x : Bool). (if x then fewer_structures goes (parts n) else parts n) b) (eq-eqb n k same)

  left_beside : (n b : ℕ) → n ≢ k → without_those parts k goes n b ≡ parts n b
  left_beside n b differs = ap (λ (x : Bool). (if x then fewer_structures goes (parts n) else parts n) b) (other_number n k differs)

  left_else : (n b : ℕ) → (n ≡ k → goes b ≡ false) → without_those parts k goes n b ≡ parts n b
  left_else n b stays =
      ⊎_elim {C = left n b ≡ parts n b} (λ (same : n ≡ k). left_at n b same ∙ ap (λ (x : Bool). if x then None else parts n b) (stays same)) (left_beside n b) (cases_eq n k)

  some_left : (x : Bool) (o : Option Structure) (s : Structure) → (if x then None else o) ≡ Some s → o ≡ Some s
  some_left true o s is = absurd (let none : None ≡ Some s = is in cc)
  some_left false o s is = is

  left_before : (n b : ℕ) (s : Structure) → without_those parts k goes n b ≡ Some s → parts n b ≡ Some s
  left_before n b s is =
      ⊎_elim {C = parts n b ≡ Some s} (λ (same : n ≡ k). some_left (goes b) (parts n b) s (sym (left_at n b same) ∙ is)) (λ (differs : n ≢ k). sym (left_beside n b differs) ∙ is) (cases_eq n k)

  left_bytes : (n b : ℕ) → ((pages : List ℕ) (j : ℕ) (bytes : List ℕ) → n ≡ k → parts n b ≡ Some (Buffer pages j bytes) → goes b ≡ false) → bytes_in (without_those parts k goes n b) ≡ bytes_in (parts n b)
  left_bytes n b stays =
      ⊎_elim {C = bytes_in (left n b) ≡ bytes_in (parts n b)} (λ (same : n ≡ k). ap bytes_in (left_at n b same) ∙ by (goes b) refl same)
      (λ (differs : n ≢ k). ap bytes_in (left_beside n b differs)) (cases_eq n k)
    where
      by : (x : Bool) → goes b ≡ x → n ≡ k → bytes_in (if x then None else parts n b) ≡ bytes_in (parts n b)
      by false off same = refl
      by true on same = sym (no_bytes (parts n b) (λ pages j bytes is. false≢true (sym (stays pages j bytes same is) ∙ on)))

  module _ (courses : ℕ → Course) (z : GoBeside courses parts k goes) (hand : Hand) where
    pub left_head : (n : ℕ) (q : Qh) → parts n n ≡ Some (QueueHead q) → without_those parts k goes n n ≡ Some (QueueHead q)
    left_head n q head = left_else n n (λ same. ap goes same ∙ z.head) ∙ head

    stays_at : (n i : ℕ) (s : Stage) (t : Qtd) → n ≡ k → have_queues courses n ≡ true → i < (queues courses n).count → parts n (place_at ((queues courses n).places i) s) ≡ Some (Element t)
        → (goes (place_at ((queues courses n).places i) s) ≡ false) × ((pages : List ℕ) (j : ℕ) (bytes : List ℕ) → parts n (buffer_name t) ≡ Some (Buffer pages j bytes) → goes (buffer_name t) ≡ false)
    stays_at n i s t same =
        subst (λ (j : ℕ). have_queues courses j ≡ true → i < (queues courses j).count → parts j (place_at ((queues courses j).places i) s) ≡ Some (Element t) → (goes (place_at ((queues courses j).places i) s) ≡ false)
        × ((pages : List ℕ) (l : ℕ) (bytes : List ℕ) → parts j (buffer_name t) ≡ Some (Buffer pages l bytes) → goes (buffer_name t) ≡ false)) (sym same) (z.place i s t)

    tail_stays : (n : ℕ) → n ≡ k → have_queues courses n ≡ true → goes (tail_in (courses n)) ≡ false
    tail_stays n same = subst (λ (j : ℕ). have_queues courses j ≡ true → goes (tail_in (courses j)) ≡ false) (sym same) z.tail

    left_keeps : (n : ℕ) → have_queues courses n ≡ true → HasHead parts n (queues courses n) → IsIdle (parts n) (tail_in (courses n)) → KeepsQueue (queues courses n) (tail_in (courses n)) hand hand parts (without_those parts k goes) n
    left_keeps n on head tail = record {
      side = same_side hand n;
      same = same_hand hand;
      head = head_stays parts left n (left_head n) (queues courses n) head;
      overlay = head_spared parts left n (left_head n);
      qtds = record {
        place = λ i s t few there. left_else n (place_at ((queues courses n).places i) s) (λ same. (stays_at n i s t same on few there).0) ∙ there;
        before = λ i s t few. left_before n (place_at ((queues courses n).places i) s) (Element t);
        buffer = λ i s t few there. record {
          here = λ pages j bytes is. left_else n (buffer_name t) (λ same. (stays_at n i s t same on few there).1 pages j bytes is) ∙ is;
          bytes = left_bytes n (buffer_name t) (λ pages j bytes same is. (stays_at n i s t same on few there).1 pages j bytes is);
        };
      };
      tail = record { qtd = tail.qtd; here = left_else n (tail_in (courses n)) (λ same. tail_stays n same on) ∙ tail.here; idle = tail.idle };
    }

pub release_spares : {W : Type 0} (device : W → ℕ → ℕ → Option Device) → ReleaseSparesCourses device
release_spares device member courses parts hand wire k goes z stand =
    all_kept device member courses parts (without_those parts k goes) hand hand wire
    (λ n c.
    course_kept device parts (without_those parts k goes) hand hand wire n (courses n)
    (λ on. left_keeps parts k goes courses z hand n on (head_of device parts hand wire n (courses n) on c) (tail_of device parts hand wire n (courses n) on c)) c)
    (endpoints_still member parts (without_those parts k goes) (left_head parts k goes courses z hand)) stand

-- ---- a link is stored

module _ (parts : StructureSets) (k : ℕ) (q new : Qh) (here : parts k k ≡ Some (QueueHead q)) where
  abbrev linked : StructureSets
  linked = put parts k k (QueueHead new)

  linked_else : (n b : ℕ) → (n ≡ k → b ≢ k) → put parts k k (QueueHead new) n b ≡ parts n b
  linked_else n b other =
      ⊎_elim {C = linked n b ≡ parts n b} (λ (same : n ≡ k). subst (λ (i : ℕ). linked i b ≡ parts i b) (sym same) (put_else parts k k (QueueHead new) b (other same)))
      (λ (differs : n ≢ k). ap (λ (part : Structures). part b) (put_beside parts k k (QueueHead new) n differs)) (cases_eq n k)

  linked_here : (n : ℕ) → n ≡ k → put parts k k (QueueHead new) n n ≡ Some (QueueHead new)
  linked_here n same = ap (λ (i : ℕ). linked i i) same ∙ put_same parts k k (QueueHead new)

  pub linked_element : (n b : ℕ) (t : Qtd) → parts n b ≡ Some (Element t) → put parts k k (QueueHead new) n b ≡ Some (Element t)
  linked_element n b t there = linked_else n b (λ same. no_two (parts k) b k (Element t) (QueueHead q) (ap (λ (i : ℕ). parts i b) (sym same) ∙ there) here (λ z. cc)) ∙ there

  pub linked_before : (n b : ℕ) (t : Qtd) → put parts k k (QueueHead new) n b ≡ Some (Element t) → parts n b ≡ Some (Element t)
  linked_before n b t there =
      sym (linked_else n b (λ same. no_two (linked k) b k (Element t) (QueueHead new) (ap (λ (i : ℕ). linked i b) (sym same) ∙ there) (put_same parts k k (QueueHead new)) (λ z. cc))) ∙ there

  linked_bytes : (n b : ℕ) → bytes_in (put parts k k (QueueHead new) n b) ≡ bytes_in (parts n b)
  linked_bytes n b =
      ⊎_elim {C = bytes_in (linked n b) ≡ bytes_in (parts n b)}
      (λ (same : n ≡ k).
      ⊎_elim {C = bytes_in (linked n b) ≡ bytes_in (parts n b)}
      (λ (at : b ≡ k).
      subst (λ (i : ℕ). bytes_in (linked i b) ≡ bytes_in (parts i b)) (sym same)
      (subst (λ (j : ℕ). bytes_in (linked k j) ≡ bytes_in (parts k j)) (sym at) (ap bytes_in (put_same parts k k (QueueHead new)) ∙ sym (ap bytes_in here))))
      (λ (differs : b ≢ k). ap bytes_in (linked_else n b (λ one. differs))) (cases_eq b k))
      (λ (differs : n ≢ k). ap bytes_in (linked_else n b (λ one. absurd (differs one)))) (cases_eq n k)

  pub linked_buffer : (n : ℕ) (t : Qtd) → KeepsBuffer (parts n) (put parts k k (QueueHead new) n) t
  linked_buffer n t = record {
    here = λ pages j bytes there. linked_else n (buffer_name t) (λ same. no_two (parts k) (buffer_name t) k (Buffer pages j bytes) (QueueHead q) (ap (λ (i : ℕ). parts i (buffer_name t)) (sym same) ∙ there) here (λ z. cc)) ∙ there;
    bytes = linked_bytes n (buffer_name t);
  }

  module _ (rest : SameRest q new) (overlay : SameOverlay q new) where
    linked_stays : (n : ℕ) (v : Queue) → HasHead parts n v → HeadStays (parts n) (put parts k k (QueueHead new) n) n
    linked_stays n v h =
        ⊎_elim {C = HeadStays (parts n) (linked n) n}
        (λ (same : n ≡ k). record { queue = q; here = ap (λ (i : ℕ). parts i i) same ∙ here; later = new; there = linked_here n same; rest = rest; own = overlay.endpoint })
        (λ (differs : n ≢ k). record { queue = h.queue; here = h.head; later = h.queue; there = linked_else n n (λ one. absurd (differs one)) ∙ h.head; rest = is_same h.queue; own = refl }) (cases_eq n k)

    linked_overlay : (n : ℕ) → SparesHead parts (put parts k k (QueueHead new)) n
    linked_overlay n r head =
        ⊎_elim {C = HasOverlay linked n r}
        (λ (same : n ≡ k).
        record {
          queue = new;
          here = linked_here n same;
          overlay = subst (λ (x : Qh). SameOverlay x new) (found_queue (parts k k) q r here (ap (λ (i : ℕ). parts i i) (sym same) ∙ head)) overlay;
        })
        (λ (differs : n ≢ k). record { queue = r; here = linked_else n n (λ one. absurd (differs one)) ∙ head; overlay = same_overlay r }) (cases_eq n k)

    linked_keeps : (hand later : Hand) (v : Queue) (b n : ℕ) → SameSide hand later n → SameHand hand later → HasHead parts n v → IsIdle (parts n) b → KeepsQueue v b hand later parts (put parts k k (QueueHead new)) n
    linked_keeps hand later v b n side hands head tail = record {
      side = side;
      same = hands;
      head = linked_stays n v head;
      overlay = linked_overlay n;
      qtds = record {
        place = λ i s t few. linked_element n (place_at (v.places i) s) t;
        before = λ i s t few. linked_before n (place_at (v.places i) s) t;
        buffer = λ i s t few there. linked_buffer n t;
      };
      tail = record { qtd = tail.qtd; here = linked_element n b tail.qtd tail.here; idle = tail.idle };
    }

    pub linked_ends : (member : ℕ → Bool) → KeepsEndpoints member parts (put parts k k (QueueHead new))
    linked_ends member i own met has = let o : HasOverlay linked i has.queue = linked_overlay i has.queue has.head in record { queue = o.queue; head = o.here; is = has.is ∙ sym o.overlay.endpoint }

pub link_spares : {W : Type 0} (device : W → ℕ → ℕ → Option Device) → LinkSparesCourses device
link_spares device member courses parts hand wire k q l here stand =
    let new : Qh = record q { link = l } in
    let rest : SameRest q new = record { token = refl; current = refl; next = refl; alternate = refl } in
    let overlay : SameOverlay q new = record { token = refl; current = refl; offset = refl; endpoint = refl } in
    all_kept device member courses parts (put parts k k (QueueHead new)) hand (hand_linked k l hand) wire
    (λ n c.
    course_kept device parts (put parts k k (QueueHead new)) hand (hand_linked k l hand) wire n (courses n)
    (λ on.
    linked_keeps parts k q new here rest overlay hand (hand_linked k l hand) (queues courses n) (tail_in (courses n)) n (linked_side k n l hand) (linked_hand_is_same k l hand) (head_of device parts hand wire n (courses n) on c)
    (tail_of device parts hand wire n (courses n) on c)) c)
    (linked_ends parts k q new here rest overlay member) stand
