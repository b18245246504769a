-- The structures that come to others by a lend or a store keep what the requests are shown by, and so all windows.
use Rattle.std.proofs.Common.{◌≡◌, ◌≢◌, ℕ, ◌<◌, Bool, true, false, List, Option, Some, None, ap, refl, sym, subst, ◌∙◌, ⊎_elim, inl, inr}
use Rattle.std.specs.Prelude.{◌⊎◌}
use Rattle.std.proofs.lemmas.Bool.{cases_eq, false≢true}
use Rattle.qh_qtd.specs.declared.qtd.Qtd.{Qtd}
use Rattle.qh_qtd.specs.declared.queue_head.Qh.{Qh}
use Rattle.law_structures.specs.lent_structures.Structures.{QueueHead, Element, Buffer, Structure, Structures, StructureSets, put}
use Rattle.law_structures.proofs.lemmas.lent_structures.Names.{put_same, put_else, put_beside}
use Rattle.law_structures.specs.lent_structures.Sound.{buffer_name}
use Rattle.law_structures.proofs.lemmas.lent_structures.Altering.{found_element, no_two}
use Rattle.law_request.specs.Host.{Stage}
use Rattle.claims_report.specs.ControlSides.{Device}
use Rattle.law_ring.specs.Hand.{Hand}
use Rattle.law_ring.specs.Effects.{bytes_in, buffer_of}
use Rattle.law_ring.specs.Told.{hand_bytes, Told}
use Rattle.law_devices.specs.ring_requests.Laid.{place_at, IsIdle}
use Rattle.law_devices.specs.ring_requests.Windows.{Queue, Lines, IsQueue, IsElsewhere, AreWindows}
use Rattle.law_devices.proofs.lemmas.ring_requests.Windows.{queue_same}
use Rattle.law_devices.specs.request_stores.Published.{IsUnled, IsAside, IsLend, LendKeepsWindows, IdleStoreKeepsWindows}
use Rattle.law_devices.proofs.lemmas.request_stores.Keeping.{Keeps, queue_kept}

-- ---- the queues of the others

-- only the structures of one queue head change, and it stays
module _ (parts now : StructureSets) (n : ℕ) (beside : (k : ℕ) → k ≢ n → now k ≡ parts k) (head : (q : Qh) → parts n n ≡ Some (QueueHead q) → now n n ≡ Some (QueueHead q)) where
  pub head_still : (k : ℕ) (q : Qh) → parts k k ≡ Some (QueueHead q) → now k k ≡ Some (QueueHead q)
  head_still k q here =
      ⊎_elim {C = now k k ≡ Some (QueueHead q)} (λ (at : k ≡ n). subst (λ (i : ℕ). parts i i ≡ Some (QueueHead q) → now i i ≡ Some (QueueHead q)) (sym at) (head q) here)
      (λ (differs : k ≢ n). ap (λ (part : Structures). part k) (beside k differs) ∙ here) (cases_eq k n)

  pub elsewhere_still : (windows : ℕ → Bool) (sent : ℕ → Queue) (k : ℕ) → IsElsewhere windows sent parts k → IsElsewhere windows sent now k
  elsewhere_still windows sent k w = record { own = w.own; has = record { queue = w.has.queue; head = head_still k w.has.queue w.has.head; is = w.has.is }; other = w.other }

  pub queue_beside : (v : Queue) (l : Lines) (hand : Hand) (k : ℕ) (o : Option Device) → k ≢ n → IsQueue v l hand parts k o → IsQueue v l hand now k o
  queue_beside v l hand k o differs w = queue_same v l hand hand parts now k o (beside k differs) (λ q. refl) told w
    where
      told : (a : ℕ) (xs : List ℕ) → Told hand parts k a xs → Told hand now k a xs
      told a xs z = record {
        queue = z.queue;
        head = ap (λ (part : Structures). part k) (beside k differs) ∙ z.head;
        qtd = z.qtd;
        here = ap (λ (part : Structures). part a) (beside k differs) ∙ z.here;
        are = z.are ∙ ap (λ (part : Structures). hand_bytes hand k z.queue a z.qtd (buffer_of part z.qtd)) (sym (beside k differs));
      }

  pub windows_kept : {W : Type 0} (device : W → ℕ → ℕ → Option Device) (member windows : ℕ → Bool) (sent : ℕ → Queue) (lines : ℕ → Lines) (hand : Hand) (wire : W)
      → (windows n ≡ true → (o : Option Device) → IsQueue (sent n) (lines n) hand parts n o → IsQueue (sent n) (lines n) hand now n o)
      → AreWindows device member windows sent lines parts hand wire → AreWindows device member windows sent lines now hand wire
  windows_kept device member windows sent lines hand wire mine all = record {
    each = λ k on.
        ⊎_elim {C = IsQueue (sent k) (lines k) hand now k (device wire (sent k).endpoint.addr (sent k).endpoint.num)}
        (λ (at : k ≡ n).
        subst (λ (i : ℕ). windows i ≡ true → IsQueue (sent i) (lines i) hand parts i (device wire (sent i).endpoint.addr (sent i).endpoint.num) → IsQueue (sent i) (lines i) hand now i (device wire (sent i).endpoint.addr (sent i).endpoint.num)) (sym at)
        (λ one. mine one (device wire (sent n).endpoint.addr (sent n).endpoint.num)) on (all.each k on))
        (λ (differs : k ≢ n). queue_beside (sent k) (lines k) hand k (device wire (sent k).endpoint.addr (sent k).endpoint.num) differs (all.each k on)) (cases_eq k n);
    others = λ k on off. elsewhere_still windows sent k (all.others k on off);
  }

-- ---- a lend

lend_keeps : (windows : ℕ → Bool) (sent : ℕ → Queue) (parts now : StructureSets) (n : ℕ) → windows n ≡ true → IsLend windows sent parts now n → Keeps (sent n) n (parts n) (now n)
lend_keeps windows sent parts now n on k = record {
  head = λ q here. k.still n (QueueHead q) here;
  place = λ i s t few here. k.still (place_at ((sent n).places i) s) (Element t) here;
  before = λ i s t few here.
      ⊎_elim {C = parts n (place_at ((sent n).places i) s) ≡ Some (Element t)} (λ there. there)
      (λ (aside : IsAside (sent n) (parts n) (place_at ((sent n).places i) s) t). absurd (aside.places i s few refl)) (k.elements on (place_at ((sent n).places i) s) t here);
  buffer = λ b pages j bs here. k.still b (Buffer pages j bs) here;
  bytes = λ b t here. ap bytes_in (k.buffers b t here);
  links = λ i a t few none here active.
      ⊎_elim {C = (parts n a ≡ Some (Element t)) ⊎ IsUnled (parts n) a} (λ (there : parts n a ≡ Some (Element t)). inl there)
      (λ (aside : IsAside (sent n) (parts n) a t). inr (aside.unled i few none active)) (k.elements on a t here);
}

pub lend_windows : {W : Type 0} (device : W → ℕ → ℕ → Option Device) → LendKeepsWindows device
lend_windows device member windows sent lines parts now hand wire n k all =
    windows_kept parts now n k.beside (λ q here. k.still n (QueueHead q) here) device member windows sent lines hand wire
    (λ on o w. queue_kept (sent n) hand parts now n (lend_keeps windows sent parts now n on k) (lines n) o
    (λ i a one is. let z : IsIdle (parts n) a = w.tail i a one is in record { qtd = z.qtd; here = k.still a (Element z.qtd) z.here; idle = z.idle }) w) all

-- ---- a store

module _ (parts : StructureSets) (n a : ℕ) (old new : Qtd) (here : parts n a ≡ Some (Element old)) where
  abbrev now : StructureSets
  now = put parts n a (Element new)

  pub other_still : (b : ℕ) (s : Structure) → b ≢ a → parts n b ≡ Some s → put parts n a (Element new) n b ≡ Some s
  other_still b s differs there = put_else parts n a (Element new) b differs ∙ there

  pub other_before : (b : ℕ) (s : Structure) → b ≢ a → put parts n a (Element new) n b ≡ Some s → parts n b ≡ Some s
  other_before b s differs there = sym (put_else parts n a (Element new) b differs) ∙ there

  pub store_head : (q : Qh) → parts n n ≡ Some (QueueHead q) → put parts n a (Element new) n n ≡ Some (QueueHead q)
  store_head q head = other_still n (QueueHead q) (no_two (parts n) n a (QueueHead q) (Element old) head here (λ z. cc)) head

  pub store_beside : (k : ℕ) → k ≢ n → put parts n a (Element new) k ≡ parts k
  store_beside k differs = put_beside parts n a (Element new) k differs

  store_bytes : (b : ℕ) → bytes_in (put parts n a (Element new) n b) ≡ bytes_in (parts n b)
  store_bytes b =
      ⊎_elim {C = bytes_in (now n b) ≡ bytes_in (parts n b)} (λ (at : b ≡ a). ap bytes_in (ap (now n) at ∙ put_same parts n a (Element new)) ∙ sym (ap bytes_in (ap (parts n) at ∙ here)))
      (λ (differs : b ≢ a). ap bytes_in (put_else parts n a (Element new) b differs)) (cases_eq b a)

  -- where it isn't active after it, or each request leads to a qTD
  pub store_keeps : (v : Queue) → ((i : ℕ) (s : Stage) → i < v.count → place_at (v.places i) s ≢ a) → ((new.token.active ≡ false) ⊎ ((i : ℕ) → i < v.count → (v.places i).behind ≡ None → ⊥)) → Keeps v n (parts n) (put parts n a (Element new) n)
  store_keeps v apart way = record {
    head = store_head;
    place = λ i s t few there. other_still (place_at (v.places i) s) (Element t) (apart i s few) there;
    before = λ i s t few there. other_before (place_at (v.places i) s) (Element t) (apart i s few) there;
    buffer = λ b pages k bs there. other_still b (Buffer pages k bs) (no_two (parts n) b a (Buffer pages k bs) (Element old) there here (λ z. cc)) there;
    bytes = λ b t there. store_bytes (buffer_name t);
    links = λ i b t few none there active.
        ⊎_elim {C = (parts n b ≡ Some (Element t)) ⊎ IsUnled (parts n) b}
        (λ (idle : new.token.active ≡ false).
        ⊎_elim {C = (parts n b ≡ Some (Element t)) ⊎ IsUnled (parts n) b}
        (λ (at : b ≡ a).
        absurd (false≢true (sym idle ∙ ap (λ (u : Qtd). u.token.active) (found_element (now n b) new t (ap (now n) at ∙ put_same parts n a (Element new)) there) ∙ active)))
        (λ (differs : b ≢ a). inl (other_before b (Element t) differs there)) (cases_eq b a))
        (λ (some : (i : ℕ) → i < v.count → (v.places i).behind ≡ None → ⊥). absurd (some i few none)) way;
  }

  -- a qTD that isn't active still isn't
  idle_kept : new.token.active ≡ false → (b : ℕ) → IsIdle (parts n) b → IsIdle (put parts n a (Element new) n) b
  idle_kept idle b k =
      ⊎_elim {C = IsIdle (now n) b} (λ (at : b ≡ a). record { qtd = new; here = ap (now n) at ∙ put_same parts n a (Element new); idle = idle })
      (λ (differs : b ≢ a). record { qtd = k.qtd; here = other_still b (Element k.qtd) differs k.here; idle = k.idle }) (cases_eq b a)

pub idle_windows : {W : Type 0} (device : W → ℕ → ℕ → Option Device) → IdleStoreKeepsWindows device
idle_windows device member windows sent lines parts hand wire n a old new here idle apart all =
    windows_kept parts (put parts n a (Element new)) n (store_beside parts n a old new here) (store_head parts n a old new here) device member windows sent lines hand wire
    (λ on o w. queue_kept (sent n) hand parts (put parts n a (Element new)) n (store_keeps parts n a old new here (sent n) (apart on) (inl idle)) (lines n) o
    (λ i b one is. idle_kept parts n a old new here idle b (w.tail i b one is)) w) all
