-- What the store of a word of a queue head leaves of all structures: each other queue head, each qTD and each buffer.
use Rattle.std.proofs.Common.{◌≡◌, ◌≢◌, ℕ, ◌≤◌, Bool, true, false, List, length, Some, ap, refl, sym, subst, ◌∙◌, ⊎_elim}
use Rattle.std.proofs.lemmas.Bool.{cases_eq}
use Rattle.std.proofs.lemmas.Option.{same_Some}
use Rattle.link_words.specs.declared.kinds.QtdLink.TheVariants as qtd_links
use Rattle.link_words.specs.Links.{qtd_link_of}
use Rattle.qh_qtd.specs.declared.qtd.Qtd.{Qtd}
use Rattle.qh_qtd.specs.declared.queue_head.Qh.{Qh}
use Rattle.hc_copy.specs.Visits.{next_pointer}
use Rattle.law_structures.specs.lent_structures.Structures.{Structure, QueueHead, Element, Structures, StructureSets, put}
use Rattle.law_structures.proofs.lemmas.lent_structures.Names.{put_beside, put_same, put_else, put_found}
use Rattle.law_structures.specs.lent_structures.Sound.{buffer_name}
use Rattle.law_structures.proofs.lemmas.lent_structures.Altering.{found_queue}
use Rattle.law_ring.specs.Effects.{bytes_in, buffer_of}
use Rattle.law_ring.specs.Told.{endpoint_of, HasEndpoint, Endpoint as Told}
use Rattle.law_ring.specs.Sparing.{SparesHead, SparesElement}
use Rattle.law_ring.specs.Order.{IsAmong}
use Rattle.law_ring.specs.Front.{IsFront, IsBehind, IsPassed, HadRest, HasFront, LinksWithin, HasTail}
use Rattle.law_ring.specs.Halted.{HaltStops}

-- the queue head q, at n, becomes the queue head `new`
module _ (parts : StructureSets) (n : ℕ) (q new : Qh) (head : parts n n ≡ Some (QueueHead q)) where
  abbrev now : StructureSets
  now = put parts n n (QueueHead new)

  pub here_now : (m : ℕ) → m ≡ n → now m m ≡ Some (QueueHead new)
  here_now m same = ap (λ (i : ℕ). now i i) same ∙ put_same parts n n (QueueHead new)

  was_here : (m a : ℕ) → m ≡ n → a ≡ n → parts m a ≡ Some (QueueHead q)
  was_here m a owner name = ap (λ (i : ℕ). parts i a) owner ∙ ap (parts n) name ∙ head

  -- ---- queue heads

  pub head_beside : (m : ℕ) (r : Qh) → m ≢ n → parts m m ≡ Some (QueueHead r) → now m m ≡ Some (QueueHead r)
  head_beside m r differs is = ap (λ (part : Structures). part m) (put_beside parts n n (QueueHead new) m differs) ∙ is

  pub head_was : (m : ℕ) (r : Qh) → m ≢ n → now m m ≡ Some (QueueHead r) → parts m m ≡ Some (QueueHead r)
  head_was m r differs is = sym (ap (λ (part : Structures). part m) (put_beside parts n n (QueueHead new) m differs)) ∙ is

  pub own_is : (m : ℕ) (r : Qh) → m ≡ n → now m m ≡ Some (QueueHead r) → r ≡ new
  own_is m r same is = found_queue (now m m) r new is (here_now m same)

  pub spares_head : (m : ℕ) → m ≢ n → SparesHead parts now m
  spares_head m differs r is = record { queue = r; here = head_beside m r differs is; overlay = record { token = refl; current = refl; offset = refl; endpoint = refl } }

  pub endpoint_stays : endpoint_of new ≡ endpoint_of q → (m : ℕ) (x : Told) → HasEndpoint parts m x → HasEndpoint now m x
  endpoint_stays own m x has =
      ⊎_elim {C = HasEndpoint now m x}
      (λ (same : m ≡ n). record { queue = new; head = here_now m same; is = has.is ∙ ap endpoint_of (found_queue (parts m m) has.queue q has.head (was_here m m same same)) ∙ sym own })
      (λ (differs : m ≢ n). record { queue = has.queue; head = head_beside m has.queue differs has.head; is = has.is }) (cases_eq m n)

  pub had_rest : (m : ℕ) (r : Qh) → m ≢ n → now m m ≡ Some (QueueHead r) → HadRest (parts m) m r
  had_rest m r differs is = record { queue = r; here = head_was m r differs is; rest = record { token = refl; current = refl; next = refl; alternate = refl } }

  -- ---- qTDs and buffers

  pub stays : (m a : ℕ) (s : Structure) → ((r : Qh) → s ≢ QueueHead r) → parts m a ≡ Some s → now m a ≡ Some s
  stays m a s other is =
      ⊎_elim {C = now m a ≡ Some s}
      (λ (owner : m ≡ n).
      ⊎_elim {C = now m a ≡ Some s}
      (λ (name : a ≡ n). absurd (other q (same_Some s (QueueHead q) (sym is ∙ was_here m a owner name))))
      (λ (differs : a ≢ n). ap (λ (i : ℕ). now i a) owner ∙ put_else parts n n (QueueHead new) a differs ∙ ap (λ (i : ℕ). parts i a) (sym owner) ∙ is) (cases_eq a n))
      (λ (differs : m ≢ n). ap (λ (part : Structures). part a) (put_beside parts n n (QueueHead new) m differs) ∙ is) (cases_eq m n)

  bytes_stay : (m a : ℕ) → bytes_in (now m a) ≡ bytes_in (parts m a)
  bytes_stay m a =
      ⊎_elim {C = bytes_in (now m a) ≡ bytes_in (parts m a)}
      (λ (owner : m ≡ n).
      ⊎_elim {C = bytes_in (now m a) ≡ bytes_in (parts m a)}
      (λ (name : a ≡ n). ap (λ (i : ℕ). bytes_in (now i a)) owner ∙ ap (λ (i : ℕ). bytes_in (now n i)) name ∙ ap bytes_in (put_same parts n n (QueueHead new)) ∙ sym (ap bytes_in (was_here m a owner name)))
      (λ (differs : a ≢ n). ap (λ (i : ℕ). bytes_in (now i a)) owner ∙ ap bytes_in (put_else parts n n (QueueHead new) a differs) ∙ ap (λ (i : ℕ). bytes_in (parts i a)) (sym owner)) (cases_eq a n))
      (λ (differs : m ≢ n). ap (λ (part : Structures). bytes_in (part a)) (put_beside parts n n (QueueHead new) m differs)) (cases_eq m n)

  no_element : (t : Qtd) (r : Qh) → Element t ≢ QueueHead r
  no_element t r same = cc

  pub element_stays : (m a : ℕ) (t : Qtd) → parts m a ≡ Some (Element t) → now m a ≡ Some (Element t)
  element_stays m a t is = stays m a (Element t) (no_element t) is

  pub element_was : (m a : ℕ) (t : Qtd) → now m a ≡ Some (Element t) → parts m a ≡ Some (Element t)
  element_was m a t is =
      ⊎_elim {C = parts m a ≡ Some (Element t)} (λ (put_there : (m ≡ n) × (a ≡ n) × (Element t ≡ QueueHead new)). absurd (no_element t new put_there.2)) (λ (was : parts m a ≡ Some (Element t)). was)
      (put_found parts n n (QueueHead new) m a (Element t) is)

  pub buffer_stays : (m : ℕ) (t : Qtd) → buffer_of (now m) t ≡ buffer_of (parts m) t
  buffer_stays m t = bytes_stay m (buffer_name t)

  pub spares_element : (m e : ℕ) → SparesElement parts now m e
  spares_element m e = record { element = λ t is. element_stays m e t is; bytes = λ t is. buffer_stays m t }

  -- ---- fronts and tails

  behind_stays : (order : ℕ → ℕ) (front m a : ℕ) → IsBehind order front (parts m) a → IsBehind order front (now m) a
  behind_stays order front m a b = record { qtd = b.qtd; here = element_stays m a b.qtd b.here; done = b.done; before = b.before; leads = b.leads }

  pub front_stays : (order : ℕ → ℕ) (front : ℕ) (out : List ℕ) (m : ℕ) → (m ≡ n → IsFront order front new) → HasFront order front out m (parts m) → HasFront order front out m (now m)
  front_stays order front out m own k = record {
    queue = λ r is.
        ⊎_elim {C = IsFront order front r} (λ (same : m ≡ n). subst (IsFront order front) (sym (own_is m r same is)) (own same)) (λ (differs : m ≢ n). k.queue r (head_was m r differs is)) (cases_eq m n);
    behind = λ a t among is off. behind_stays order front m a (k.behind a t among (element_was m a t is) off);
    fresh = λ a t among is on. k.fresh a t among (element_was m a t is) on ∙ ap length (sym (buffer_stays m t));
    passes = λ a b e t u among also is there passes. k.passes a b e t u among also (element_was m a t is) (element_was m e u there) passes;
  }

  pub passed_stays : (order : ℕ → ℕ) (front m a : ℕ) → IsPassed order front (parts m) a → IsPassed order front (now m) a
  passed_stays order front m a k = record { qtd = k.qtd; here = element_stays m a k.qtd k.here; published = k.published; before = k.before }

  pub within_stays : (order : ℕ → ℕ) (c m : ℕ) → LinksWithin order c (parts m) → LinksWithin order c (now m)
  within_stays order c m k = record {
    below = λ a t is on reached. k.below a t (element_was m a t is) on reached;
    next = λ a b t is on reached to. k.next a b t (element_was m a t is) on reached to;
    alternate = λ a b t is on reached to. k.alternate a b t (element_was m a t is) on reached to;
  }

  abbrev GoesUpTo : (ℕ → ℕ) → ℕ → Qh → Type 0
  GoesUpTo order c r = (b : ℕ) → r.token.halted ≡ false → r.token.active ≡ false → qtd_link_of (next_pointer r) ≡ qtd_links.To b → order b ≤ order c

  pub tail_stays : (order : ℕ → ℕ) (c front m : ℕ) → (m ≡ n → GoesUpTo order c new) → HasTail order c front m (parts m) → HasTail order c front m (now m)
  tail_stays order c front m own k = record {
    most = k.most;
    rest = λ r b is off idle to.
        ⊎_elim {C = order b ≤ order c} (λ (same : m ≡ n). subst (GoesUpTo order c) (sym (own_is m r same is)) (own same) b off idle to)
        (λ (differs : m ≢ n). k.rest r b (head_was m r differs is) off idle to) (cases_eq m n);
  }

  -- ---- what stops at a halted qTD

  -- none of its qTDs that are out was halted
  pub halts_stay : (order : ℕ → ℕ) (out : List ℕ) (m : ℕ) → (m ≡ n → (a : ℕ) (t : Qtd) → IsAmong a out → parts m a ≡ Some (Element t) → t.token.active ≡ true) → HaltStops order out m (parts m) → HaltStops order out m (now m)
  halts_stay order out m own k = record {
    head = λ a t r among is halted there.
        ⊎_elim {C = r.token.halted ≡ true} (λ (same : m ≡ n). absurd (not_both (own same a t among (element_was m a t is)) halted.done))
        (λ (differs : m ≢ n). k.head a t r among (element_was m a t is) halted (head_was m r differs there)) (cases_eq m n);
    later = λ a e t u among is halted also before there. k.later a e t u among (element_was m a t is) halted also before (element_was m e u there);
  }
    where
      not_both : {b : Bool} → b ≡ true → b ≡ false → ⊥
      not_both on off = cc
