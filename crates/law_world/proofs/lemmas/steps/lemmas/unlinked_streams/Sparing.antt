-- What the store of a queue head's link leaves of all structures: each overlay, each qTD and each buffer.
use Rattle.std.proofs.Common.{◌≡◌, ◌≢◌, ℕ, List, length, Some, ap, refl, sym, ◌∙◌, ⊎_elim, inl}
use Rattle.std.proofs.lemmas.Bool.{cases_eq}
use Rattle.std.proofs.lemmas.Option.{same_Some}
use Rattle.law_devices.proofs.Common.{pointer_still}
use Rattle.link_words.specs.declared.fields.LinkBits.{LinkBits}
use Rattle.link_words.specs.Links.{qtd_link_of}
use Rattle.qh_qtd.specs.declared.token.Token.{Token}
use Rattle.qh_qtd.specs.declared.qtd.Qtd.{Qtd}
use Rattle.qh_qtd.specs.declared.queue_head.Qh.{Qh}
use Rattle.law_structures.specs.lent_structures.Structures.{Structure, QueueHead, Element, Structures, StructureSets, put}
use Rattle.law_structures.proofs.lemmas.lent_structures.Names.{put_beside, put_same, put_else, put_found}
use Rattle.law_structures.specs.lent_structures.Sound.{buffer_name}
use Rattle.law_structures.proofs.lemmas.lent_structures.Altering.{found_queue, same_queue}
use Rattle.law_ring.specs.Effects.{bytes_in, buffer_of}
use Rattle.law_ring.specs.Told.{endpoint_of}
use Rattle.law_ring.specs.Sparing.{SparesHead, SparesElement}
use Rattle.law_ring.specs.Front.{IsPassed, HadRest, HasFront, LinksWithin, HasTail}
use Rattle.law_ring.proofs.FrontGoing.{front_is_spared}

-- the queue head q, at n, has the link l then
module _ (parts : StructureSets) (n : ℕ) (q : Qh) (l : LinkBits) (head : parts n n ≡ Some (QueueHead q)) where
  abbrev relinked : Qh
  relinked = record q { link = l }

  abbrev now : StructureSets
  now = put parts n n (QueueHead relinked)

  here_now : (m : ℕ) → m ≡ n → now m m ≡ Some (QueueHead relinked)
  here_now m same = ap (λ (i : ℕ). now i i) same ∙ put_same parts n n (QueueHead relinked)

  was_here : (m a : ℕ) → m ≡ n → a ≡ n → parts m a ≡ Some (QueueHead q)
  was_here m a owner name = ap (λ (i : ℕ). parts i a) owner ∙ ap (parts n) name ∙ head

  -- ---- queue heads

  pub spares_head : (m : ℕ) → SparesHead parts now m
  spares_head m r is =
      ⊎_elim (λ (same : m ≡ n).
      let queue : r ≡ q = found_queue (parts m m) r q is (was_here m m same same) in
      record {
        queue = relinked;
        here = here_now m same;
        overlay = record {
          token = ap (λ (z : Qh). z.token) (sym queue);
          current = ap (λ (z : Qh). z.current) (sym queue);
          offset = ap (λ (z : Qh). z.offset) (sym queue);
          endpoint = ap endpoint_of (sym queue);
        };
      })
      (λ (differs : m ≢ n). record {
        queue = r;
        here = ap (λ (part : Structures). part m) (put_beside parts n n (QueueHead relinked) m differs) ∙ is;
        overlay = record { token = refl; current = refl; offset = refl; endpoint = refl };
      }) (cases_eq m n)

  pub had_rest : (m : ℕ) (r : Qh) → now m m ≡ Some (QueueHead r) → HadRest (parts m) m r
  had_rest m r is =
      ⊎_elim (λ (put_there : (m ≡ n) × (m ≡ n) × (QueueHead r ≡ QueueHead relinked)).
      let same : r ≡ relinked = same_queue r relinked put_there.2 in
      record {
        queue = q;
        here = was_here m m put_there.0 put_there.0;
        rest = record {
          token = ap (λ (z : Qh). z.token) same;
          current = ap (λ (z : Qh). z.current) same;
          next = ap (λ (z : Qh). z.next) same;
          alternate = ap (λ (z : Qh). z.alternate) same;
        };
      })
      (λ (was : parts m m ≡ Some (QueueHead r)). record { queue = r; here = was; rest = record { token = refl; current = refl; next = refl; alternate = refl } })
      (put_found parts n n (QueueHead relinked) m m (QueueHead r) is)

  -- ---- qTDs and buffers

  pub stays : (m a : ℕ) (s : Structure) → ((r : Qh) → s ≢ QueueHead r) → parts m a ≡ Some s → now m a ≡ Some s
  stays m a s other is =
      ⊎_elim (λ (owner : m ≡ n).
      ⊎_elim (λ (name : a ≡ n). absurd (other q (same_Some s (QueueHead q) (sym is ∙ was_here m a owner name))))
      (λ (differs : a ≢ n). ap (λ (i : ℕ). now i a) owner ∙ put_else parts n n (QueueHead relinked) a differs ∙ ap (λ (i : ℕ). parts i a) (sym owner) ∙ is) (cases_eq a n))
      (λ (differs : m ≢ n). ap (λ (part : Structures). part a) (put_beside parts n n (QueueHead relinked) m differs) ∙ is) (cases_eq m n)

  bytes_stay : (m a : ℕ) → bytes_in (now m a) ≡ bytes_in (parts m a)
  bytes_stay m a =
      ⊎_elim (λ (owner : m ≡ n).
      ⊎_elim (λ (name : a ≡ n). ap (λ (i : ℕ). bytes_in (now i a)) owner ∙ ap (λ (i : ℕ). bytes_in (now n i)) name ∙ ap bytes_in (put_same parts n n (QueueHead relinked)) ∙ sym (ap bytes_in (was_here m a owner name)))
      (λ (differs : a ≢ n). ap (λ (i : ℕ). bytes_in (now i a)) owner ∙ ap bytes_in (put_else parts n n (QueueHead relinked) a differs) ∙ ap (λ (i : ℕ). bytes_in (parts i a)) (sym owner)) (cases_eq a n))
      (λ (differs : m ≢ n). ap (λ (part : Structures). bytes_in (part a)) (put_beside parts n n (QueueHead relinked) m differs)) (cases_eq m n)

  no_element : (t : Qtd) (r : Qh) → Element t ≢ QueueHead r
  no_element t r same = cc

  pub element_stays : (m a : ℕ) (t : Qtd) → parts m a ≡ Some (Element t) → now m a ≡ Some (Element t)
  element_stays m a t is = stays m a (Element t) (no_element t) is

  pub element_was : (m a : ℕ) (t : Qtd) → now m a ≡ Some (Element t) → parts m a ≡ Some (Element t)
  element_was m a t is =
      ⊎_elim (λ (put_there : (m ≡ n) × (a ≡ n) × (Element t ≡ QueueHead relinked)). absurd (no_element t relinked put_there.2)) (λ (was : parts m a ≡ Some (Element t)). was)
      (put_found parts n n (QueueHead relinked) m a (Element t) is)

  pub buffer_stays : (m : ℕ) (t : Qtd) → buffer_of (now m) t ≡ buffer_of (parts m) t
  buffer_stays m t = bytes_stay m (buffer_name t)

  pub spares_element : (m e : ℕ) → SparesElement parts now m e
  spares_element m e = record { element = λ t is. element_stays m e t is; bytes = λ t is. buffer_stays m t }

  -- ---- fronts and tails

  pub front_stays : (order : ℕ → ℕ) (front : ℕ) (out : List ℕ) (m : ℕ) → HasFront order front out m (parts m) → HasFront order front out m (now m)
  front_stays order front out m k =
      front_is_spared order front out out m (parts m) (now m) k (had_rest m) (λ a t among is. inl (among, element_was m a t is, ap length (buffer_stays m t)))

  pub passed_stays : (order : ℕ → ℕ) (front m a : ℕ) → IsPassed order front (parts m) a → IsPassed order front (now m) a
  passed_stays order front m a k = record { qtd = k.qtd; here = element_stays m a k.qtd k.here; published = k.published; before = k.before }

  pub within_stays : (order : ℕ → ℕ) (c m : ℕ) → LinksWithin order c (parts m) → LinksWithin order c (now m)
  within_stays order c m k = record {
    below = λ a t is on reached. k.below a t (element_was m a t is) on reached;
    next = λ a b t is on reached to. k.next a b t (element_was m a t is) on reached to;
    alternate = λ a b t is on reached to. k.alternate a b t (element_was m a t is) on reached to;
  }

  pub tail_stays : (order : ℕ → ℕ) (c front m : ℕ) → HasTail order c front m (parts m) → HasTail order c front m (now m)
  tail_stays order c front m k = record {
    most = k.most;
    rest = λ r b is off idle to.
        let had : HadRest (parts m) m r = had_rest m r is in
        k.rest had.queue b had.here (ap (λ (t : Token). t.halted) (sym had.rest.token) ∙ off) (ap (λ (t : Token). t.active) (sym had.rest.token) ∙ idle)
        (ap qtd_link_of (sym (pointer_still had.queue r had.rest)) ∙ to);
  }
