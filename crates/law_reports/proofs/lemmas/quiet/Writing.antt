-- Structures of queues that have errors left, once one more stands among them.
use Rattle.std.proofs.Common.{◌≡◌, ℕ, ◌==◌, cond, Bool, true, false, if◌then◌else◌, Option, Some, None, ap, sym, subst, ◌∙◌}
use Rattle.std.proofs.Common.{⊎_elim}
use Rattle.qh_qtd.specs.declared.qtd.Qtd.{Qtd}
use Rattle.qh_qtd.specs.declared.queue_head.Qh.{Qh}
use Rattle.link_words.specs.declared.fields.LinkBits.{LinkBits}
use Rattle.law_structures.specs.lent_structures.Structures.{Structure, QueueHead, Element, Structures, StructureSets, put}
use Rattle.law_structures.proofs.lemmas.lent_structures.Names.{put_found}
use Rattle.law_structures.proofs.lemmas.lent_structures.Altering.{same_queue}
use Rattle.law_ring.specs.Hand.{Hand, Empty, Copied, Settled, Stale, copied_queue}
use Rattle.law_ring.specs.Fewer.{fewer_structures, without_those}
use Rattle.law_ring.specs.Stores.{hand_linked, hand_stale}
use Rattle.law_reports.specs.quiet.Errors.{Key, key_of, HasLeft, TokenHasLeft, PartHasLeft, HandHasLeft}

element_is : (t u : Qtd) → Element t ≡ Element u → t ≡ u
element_is t u is = cc

no_head : (t : Qtd) (q : Qh) → Element t ≡ QueueHead q → ⊥
no_head t q e = cc

module _ (Q : Key → Bool) where
  pub token_as : (x y : Key) (missed active halted : Bool) (cerr pid total : ℕ) → y ≡ x
      → HasLeft Q x missed active halted cerr pid total → HasLeft Q y missed active halted cerr pid total
  token_as x y missed active halted cerr pid total same k =
      subst (λ (z : Key). HasLeft Q z missed active halted cerr pid total) (sym same) k

  module _ (parts : StructureSets) (m a : ℕ) where
    -- a queue head, whose endpoint is that of the one that was there
    pub head_put : (q : Qh) → TokenHasLeft Q (key_of q) q.token
        → ((t : Qtd) (b : ℕ) → parts m b ≡ Some (Element t) → TokenHasLeft Q (key_of q) t.token)
        → (n : ℕ) → PartHasLeft Q n (parts n) → PartHasLeft Q n (put parts m a (QueueHead q) n)
    head_put q new others n k = record {
      head = λ r here.
          ⊎_elim (λ (is : (n ≡ m) × (n ≡ a) × (QueueHead r ≡ QueueHead q)).
          subst (λ (z : Qh). TokenHasLeft Q (key_of z) z.token) (sym (same_queue r q is.2)) new)
          (λ (was : parts n n ≡ Some (QueueHead r)). k.head r was) (put_found parts m a (QueueHead q) n n (QueueHead r) here);
      elements = λ r b t here there.
          let was : parts n b ≡ Some (Element t) =
          ⊎_elim (λ (is : (n ≡ m) × (b ≡ a) × (Element t ≡ QueueHead q)). absurd (no_head t q is.2))
          (λ (old : parts n b ≡ Some (Element t)). old) (put_found parts m a (QueueHead q) n b (Element t) there) in
          ⊎_elim (λ (is : (n ≡ m) × (n ≡ a) × (QueueHead r ≡ QueueHead q)).
          subst (λ (z : Qh). TokenHasLeft Q (key_of z) t.token) (sym (same_queue r q is.2))
          (others t b (ap (λ (i : ℕ). parts i b) (sym is.0) ∙ was)))
          (λ (old : parts n n ≡ Some (QueueHead r)). k.elements r b t old was) (put_found parts m a (QueueHead q) n n (QueueHead r) here);
    }

    -- a qTD
    pub element_put : (u : Qtd) → ((q : Qh) → parts m m ≡ Some (QueueHead q) → TokenHasLeft Q (key_of q) u.token)
        → (n : ℕ) → PartHasLeft Q n (parts n) → PartHasLeft Q n (put parts m a (Element u) n)
    element_put u new n k = record {
      head = λ r here. k.head r (head_was r here);
      elements = λ r b t here there.
          ⊎_elim (λ (is : (n ≡ m) × (b ≡ a) × (Element t ≡ Element u)).
          subst (λ (z : Qtd). TokenHasLeft Q (key_of r) z.token) (sym (element_is t u is.2))
          (new r (ap (λ (i : ℕ). parts i i) (sym is.0) ∙ head_was r here)))
          (λ (old : parts n b ≡ Some (Element t)). k.elements r b t (head_was r here) old)
          (put_found parts m a (Element u) n b (Element t) there);
    }
      where
        head_was : (r : Qh) → put parts m a (Element u) n n ≡ Some (QueueHead r) → parts n n ≡ Some (QueueHead r)
        head_was r here =
            ⊎_elim (λ (is : (n ≡ m) × (n ≡ a) × (QueueHead r ≡ Element u)). absurd (no_head u r (sym is.2)))
            (λ (old : parts n n ≡ Some (QueueHead r)). old) (put_found parts m a (Element u) n n (QueueHead r) here)

    -- neither of them
    pub other_put : (s : Structure) → ((q : Qh) → QueueHead q ≡ s → ⊥) → ((t : Qtd) → Element t ≡ s → ⊥)
        → (n : ℕ) → PartHasLeft Q n (parts n) → PartHasLeft Q n (put parts m a s n)
    other_put s no_queue no_qtd n k = record {
      head = λ r here. k.head r (head_was r here);
      elements = λ r b t here there.
          k.elements r b t (head_was r here)
          (⊎_elim (λ (is : (n ≡ m) × (b ≡ a) × (Element t ≡ s)). absurd (no_qtd t is.2))
          (λ (old : parts n b ≡ Some (Element t)). old) (put_found parts m a s n b (Element t) there));
    }
      where
        head_was : (r : Qh) → put parts m a s n n ≡ Some (QueueHead r) → parts n n ≡ Some (QueueHead r)
        head_was r here =
            ⊎_elim (λ (is : (n ≡ m) × (n ≡ a) × (QueueHead r ≡ s)). absurd (no_queue r is.2))
            (λ (old : parts n n ≡ Some (QueueHead r)). old) (put_found parts m a s n n (QueueHead r) here)

  -- ---- where nothing is new but links

  pub part_fewer : (n : ℕ) (part now : Structures) → ((q : Qh) → now n ≡ Some (QueueHead q)
      → (l : LinkBits) × (part n ≡ Some (QueueHead (record q { link = l }))))
      → ((a : ℕ) (t : Qtd) → now a ≡ Some (Element t) → part a ≡ Some (Element t)) → PartHasLeft Q n part → PartHasLeft Q n now
  part_fewer n part now heads elements k = record {
    head = λ q here. k.head (record q { link = (heads q here).0 }) (heads q here).1;
    elements = λ q a t here there. k.elements (record q { link = (heads q here).0 }) a t (heads q here).1 (elements a t there);
  }

  found_still : (goes : Bool) (o : Option Structure) (s : Structure) → cond goes None o ≡ Some s → o ≡ Some s
  found_still true o s here = absurd (cc)
  found_still false o s here = here

  pub without_left : (parts : StructureSets) (m : ℕ) (goes : ℕ → Bool) (n : ℕ) → PartHasLeft Q n (parts n)
      → PartHasLeft Q n (without_those parts m goes n)
  without_left parts m goes n k = part_fewer n (parts n) (without_those parts m goes n) (λ q here. (
    q.link,
    by n (QueueHead q)
        (n == m) here,
  ))
      (λ a t here. by a (Element t) (n == m) here) k
    where
      by : (a : ℕ) (s : Structure) (own : Bool) → (if own then fewer_structures goes (parts n) else parts n) a ≡ Some s → parts n a ≡ Some s
      by a s true there = found_still (goes a) (parts n a) s there
      by a s false there = there

  -- ---- what is in hand once a word was stored

  pub linked_left : (n : ℕ) (l : LinkBits) (hand : Hand) → HandHasLeft Q hand → HandHasLeft Q (hand_linked n l hand)
  linked_left n l Empty k = tt
  linked_left n l (Copied c) k = tt
  linked_left n l (Settled c z) k = by (c.at == n)
    where
      by : (b : Bool) → HasLeft Q (key_of (if b then record c.queue { link = l } else c.queue)) z.host.missed z.host.active z.host.halted
          z.host.cerr (if b then record c.queue { link = l } else c.queue).token.pid z.host.left
      by true = k
      by false = k
  linked_left n l (Stale m q) k = tt

  pub stale_left : (n : ℕ) (hand : Hand) → HandHasLeft Q hand → HandHasLeft Q (hand_stale n hand)
  stale_left n Empty k = tt
  stale_left n (Copied c) k = by (c.at == n)
    where
      by : (b : Bool) → HandHasLeft Q (if b then Stale n (copied_queue c) else Copied c)
      by true = tt
      by false = tt
  stale_left n (Settled c z) k = k
  stale_left n (Stale m q) k = tt
