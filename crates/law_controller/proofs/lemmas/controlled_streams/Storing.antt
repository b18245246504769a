-- What the structures are once a qTD was stored in the place of one.
use Rattle.std.proofs.Common.{◌≡◌, ◌≢◌, ℕ, ◌<◌, ◌⊎◌, true, List, [], ◌∷◌, ◌++◌, length, Some, ap, refl, sym, subst, ◌∙◌, ⊎_elim, inl, inr, arith}
use Rattle.std.proofs.lemmas.Bool.{cases_eq}
use Rattle.law_controller.proofs.Common.{lower_one}
use Rattle.law_structures.proofs.Common.{element_is}
use Rattle.link_words.specs.Links.{qtd_link_of}
use Rattle.qh_qtd.specs.declared.qtd.Qtd.{Qtd}
use Rattle.qh_qtd.specs.declared.queue_head.Qh.{Qh}
use Rattle.law_structures.specs.lent_structures.Structures.{Structure, QueueHead, Element, Structures, StructureSets}
use Rattle.law_structures.proofs.lemmas.lent_structures.Names.{put_beside, put_same, put_else, put_found}
use Rattle.law_structures.specs.lent_structures.Sound.{buffer_name}
use Rattle.law_structures.proofs.lemmas.lent_structures.Altering.{no_two}
use Rattle.law_ring.specs.Effects.{bytes_in}
use Rattle.law_ring.specs.Order.{IsFresh, IsOrdered, IsAmong, AreAfter, IsSorted}
use Rattle.law_ring.specs.Sparing.{SparesHead, SparesElement}
use Rattle.law_controller.specs.controlled_streams.Storing.{LeadsLater, stored_parts}

module _ (parts : StructureSets) (n e : ℕ) (old new : Qtd) (here : parts n e ≡ Some (Element old)) where
  abbrev now : StructureSets
  now = stored_parts parts n e new

  -- another structure than a qTD stays
  pub other_stays : (m a : ℕ) (s : Structure) → ((a ≡ e) → (m ≡ n) → ⊥) → parts m a ≡ Some s → now m a ≡ Some s
  other_stays m a s apart is =
      ⊎_elim (λ (owner : m ≡ n).
      ap (λ (i : ℕ). now i a) owner ∙ put_else parts n e (Element new) a (λ name. apart name owner) ∙ ap (λ (i : ℕ). parts i a) (sym owner) ∙ is)
      (λ (differs : m ≢ n). ap (λ (part : Structures). part a) (put_beside parts n e (Element new) m differs) ∙ is) (cases_eq m n)

  at_is : (m a : ℕ) → a ≡ e → m ≡ n → parts m a ≡ Some (Element old)
  at_is m a name owner = ap (λ (i : ℕ). parts i a) owner ∙ ap (parts n) name ∙ here

  head_apart : (m a : ℕ) (q : Qh) → parts m a ≡ Some (QueueHead q) → a ≡ e → m ≡ n → ⊥
  head_apart m a q is name owner = no_two (parts m) a a (QueueHead q) (Element old) is (at_is m a name owner) (λ z. cc) refl

  pub head_stays : (m a : ℕ) (q : Qh) → parts m a ≡ Some (QueueHead q) → now m a ≡ Some (QueueHead q)
  head_stays m a q is = other_stays m a (QueueHead q) (head_apart m a q is) is

  -- what is found there
  never_head : (q : Qh) → QueueHead q ≡ Element new → ⊥
  never_head q same = cc

  pub head_before : (m a : ℕ) (q : Qh) → now m a ≡ Some (QueueHead q) → parts m a ≡ Some (QueueHead q)
  head_before m a q is =
      ⊎_elim (λ (put_there : (m ≡ n) × (a ≡ e) × (QueueHead q ≡ Element new)). absurd (never_head q (put_there.2)))
      (λ (was : parts m a ≡ Some (QueueHead q)). was) (put_found parts n e (Element new) m a (QueueHead q) is)

  pub element_found : (m a : ℕ) (u : Qtd) → now m a ≡ Some (Element u) → ((m ≡ n) × (a ≡ e) × (u ≡ new)) ⊎ (parts m a ≡ Some (Element u))
  element_found m a u is =
      ⊎_elim (λ (put_there : (m ≡ n) × (a ≡ e) × (Element u ≡ Element new)). inl (put_there.0, put_there.1, element_is u new put_there.2))
      (λ (was : parts m a ≡ Some (Element u)). inr was) (put_found parts n e (Element new) m a (Element u) is)

  pub bytes_stay : (m a : ℕ) → bytes_in (now m a) ≡ bytes_in (parts m a)
  bytes_stay m a =
      ⊎_elim (λ (owner : m ≡ n).
      ⊎_elim (λ (name : a ≡ e). ap (λ (i : ℕ). bytes_in (now i a)) owner ∙ ap (λ (i : ℕ). bytes_in (now n i)) name ∙ ap bytes_in (put_same parts n e (Element new)) ∙ sym (ap bytes_in (at_is m a name owner)))
      (λ (differs : a ≢ e). ap (λ (i : ℕ). bytes_in (now i a)) owner ∙ ap bytes_in (put_else parts n e (Element new) a differs) ∙ ap (λ (i : ℕ). bytes_in (parts i a)) (sym owner)) (cases_eq a e))
      (λ (differs : m ≢ n). ap (λ (part : Structures). bytes_in (part a)) (put_beside parts n e (Element new) m differs)) (cases_eq m n)

  pub spares_head : (m : ℕ) → SparesHead parts now m
  spares_head m q is = record { queue = q; here = head_stays m m q is; overlay = record { token = refl; current = refl; offset = refl; endpoint = refl } }

  pub spares_element : (m a : ℕ) → (a ≡ e → m ≡ n → ⊥) → SparesElement parts now m a
  spares_element m a apart = record {
    element = λ t is. other_stays m a (Element t) apart is;
    bytes = λ t is. bytes_stay m (buffer_name t);
  }

  -- the order of another queue head's qTDs, and of this one's
  pub ordered_beside : (order : ℕ → ℕ) (place m : ℕ) → m ≢ n → IsOrdered order place m (parts m) → IsOrdered order place m (now m)
  ordered_beside order place m differs k = subst (IsOrdered order place m) (sym (put_beside parts n e (Element new) m differs)) k

  pub ordered_here : (order : ℕ → ℕ) (place : ℕ) → LeadsLater order e new → (new.token.active ≡ true → IsFresh (parts n) new) → IsOrdered order place n (parts n) → IsOrdered order place n (now n)
  ordered_here order place later fresh k = record {
    next = λ a t b is leads.
        ⊎_elim (λ (put_there : (n ≡ n) × (a ≡ e) × (t ≡ new)). subst (λ (i : ℕ). order i < order b) (sym (put_there.1)) (later.next b (ap (λ (x : Qtd). qtd_link_of x.next) (sym (put_there.2)) ∙ leads)))
        (λ (was : parts n a ≡ Some (Element t)). k.next a t b was leads) (element_found n a t is);
    alternate = λ a t b is leads.
        ⊎_elim (λ (put_there : (n ≡ n) × (a ≡ e) × (t ≡ new)). subst (λ (i : ℕ). order i < order b) (sym (put_there.1)) (later.alternate b (ap (λ (x : Qtd). qtd_link_of x.alternate) (sym (put_there.2)) ∙ leads)))
        (λ (was : parts n a ≡ Some (Element t)). k.alternate a t b was leads) (element_found n a t is);
    queue = λ q is. k.queue q (head_before n n q is);
    fresh = λ a t is on from.
        ⊎_elim (λ (put_there : (n ≡ n) × (a ≡ e) × (t ≡ new)).
        subst (IsFresh (now n)) (sym (put_there.2)) (fresh (ap (λ (x : Qtd). x.token.active) (sym (put_there.2)) ∙ on) ∙ ap length (sym (bytes_stay n (buffer_name new)))))
        (λ (was : parts n a ≡ Some (Element t)). k.fresh a t was on from ∙ ap length (sym (bytes_stay n (buffer_name t)))) (element_found n a t is);
  }

-- ---- its place among those that are out

after_head : (order : ℕ → ℕ) (e a : ℕ) (before after : List ℕ) → AreAfter order a (before ++ e ∷ after) → order a < order e
after_head order e a [] after k = k.0
after_head order e a (b ∷ bs) after k = after_head order e a bs after k.1

after_less : (order : ℕ → ℕ) (e a : ℕ) (before after : List ℕ) → AreAfter order a (before ++ e ∷ after) → AreAfter order a (before ++ after)
after_less order e a [] after k = k.1
after_less order e a (b ∷ bs) after k = (k.0, after_less order e a bs after k.1)

not_itself : (order : ℕ → ℕ) (a b : ℕ) → order a < order b → a ≡ b → ⊥
not_itself order a b less same = let e = ap order same in omega (arith, less, e)

-- none of the others stands there
pub out_apart : (order : ℕ → ℕ) (e : ℕ) (before after : List ℕ) → IsSorted order (before ++ e ∷ after) → (a : ℕ) → IsAmong a (before ++ after) → a ≢ e
out_apart order e [] after k a is same = not_itself order e a (lower_one order e a after k.0 is) (sym same)
out_apart order e (b ∷ bs) after k a (inl is) same = not_itself order b e (after_head order e b bs after k.0) (sym is ∙ same)
out_apart order e (b ∷ bs) after k a (inr is) same = out_apart order e bs after k.1 a is same

pub among_with : (e : ℕ) (before after : List ℕ) (a : ℕ) → IsAmong a (before ++ after) → IsAmong a (before ++ e ∷ after)
among_with e [] after a is = inr is
among_with e (b ∷ bs) after a (inl is) = inl is
among_with e (b ∷ bs) after a (inr is) = inr (among_with e bs after a is)

pub among_either : (e : ℕ) (before after : List ℕ) (a : ℕ) → IsAmong a (before ++ e ∷ after) → (a ≡ e) ⊎ IsAmong a (before ++ after)
among_either e [] after a (inl is) = inl is
among_either e [] after a (inr is) = inr is
among_either e (b ∷ bs) after a (inl is) = inr (inl is)
among_either e (b ∷ bs) after a (inr is) = ⊎_elim (λ (new : a ≡ e). inl new) (λ (old : IsAmong a (bs ++ after)). inr (inr old)) (among_either e bs after a is)
