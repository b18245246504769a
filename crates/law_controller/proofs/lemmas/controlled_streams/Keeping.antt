-- Which writes keep structures, and that keeping joins.
use Rattle.std.proofs.Common.{◌≡◌, ◌≢◌, ℕ, true, List, length, Some, ap, refl, sym, subst, ◌∙◌, ⊎_elim}
use Rattle.std.proofs.lemmas.Bool.{cases_eq, false≢true}
use Rattle.qh_qtd.specs.declared.qtd.Qtd.{Qtd}
use Rattle.qh_qtd.specs.declared.queue_head.Qh.{Qh}
use Rattle.law_structures.specs.lent_structures.Structures.{Structure, QueueHead, Element, Buffer, Structures, StructureSets, with_structure, put}
use Rattle.law_structures.proofs.lemmas.lent_structures.Names.{put_here, put_beside, with_here, with_there}
use Rattle.law_structures.specs.lent_structures.Alters.{IsAfter}
use Rattle.law_structures.proofs.lemmas.lent_structures.Altering.{found_element, found_queue, no_two, unaltered, altered_both, a_queue_head_alters_nothing, a_token_alters_its_qtd, buffer_put}
use Rattle.law_controller.specs.controlled_streams.Kept.{bare, HasHeadAfter, HadHead, Keeps, KeepsEach}

-- ---- nothing changes, and two changes

pub kept_part : (part : Structures) → Keeps part part
kept_part part = record {
  alters = unaltered part;
  idle = λ a t here off. here;
  head = λ a q here. record { queue = q; here = here; same = refl };
  head_before = λ a r here. record { queue = r; here = here; same = refl };
}

pub kept_both : (part mid now : Structures) → Keeps part mid → Keeps mid now → Keeps part now
kept_both part mid now one two = record {
  alters = altered_both part mid now one.alters two.alters;
  idle = λ a t here off. two.idle a t (one.idle a t here off) off;
  head = λ a q here.
      let first = one.head a q here in
      let second = two.head a first.queue first.here in
      record { queue = second.queue; here = second.here; same = second.same ∙ first.same };
  head_before = λ a r here.
      let second = two.head_before a r here in
      let first = one.head_before a second.queue second.here in
      record { queue = first.queue; here = first.here; same = second.same ∙ first.same };
}

-- ---- a structure in the place of one of its kind

other_here : (part : Structures) (a b : ℕ) (s t : Structure) → b ≢ a → part b ≡ Some t → with_structure part a s b ≡ Some t
other_here part a b s t differs here = with_there part a s b differs ∙ here

other_before : (part : Structures) (a b : ℕ) (s t : Structure) → b ≢ a → with_structure part a s b ≡ Some t → part b ≡ Some t
other_before part a b s t differs here = sym (with_there part a s b differs) ∙ here

-- a queue head beside the place of another structure
heads_beside : (part : Structures) (a : ℕ) (s : Structure) → ((q : Qh) → part a ≡ Some (QueueHead q) → ⊥) → (a_queue : ℕ) (q : Qh) → part a_queue ≡ Some (QueueHead q) → HasHeadAfter (with_structure part a s) a_queue q
heads_beside part a s none b q here = record {
  queue = q;
  here = other_here part a b s (QueueHead q) (λ (same : b ≡ a). none q (ap part (sym same) ∙ here)) here;
  same = refl;
}

put_is : (part : Structures) (a b : ℕ) (s t : Structure) → b ≡ a → with_structure part a s b ≡ Some t → Some s ≡ Some t
put_is part a b s t same here = sym (with_here part a s) ∙ ap (with_structure part a s) (sym same) ∙ here

heads_before : (part : Structures) (a : ℕ) (s : Structure) → ((q : Qh) → Some s ≡ Some (QueueHead q) → ⊥) → (b : ℕ) (r : Qh) → with_structure part a s b ≡ Some (QueueHead r) → HadHead part b r
heads_before part a s none b r here = record {
  queue = r;
  here = other_before part a b s (QueueHead r) (λ (same : b ≡ a). none r (put_is part a b s (QueueHead r) same here)) here;
  same = refl;
}

pub kept_head : (part : Structures) (a : ℕ) (q new : Qh) → part a ≡ Some (QueueHead q) → bare new ≡ bare q → Keeps part (with_structure part a (QueueHead new))
kept_head part a q new at same = record {
  alters = a_queue_head_alters_nothing part a q new at;
  idle = λ b t here off. other_here part a b (QueueHead new) (Element t) (no_two part b a (Element t) (QueueHead q) here at (λ e. cc)) here;
  head = λ b r here.
      ⊎_elim (λ (is : b ≡ a). record {
        queue = new;
        here = ap (with_structure part a (QueueHead new)) is ∙ with_here part a (QueueHead new);
        same = same ∙ ap bare (found_queue (part b) q r (ap part is ∙ at) here);
      })
      (λ (differs : b ≢ a). record { queue = r; here = other_here part a b (QueueHead new) (QueueHead r) differs here; same = refl }) (cases_eq b a);
  head_before = λ b r here.
      ⊎_elim (λ (is : b ≡ a). record {
        queue = q;
        here = ap part is ∙ at;
        same = ap bare (found_queue (Some (QueueHead new)) r new (put_is part a b (QueueHead new) (QueueHead r) is here) refl) ∙ same;
      })
      (λ (differs : b ≢ a). record { queue = r; here = other_before part a b (QueueHead new) (QueueHead r) differs here; same = refl }) (cases_eq b a);
}

pub kept_element : (part : Structures) (a : ℕ) (t u : Qtd) → part a ≡ Some (Element t) → t.token.active ≡ true → IsAfter t u → Keeps part (with_structure part a (Element u))
kept_element part a t u at on after = record {
  alters = a_token_alters_its_qtd part a t u at after;
  idle = λ b v here off.
      other_here part a b (Element u) (Element v)
      (λ (is : b ≡ a). false≢true (sym off ∙ ap (λ (x : Qtd). x.token.active) (found_element (part b) v t here (ap part is ∙ at)) ∙ on)) here;
  head = heads_beside part a (Element u) (λ q here. no_two part a a (QueueHead q) (Element t) here at (λ e. cc) refl);
  head_before = heads_before part a (Element u) (λ q is. cc);
}

pub kept_buffer : (part : Structures) (a : ℕ) (pages : List ℕ) (k : ℕ) (bs cs : List ℕ) → part a ≡ Some (Buffer pages k bs) → length cs ≡ length bs → Keeps part (with_structure part a (Buffer pages k cs))
kept_buffer part a pages k bs cs at size = record {
  alters = buffer_put part a pages k bs cs at size;
  idle = λ b t here off. other_here part a b (Buffer pages k cs) (Element t) (no_two part b a (Element t) (Buffer pages k bs) here at (λ e. cc)) here;
  head = heads_beside part a (Buffer pages k cs) (λ q here. no_two part a a (QueueHead q) (Buffer pages k bs) here at (λ e. cc) refl);
  head_before = heads_before part a (Buffer pages k cs) (λ q is. cc);
}

-- ---- the structures of all owners

pub kept_each : (parts : StructureSets) → KeepsEach parts parts
kept_each parts n = kept_part (parts n)

pub kept_same : (parts now : StructureSets) → now ≡ parts → KeepsEach parts now
kept_same parts now same n = subst (λ (x : StructureSets). Keeps (parts n) (x n)) (sym same) (kept_part (parts n))

pub kept_each_both : (parts mid now : StructureSets) → KeepsEach parts mid → KeepsEach mid now → KeepsEach parts now
kept_each_both parts mid now one two n = kept_both (parts n) (mid n) (now n) (one n) (two n)

pub kept_put : (parts : StructureSets) (n a : ℕ) (s : Structure) → Keeps (parts n) (with_structure (parts n) a s) → KeepsEach parts (put parts n a s)
kept_put parts n a s keeps k =
    ⊎_elim (λ (same : k ≡ n). subst (λ (i : ℕ). Keeps (parts i) (put parts n a s i)) (sym same) (subst (Keeps (parts n)) (sym (put_here parts n a s)) keeps))
    (λ (differs : k ≢ n). subst (Keeps (parts k)) (sym (put_beside parts n a s k differs)) (kept_part (parts k))) (cases_eq k n)
