-- Schedules as a member is linked or unlinked, and what its members are.
use Rattle.std.proofs.Common.{◌≡◌, ℕ, suc, ◌≤◌, Bool, true, false, not, ◌&&◌, ◌||◌, cond, List, [], ◌∷◌, ◌++◌, length, ap, sym, subst, ◌∙◌, ⊎_elim, refl, arith, length-append}
use Rattle.std.specs.Prelude.{◌⊎◌, filter, nat_eq}
use Rattle.std.specs.List.{AllByRecursion, list_any}
use Rattle.std.proofs.lemmas.Bool.{false≢true, or_cases, eqb-true, eq-eqb}
use Rattle.std.proofs.lemmas.List.Filters.{length-filter_both}
use Rattle.std.proofs.lemmas.List.Folds.{list_any-append}
use Rattle.law_common.proofs.Lists.{all_more}
use Rattle.law_common.proofs.Booleans.{or_neither}
use Rattle.law_driver.proofs.Common.{that_is}
use Rattle.drv_chains.specs.declared.members.Descriptor.{Descriptor}
use Rattle.drv_chains.specs.declared.members.QueueHead.{QueueHead}
use Rattle.drv_chains.specs.declared.members.Member.{Member}
use Rattle.drv_chains.specs.declared.members.Member.TheVariants.{Once, Each}
use Rattle.drv_chains.specs.Chains.{Schedule, id_of, has_name}
use Rattle.drv_chains.proofs.Words.{all_kept}
use Rattle.drv_chains.proofs.Orders.{both_parts}
use Rattle.drv_members.specs.Ranks.{rank_of, is_named, is_called}
use Rattle.drv_members.specs.Members.{is_up_to, is_below, with_descriptor, with_member, without_member, is_that, is_this, is_linked}
use Rattle.law_driver.specs.listed_members.Members.{HasMembers}

-- ---- lists

-- of the elements that pass no test, where each of them is P
pub all_less : {X : Type 0} (P Q : X → Type 0) (test : X → Bool) (xs : List X) → ((x : X) → P x → test x ≡ false → Q x) → AllByRecursion P xs → AllByRecursion Q (filter (λ x. not (test x)) xs)
all_less P Q test [] each all = tt
all_less {X = X} P Q test (x ∷ xs) each all = at (test x) refl (all_less P Q test xs each all.1)
  where
    at : (b : Bool) → test x ≡ b → AllByRecursion Q (filter (λ y. not (test y)) xs) → AllByRecursion Q (cond (not b) (x ∷ filter (λ y. not (test y)) xs) (filter (λ y. not (test y)) xs))
    at true on rest = rest
    at false off rest = (each x all.0 off, rest)

or_left : (a b c : Bool) → b || c ≡ true → (a || b) || c ≡ true
or_left true b c h = refl
or_left false b c h = h

or_right : (a b c : Bool) → b || c ≡ true → b || (a || c) ≡ true
or_right a true c h = refl
or_right true false c h = refl
or_right false false c h = h

here_right : (b c : Bool) → b || (true || c) ≡ true
here_right true c = refl
here_right false c = refl

-- one that passes is among those that pass another test or among the rest
any_parts : {X : Type 0} (f test : X → Bool) (xs : List X) → list_any f xs ≡ true → list_any f (filter test xs) || list_any f (filter (λ x. not (test x)) xs) ≡ true
any_parts f test [] h = absurd (false≢true h)
any_parts {X = X} f test (x ∷ xs) h =
    ⊎_elim (λ (on : f x ≡ true). first (test x) on) (λ (rest : list_any f xs ≡ true). more (test x) (any_parts f test xs rest)) (or_cases (f x) (list_any f xs) h)
  where
    ys : List X
    ys = filter test xs

    zs : List X
    zs = filter (λ y. not (test y)) xs

    first : (b : Bool) → f x ≡ true → list_any f (cond b (x ∷ ys) ys) || list_any f (cond (not b) (x ∷ zs) zs) ≡ true
    first true on = ap (λ t. (t || list_any f ys) || list_any f zs) on
    first false on = ap (λ t. list_any f ys || (t || list_any f zs)) on ∙ here_right (list_any f ys) (list_any f zs)

    more : (b : Bool) → list_any f ys || list_any f zs ≡ true → list_any f (cond b (x ∷ ys) ys) || list_any f (cond (not b) (x ∷ zs) zs) ≡ true
    more true h = or_left (f x) (list_any f ys) (list_any f zs) h
    more false h = or_right (f x) (list_any f ys) (list_any f zs) h

pub any_around : {X : Type 0} (f test : X → Bool) (x : X) (xs : List X) → list_any f xs ≡ true → list_any f (filter test xs ++ x ∷ filter (λ y. not (test y)) xs) ≡ true
any_around f test x xs h =
    list_any-append f (filter test xs) (x ∷ filter (λ y. not (test y)) xs)
    ∙ or_right (f x) (list_any f (filter test xs)) (list_any f (filter (λ y. not (test y)) xs)) (any_parts f test xs h)

pub any_here : {X : Type 0} (f : X → Bool) (x : X) (ys zs : List X) → f x ≡ true → list_any f (ys ++ x ∷ zs) ≡ true
any_here f x ys zs on = list_any-append f ys (x ∷ zs) ∙ ap (λ t. list_any f ys || (t || list_any f zs)) on ∙ here_right (list_any f ys) (list_any f zs)

-- one that passes is left where those that pass it pass no other test
pub any_left : {X : Type 0} (f test : X → Bool) (xs : List X) → ((x : X) → f x ≡ true → test x ≡ false) → list_any f xs ≡ true → list_any f (filter (λ x. not (test x)) xs) ≡ true
any_left f test [] other h = absurd (false≢true h)
any_left {X = X} f test (x ∷ xs) other h =
    ⊎_elim (λ (on : f x ≡ true). first (test x) on (other x on)) (λ (rest : list_any f xs ≡ true). more (test x) (any_left f test xs other rest)) (or_cases (f x) (list_any f xs) h)
  where
    ys : List X
    ys = filter (λ y. not (test y)) xs

    first : (b : Bool) → f x ≡ true → b ≡ false → list_any f (cond (not b) (x ∷ ys) ys) ≡ true
    first true on off = absurd (false≢true (sym off))
    first false on off = ap (λ t. t || list_any f ys) on

    more : (b : Bool) → list_any f ys ≡ true → list_any f (cond (not b) (x ∷ ys) ys) ≡ true
    more true h = h
    more false h = last (f x) (list_any f ys) h
      where
        last : (s t : Bool) → t ≡ true → s || t ≡ true
        last true t h = refl
        last false t h = h

pub none_any : {X : Type 0} (f : X → Bool) (xs : List X) → AllByRecursion (λ x. f x ≡ false) xs → list_any f xs ≡ false
none_any f [] all = refl
none_any f (x ∷ xs) all = ap (λ t. t || list_any f xs) all.0 ∙ none_any f xs all.1

pub any_none : {X : Type 0} (f : X → Bool) (xs : List X) → list_any f xs ≡ false → AllByRecursion (λ x. f x ≡ false) xs
any_none f [] h = tt
any_none f (x ∷ xs) h = let b = or_neither (f x) (list_any f xs) h in (b.0, any_none f xs b.1)

-- ---- names

other_name : (n id : ℕ) → nat_eq n id ≡ false → n ≡ id → ⊥
other_name n id off same = false≢true (sym off ∙ eq-eqb n id same)

pub name_differs : (n id : ℕ) → (n ≡ id → ⊥) → nat_eq n id ≡ false
name_differs n id differs = at (nat_eq n id) refl
  where
    at : (b : Bool) → nat_eq n id ≡ b → b ≡ false
    at true on = absurd (differs (eqb-true n id on))
    at false off = refl

pub that_same : (k : Descriptor) → is_that k k ≡ true
that_same k = ap (λ b. b && nat_eq k.frame k.frame) (eq-eqb k.id k.id refl) ∙ eq-eqb k.frame k.frame refl

pub this_same : (q : QueueHead) → is_this q q ≡ true
this_same q =
    ap (λ b. b && (nat_eq q.period q.period && nat_eq q.phase q.phase)) (eq-eqb q.id q.id refl) ∙ ap (λ b. b && nat_eq q.phase q.phase) (eq-eqb q.period q.period refl)
    ∙ eq-eqb q.phase q.phase refl

pub unnamed : (s : Schedule) (id : ℕ) → AllByRecursion (λ (k : Descriptor). k.id ≡ id → ⊥) s.descriptors → AllByRecursion (λ (q : QueueHead). q.id ≡ id → ⊥) s.queues → has_name s id ≡ false
unnamed s id descriptors queues =
    ap (λ b. b || list_any (λ (q : QueueHead). nat_eq q.id id) s.queues)
    (none_any (λ (k : Descriptor). nat_eq k.id id) s.descriptors (all_more (λ (k : Descriptor). k.id ≡ id → ⊥) (λ (k : Descriptor). nat_eq k.id id ≡ false) s.descriptors (λ k differs. name_differs k.id id differs) descriptors))
    ∙ none_any (λ (q : QueueHead). nat_eq q.id id) s.queues (all_more (λ (q : QueueHead). q.id ≡ id → ⊥) (λ (q : QueueHead). nat_eq q.id id ≡ false) s.queues (λ q differs. name_differs q.id id differs) queues)

-- ---- how many

pub one_longer : (ds : List Descriptor) (k : Descriptor) → length (with_descriptor ds k) ≡ suc (length ds)
one_longer ds k =
    let a = length-append (filter (is_below k.frame) ds) (k ∷ filter (λ x. not (is_below k.frame x)) ds) in
    let b = length-filter_both (is_below k.frame) (λ x. not (is_below k.frame x)) (λ x. refl) ds in
    omega (arith, a, b)

pub no_longer : (id : ℕ) (ds : List Descriptor) → length (filter (λ x. not (is_called id x)) ds) ≤ length ds
no_longer id ds = let b = length-filter_both (is_called id) (λ x. not (is_called id x)) (λ x. refl) ds in omega (arith, b)

-- ---- the members

pub same_members : {Q Q2 : QueueHead → Type 0} {S S2 : Member → Type 0} {s : Schedule} → ((q : QueueHead) → Q q → Q2 q) → ((m : Member) → S m → S2 m) → ((m : Member) → S2 m → S m) → HasMembers Q S s → HasMembers Q2 S2 s
same_members {Q = Q} {Q2 = Q2} {S = S} {S2 = S2} {s = s} queues forth back old = record {
  queues = all_more Q Q2 s.queues queues old.queues;
  descriptors = all_more (λ (k : Descriptor). S (Once k)) (λ (k : Descriptor). S2 (Once k)) s.descriptors (λ k. forth (Once k)) old.descriptors;
  each = λ m stands. old.each m (back m stands);
}

still_linked : (s : Schedule) (k : Descriptor) (m : Member) → is_linked s m ≡ true → is_linked (with_member s (Once k)) m ≡ true
still_linked s k (Once x) on = any_around (is_that x) (is_below k.frame) k s.descriptors on
still_linked s k (Each q) on = on

-- a descriptor is linked
pub with_linked : {Q : QueueHead → Type 0} {S S2 : Member → Type 0} {s : Schedule} (k : Descriptor) → ((m : Member) → S m → S2 m) → S2 (Once k) → ((m : Member) → S2 m → S m ⊎ (m ≡ Once k)) → HasMembers Q S s → HasMembers Q S2 (with_member s (Once k))
with_linked {S = S} {S2 = S2} {s = s} k forth new back old =
    let now = all_more (λ (x : Descriptor). S (Once x)) (λ (x : Descriptor). S2 (Once x)) s.descriptors (λ x. forth (Once x)) old.descriptors in
    record {
      queues = old.queues;
      descriptors = both_parts (λ (x : Descriptor). S2 (Once x)) (filter (is_below k.frame) s.descriptors) (k ∷ filter (λ x. not (is_below k.frame x)) s.descriptors)
          (all_kept (λ (x : Descriptor). S2 (Once x)) (is_below k.frame) s.descriptors now) (new, all_kept (λ (x : Descriptor). S2 (Once x)) (λ x. not (is_below k.frame x)) s.descriptors now);
      each = λ m stands.
          ⊎_elim (λ (was : S m). still_linked s k m (old.each m was))
          (λ (is : m ≡ Once k).
          subst (λ (x : Member). is_linked (with_member s (Once k)) x ≡ true) (sym is)
          (any_here (is_that k) k (filter (is_below k.frame) s.descriptors) (filter (λ x. not (is_below k.frame x)) s.descriptors) (that_same k))) (back m stands);
    }

left_linked : (s : Schedule) (k : Descriptor) (m : Member) → (id_of m ≡ k.id → ⊥) → is_linked s m ≡ true → is_linked (without_member s (Once k)) m ≡ true
left_linked s k (Once x) differs on =
    any_left (is_that x) (is_called k.id) s.descriptors (λ y same. name_differs y.id k.id (λ e. differs (ap (λ (z : Descriptor). z.id) (sym (that_is x y same)) ∙ e))) on
left_linked s k (Each q) differs on = on

-- a descriptor is unlinked
pub without_unlinked : {Q : QueueHead → Type 0} {S S2 : Member → Type 0} {s : Schedule} (k : Descriptor) → ((m : Member) → S m → (id_of m ≡ k.id → ⊥) → S2 m) → ((m : Member) → S2 m → S m × (id_of m ≡ k.id → ⊥)) → HasMembers Q S s → HasMembers Q S2 (without_member s (Once k))
without_unlinked {S = S} {S2 = S2} {s = s} k forth back old = record {
  queues = old.queues;
  descriptors = all_less (λ (x : Descriptor). S (Once x)) (λ (x : Descriptor). S2 (Once x)) (is_called k.id) s.descriptors (λ x was off. forth (Once x) was (other_name x.id k.id off)) old.descriptors;
  each = λ m stands. let b = back m stands in left_linked s k m b.1 (old.each m b.0);
}

queue_linked : (s : Schedule) (q : QueueHead) (m : Member) → is_linked s m ≡ true → is_linked (with_member s (Each q)) m ≡ true
queue_linked s q (Once x) on = on
queue_linked s q (Each r) on = any_around (is_this r) (is_up_to (rank_of q)) q s.queues on

-- a queue head is linked
pub with_queue_linked : {Q : QueueHead → Type 0} {S : Member → Type 0} {s : Schedule} (q : QueueHead) → Q q → HasMembers Q S s → HasMembers Q S (with_member s (Each q))
with_queue_linked {Q = Q} {s = s} q new old = record {
  queues = both_parts Q (filter (is_up_to (rank_of q)) s.queues) (q ∷ filter (λ x. not (is_up_to (rank_of q) x)) s.queues)
      (all_kept Q (is_up_to (rank_of q)) s.queues old.queues) (new, all_kept Q (λ x. not (is_up_to (rank_of q) x)) s.queues old.queues);
  descriptors = old.descriptors;
  each = λ m stands. queue_linked s q m (old.each m stands);
}

-- a queue head is unlinked: the members are those of other names
pub without_queue : {Q : QueueHead → Type 0} {S : Member → Type 0} {s : Schedule} (q : QueueHead) → ((m : Member) → S m → (x : Descriptor) × (m ≡ Once x)) → HasMembers Q S s → HasMembers (λ r. Q r × (r.id ≡ q.id → ⊥)) S (without_member s (Each q))
without_queue {Q = Q} {S = S} {s = s} q once old = record {
  queues = all_less Q (λ r. Q r × (r.id ≡ q.id → ⊥)) (is_named q.id) s.queues (λ r was off. (was, other_name r.id q.id off)) old.queues;
  descriptors = old.descriptors;
  each = λ m stands.
      let k = once m stands in
      subst (λ (x : Member). is_linked (without_member s (Each q)) x ≡ true) (sym k.1) (subst (λ (x : Member). is_linked s x ≡ true) k.1 (old.each m stands));
}
