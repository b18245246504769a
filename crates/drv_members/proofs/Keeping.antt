-- One member more, and one less, leaves a schedule in order; where a member stands in it.
use Rattle.std.proofs.Common.{◌≡◌, ℕ, ◌+◌, ◌<◌, ◌≤◌, Bool, true, false, List, [], ◌∷◌, ◌++◌, cond, nat_eq, refl, ap, sym, ◌∙◌, subst, arith}
use Rattle.std.specs.Prelude.{◌||◌, ◌&&◌, filter, not, count_by}
use Rattle.std.specs.List.{AllByRecursion, list_any}
use Rattle.std.proofs.lemmas.Bool.{and_parts, eqb-true, eq-eqb, leb-true, ltb-true}
use Rattle.drv_chains.proofs.Words.{all_kept}
use Rattle.drv_chains.proofs.Beside.{left_false, none_named}
use Rattle.drv_chains.specs.declared.members.Descriptor.{Descriptor}
use Rattle.drv_chains.specs.declared.members.QueueHead.{QueueHead}
use Rattle.drv_chains.specs.declared.members.Member.{Member}
use Rattle.drv_chains.specs.declared.members.Member.TheVariants.{Once, Each}
use Rattle.drv_chains.specs.Chains.{Schedule, of_lists, has_name, id_of}
use Rattle.drv_members.specs.Ranks.{rank_of, is_queue, is_named, is_called}
use Rattle.drv_members.specs.Members.{IsRising, IsKept, IsMember, names, frame_in, is_up_to, with_queue, is_below, with_descriptor, with_member, without_member, is_this, is_that, is_linked}
use Rattle.drv_members.proofs.Sorted.{not_up, not_below}
use Rattle.drv_members.proofs.Merge.{both_all, rising_kept, rising_more}
use Rattle.drv_members.proofs.Splits.{IsAt, is_at, none_any, none_counted, none_listed, one_if, count_first, count_two, count_parts, count_fewer}

pass_or_not : {X : Type 0} (P : X → Type 0) (x : X) (xs : List X) (b : Bool) → (b ≡ true → P x) → AllByRecursion P xs → AllByRecursion P (cond b (x ∷ xs) xs)
pass_or_not P x xs true f h = (f refl, h)
pass_or_not P x xs false f h = h

pub kept_pass : {X : Type 0} (P : X → Type 0) (test : X → Bool) → ((x : X) → test x ≡ true → P x) → (xs : List X) → AllByRecursion P (filter test xs)
kept_pass P test f [] = tt
kept_pass P test f (x ∷ xs) = pass_or_not P x (filter test xs) (test x) (f x) (kept_pass P test f xs)

-- names
unnamed : (s : Schedule) (id : ℕ) → has_name s id ≡ false → names s id ≡ 0
unnamed s id h =
    let k = left_false (list_any (is_called id) s.descriptors) (list_any (is_named id) s.queues) h in
    let a = none_any (is_called id) s.descriptors (none_named (is_called id) s.descriptors k.0) in
    let b = none_any (is_named id) s.queues (none_named (is_named id) s.queues k.1) in
    omega (arith, a, b)

one_more : (id n c : ℕ) (s : Schedule) (b : Bool) → nat_eq n id ≡ b → has_name s n ≡ false → names s id ≤ 1 → c ≡ names s id + one_if b → c ≤ 1
one_more id n c s true e h k j =
    let z = unnamed s n h in
    let y : names s id ≡ 0 = subst (λ x. names s x ≡ 0) (eqb-true n id e) z in
    omega (arith, y, j)
one_more id n c s false e h k j = omega (arith, k, j)

queue_count : (s : Schedule) (q : QueueHead) (id : ℕ) → names (of_lists s.descriptors (with_queue s.queues q)) id ≡ names s id + one_if (nat_eq q.id id)
queue_count s q id =
    let a = count_two (is_named id) (filter (is_up_to (rank_of q)) s.queues) (q ∷ filter (λ x. not (is_up_to (rank_of q) x)) s.queues) in
    let b = count_parts (is_named id) (is_up_to (rank_of q)) s.queues in
    let c = count_first (is_named id) q (filter (λ x. not (is_up_to (rank_of q) x)) s.queues) in
    omega (arith, a, b, c)

descriptor_count : (s : Schedule) (d : Descriptor) (id : ℕ) → names (of_lists (with_descriptor s.descriptors d) s.queues) id ≡ names s id + one_if (nat_eq d.id id)
descriptor_count s d id =
    let a = count_two (is_called id) (filter (is_below d.frame) s.descriptors) (d ∷ filter (λ x. not (is_below d.frame x)) s.descriptors) in
    let b = count_parts (is_called id) (is_below d.frame) s.descriptors in
    let c = count_first (is_called id) d (filter (λ x. not (is_below d.frame x)) s.descriptors) in
    omega (arith, a, b, c)

-- one more
pub keeps_queue : (s : Schedule) (q : QueueHead) → IsKept s → is_queue q ≡ true → has_name s q.id ≡ false → IsKept (of_lists s.descriptors (with_queue s.queues q))
keeps_queue s q k h n = record {
  ranked = rising_more rank_of (filter (is_up_to (rank_of q)) s.queues) q (filter (λ x. not (is_up_to (rank_of q) x)) s.queues)
      (rising_kept rank_of (is_up_to (rank_of q)) s.queues k.ranked) (rising_kept rank_of (λ x. not (is_up_to (rank_of q) x)) s.queues k.ranked)
      (kept_pass (λ x. rank_of x ≤ rank_of q) (is_up_to (rank_of q)) (λ x e. leb-true (rank_of x) (rank_of q) e) s.queues)
      (kept_pass (λ x. rank_of q ≤ rank_of x) (λ x. not (is_up_to (rank_of q) x)) (λ x e. not_up (rank_of x) (rank_of q) e) s.queues);
  queues = both_all (λ x. is_queue x ≡ true) (filter (is_up_to (rank_of q)) s.queues) (q ∷ filter (λ x. not (is_up_to (rank_of q) x)) s.queues)
      (all_kept (λ x. is_queue x ≡ true) (is_up_to (rank_of q)) s.queues k.queues) (h, all_kept (λ x. is_queue x ≡ true) (λ x. not (is_up_to (rank_of q) x)) s.queues k.queues);
  framed = k.framed;
  frames = k.frames;
  named = λ id. one_more id q.id (names (of_lists s.descriptors (with_queue s.queues q)) id) s (nat_eq q.id id) refl n (k.named id) (queue_count s q id);
}

pub keeps_descriptor : (s : Schedule) (d : Descriptor) → IsKept s → d.frame < 1024 → has_name s d.id ≡ false → IsKept (of_lists (with_descriptor s.descriptors d) s.queues)
keeps_descriptor s d k h n = record {
  ranked = k.ranked;
  queues = k.queues;
  framed = rising_more frame_in (filter (is_below d.frame) s.descriptors) d (filter (λ x. not (is_below d.frame x)) s.descriptors)
      (rising_kept frame_in (is_below d.frame) s.descriptors k.framed) (rising_kept frame_in (λ x. not (is_below d.frame x)) s.descriptors k.framed)
      (kept_pass (λ x. frame_in x ≤ d.frame) (is_below d.frame) (λ x e. let l = ltb-true x.frame d.frame e in omega (arith, l)) s.descriptors)
      (kept_pass (λ x. d.frame ≤ frame_in x) (λ x. not (is_below d.frame x)) (λ x e. not_below x.frame d.frame e) s.descriptors);
  frames = both_all (λ x. frame_in x < 1024) (filter (is_below d.frame) s.descriptors) (d ∷ filter (λ x. not (is_below d.frame x)) s.descriptors)
      (all_kept (λ x. frame_in x < 1024) (is_below d.frame) s.descriptors k.frames) (h, all_kept (λ x. frame_in x < 1024) (λ x. not (is_below d.frame x)) s.descriptors k.frames);
  named = λ id. one_more id d.id (names (of_lists (with_descriptor s.descriptors d) s.queues) id) s (nat_eq d.id id) refl n (k.named id) (descriptor_count s d id);
}

pub keeps_with : (s : Schedule) (m : Member) → IsKept s → IsMember m → has_name s (id_of m) ≡ false → IsKept (with_member s m)
keeps_with s (Once d) k h n = keeps_descriptor s d k h n
keeps_with s (Each q) k h n = keeps_queue s q k h n

-- one less
pub keeps_without : (s : Schedule) (m : Member) → IsKept s → IsKept (without_member s m)
keeps_without s (Once d) k = record {
  ranked = k.ranked;
  queues = k.queues;
  framed = rising_kept frame_in (λ x. not (is_called d.id x)) s.descriptors k.framed;
  frames = all_kept (λ x. frame_in x < 1024) (λ x. not (is_called d.id x)) s.descriptors k.frames;
  named = λ id. let a = count_fewer (is_called id) (λ x. not (is_called d.id x)) s.descriptors in let b = k.named id in omega (arith, a, b);
}
keeps_without s (Each q) k = record {
  ranked = rising_kept rank_of (λ x. not (is_named q.id x)) s.queues k.ranked;
  queues = all_kept (λ x. is_queue x ≡ true) (λ x. not (is_named q.id x)) s.queues k.queues;
  framed = k.framed;
  frames = k.frames;
  named = λ id. let a = count_fewer (is_named id) (λ x. not (is_named q.id x)) s.queues in let b = k.named id in omega (arith, a, b);
}

-- where a member stands
same_descriptor : (x d : Descriptor) → (nat_eq x.id d.id && nat_eq x.frame d.frame) ≡ true → x ≡ d
same_descriptor x d h =
    let k = and_parts (nat_eq x.id d.id) (nat_eq x.frame d.frame) h in
    ap (λ (n : ℕ). record { id = n; frame = x.frame }) (eqb-true x.id d.id k.0) ∙ ap (λ (n : ℕ). record { id = d.id; frame = n }) (eqb-true x.frame d.frame k.1)

same_queue : (x q : QueueHead) → (nat_eq x.id q.id && (nat_eq x.period q.period && nat_eq x.phase q.phase)) ≡ true → x ≡ q
same_queue x q h =
    let k = and_parts (nat_eq x.id q.id) (nat_eq x.period q.period && nat_eq x.phase q.phase) h in
    let l = and_parts (nat_eq x.period q.period) (nat_eq x.phase q.phase) k.1 in
    ap (λ (n : ℕ). record { id = n; period = x.period; phase = x.phase }) (eqb-true x.id q.id k.0) ∙ ap (λ (n : ℕ). record { id = q.id; period = n; phase = x.phase }) (eqb-true x.period q.period l.0)
    ∙ ap (λ (n : ℕ). record { id = q.id; period = q.period; phase = n }) (eqb-true x.phase q.phase l.1)

pub queue_at : (s : Schedule) (q : QueueHead) → IsKept s → is_linked s (Each q) ≡ true → IsAt (is_named q.id) q s.queues
queue_at s q k h = let n = k.named q.id in let l : count_by (is_named q.id) s.queues ≤ 1 = omega (arith, n) in is_at (is_this q) (is_named q.id) q (λ x e. same_queue x q e) (eq-eqb q.id q.id refl) s.queues h l

pub descriptor_at : (s : Schedule) (d : Descriptor) → IsKept s → is_linked s (Once d) ≡ true → IsAt (is_called d.id) d s.descriptors
descriptor_at s d k h = let n = k.named d.id in let l : count_by (is_called d.id) s.descriptors ≤ 1 = omega (arith, n) in is_at (is_that d) (is_called d.id) d (λ x e. same_descriptor x d e) (eq-eqb d.id d.id refl) s.descriptors h l

-- the others have other names
pub queue_alone : (s : Schedule) (q : QueueHead) → IsKept s → (at : IsAt (is_named q.id) q s.queues) → AllByRecursion (λ d. is_called q.id d ≡ false) s.descriptors
queue_alone s q k at =
    let n = k.named q.id in
    let a : count_by (is_named q.id) s.queues ≡ count_by (is_named q.id) at.front + count_by (is_named q.id) (q ∷ at.back) = ap (λ qs. count_by (is_named q.id) qs) at.is ∙ count_two (is_named q.id) at.front (q ∷ at.back) in
    let c : one_if (nat_eq q.id q.id) ≡ 1 = ap one_if (eq-eqb q.id q.id refl) in
    let f = count_first (is_named q.id) q at.back in
    let l : count_by (is_called q.id) s.descriptors ≤ 0 = omega (arith, n, a, c, f) in
    none_counted (is_called q.id) s.descriptors l

pub queue_named : (s : Schedule) (q : QueueHead) → IsKept s → (at : IsAt (is_named q.id) q s.queues) → has_name (of_lists s.descriptors (at.front ++ at.back)) q.id ≡ false
queue_named s q k at =
    ap (λ b. b || list_any (is_named q.id) (at.front ++ at.back)) (none_listed (is_called q.id) s.descriptors (queue_alone s q k at))
    ∙ none_listed (is_named q.id) (at.front ++ at.back) (both_all (λ x. is_named q.id x ≡ false) at.front at.back at.before at.behind)

pub descriptor_alone : (s : Schedule) (d : Descriptor) → IsKept s → (at : IsAt (is_called d.id) d s.descriptors) → AllByRecursion (λ q. is_named d.id q ≡ false) s.queues
descriptor_alone s d k at =
    let n = k.named d.id in
    let a : count_by (is_called d.id) s.descriptors ≡ count_by (is_called d.id) at.front + count_by (is_called d.id) (d ∷ at.back) = ap (λ ds. count_by (is_called d.id) ds) at.is ∙ count_two (is_called d.id) at.front (d ∷ at.back) in
    let c : one_if (nat_eq d.id d.id) ≡ 1 = ap one_if (eq-eqb d.id d.id refl) in
    let f = count_first (is_called d.id) d at.back in
    let l : count_by (is_named d.id) s.queues ≤ 0 = omega (arith, n, a, c, f) in
    none_counted (is_named d.id) s.queues l

pub descriptor_named : (s : Schedule) (d : Descriptor) → IsKept s → (at : IsAt (is_called d.id) d s.descriptors) → has_name (of_lists (at.front ++ at.back) s.queues) d.id ≡ false
descriptor_named s d k at =
    ap (λ b. b || list_any (is_named d.id) s.queues) (none_listed (is_called d.id) (at.front ++ at.back) (both_all (λ x. is_called d.id x ≡ false) at.front at.back at.before at.behind))
    ∙ none_listed (is_named d.id) s.queues (descriptor_alone s d k at)

pub kept_at_first : (ds : List Descriptor) (qs : List QueueHead) → ds ≡ [] → qs ≡ [] → IsKept (of_lists ds qs)
unfolding IsRising
kept_at_first ds qs e h = subst (λ (xs : List Descriptor). IsKept (of_lists xs qs)) (sym e) (subst (λ (ys : List QueueHead). IsKept (of_lists [] ys)) (sym h) (record { ranked = tt; queues = tt; framed = tt; frames = tt; named = λ id. omega arith }))
