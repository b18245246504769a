-- What stands right before a member, in its class or its frame, and what right behind it.
use Rattle.std.proofs.Common.{◌≡◌, ℕ, ◌^◌, ◌<◌, ◌≤◌, Bool, true, false, List, [], ◌∷◌, ◌++◌, map, take, cond, nat_eq, leb, Some, None, refl, ap, sym, ◌∙◌, subst, arith}
use Rattle.std.specs.Prelude.{◌&&◌, filter, not, Option, option_map}
use Rattle.std.specs.List.{AllByRecursion, list_any, last_or, flat_map, find, before_first}
use Rattle.std.proofs.lemmas.Bool.{false≢true, and_parts, eq-eqb, ne_eqb, leb-true, le-leb}
use Rattle.std.proofs.lemmas.Bool.Decides.{nat_tests}
use Rattle.std.proofs.lemmas.List.{map-append, append_assoc}
use Rattle.drv_chains.proofs.Words.{all_kept}
use Rattle.drv_chains.proofs.Linking.{weaken}
use Rattle.drv_chains.proofs.Beside.{among, left_false, none_named, each_map, before_it, behind_it}
use Rattle.drv_chains.proofs.Orders.{both_parts}
use Rattle.drv_chains.specs.declared.members.Descriptor.{Descriptor}
use Rattle.drv_chains.specs.declared.members.QueueHead.{QueueHead}
use Rattle.drv_chains.specs.declared.members.Member.{Member}
use Rattle.drv_chains.specs.declared.members.Member.TheVariants.{Once, Each}
use Rattle.drv_chains.specs.declared.members.Predecessor.{Predecessor}
use Rattle.drv_chains.specs.declared.members.Predecessor.TheVariants.{Element, After}
use Rattle.drv_chains.specs.Chains.{Schedule, of_lists, has_name, is_active, is_the, periods, queues_in, descriptors_in, word_after, first_of, before_the, behind_the, chain, predecessor, successor}
use Rattle.drv_chains.specs.Classes.{members, periods_of, last_of}
use Rattle.drv_members.specs.Ranks.{rank_of, is_queue, is_named, is_called, class_low, class_high, is_between}
use Rattle.drv_members.specs.Members.{IsRising, IsKept, names, frame_in, is_up_to, with_queue, is_below, with_descriptor, words_ahead, word_in_frame, first_of_both}
use Rattle.drv_members.proofs.Sorted.{same_pass, none_pass}
use Rattle.drv_members.proofs.Merge.{ahead_lower}
use Rattle.drv_members.proofs.Ranges.{either_phase, class_test, own_frame}
use Rattle.drv_members.proofs.Classes.{class_is, chain_is}
use Rattle.drv_members.proofs.Splits.{IsAt, front_is}
use Rattle.drv_members.proofs.Keeping.{queue_alone, keeps_queue, keeps_descriptor}

-- the last of a list as words
last_word : (q : QueueHead) (qs : List QueueHead) (others : List Predecessor) → (word_after (After (Each q)) (map Each qs) ∷ []) ≡ words_ahead (last_or (Some q) qs) others
unfolding word_after
last_word q [] others = refl
last_word q (r ∷ qs) others = last_word r qs others

pub last_words : (qs : List QueueHead) (others : List Predecessor) → last_of (map Each qs) others ≡ words_ahead (last_or None qs) others
last_words [] others = refl
last_words (q ∷ qs) others = last_word q qs others

later_once : (f : ℕ) (d : Descriptor) (ds : List Descriptor) → word_after (After (Once d)) (map Once ds) ≡ word_in_frame f (last_or (Some d) ds)
unfolding word_after
later_once f d [] = refl
later_once f d (e ∷ ds) = later_once f e ds

pub last_once : (f : ℕ) (ds : List Descriptor) → word_after (Element f) (map Once ds) ≡ word_in_frame f (last_or None ds)
unfolding word_after
last_once f [] = refl
last_once f (d ∷ ds) = later_once f d ds

-- ahead of a queue head in its class
in_own_class : (level : ℕ) (q : QueueHead) → level ≤ 10 → q.phase < 2 ^ level → is_queue q ≡ true → list_any (λ p. nat_eq q.period p) (periods_of level) ≡ true → is_between (class_low level q.phase) (class_high level q.phase) q ≡ true
in_own_class level q l h k p =
    class_test level q.phase q l h k ∙ either_phase q.period q.phase q.phase (periods_of level) ∙ ap (λ b. b && nat_eq q.phase q.phase) p ∙ eq-eqb q.phase q.phase refl

second_true : (a b : Bool) → b ≡ true → (a && b) ≡ a
second_true true b h = h
second_true false b h = refl

low_alone : (level : ℕ) (q : QueueHead) (high : ℕ) (x : QueueHead) → rank_of q ≤ high → rank_of x ≤ rank_of q → is_between (class_low level q.phase) high x ≡ leb (class_low level q.phase) (rank_of x)
low_alone level q high x a b = second_true (leb (class_low level q.phase) (rank_of x)) (leb (rank_of x) high) (let l : rank_of x ≤ high = omega (arith, a, b) in le-leb (rank_of x) high l)

pub ahead_queue : (s : Schedule) (level : ℕ) (q : QueueHead) (others : List Predecessor) → IsKept s → (at : IsAt (is_named q.id) q s.queues) → level ≤ 10 → q.phase < 2 ^ level → is_queue q ≡ true → list_any (λ p. nat_eq q.period p) (periods_of level) ≡ true
    → last_of (before_the (Each q) (map Each (members s level q.phase))) others ≡ words_ahead (last_or None (filter (λ x. leb (class_low level q.phase) (rank_of x)) (before_first (is_named q.id) s.queues))) others
ahead_queue s level q others k at l h i p =
    let low = class_low level q.phase in
    let high = class_high level q.phase in
    let t = in_own_class level q l h i p in
    let top : rank_of q ≤ high = leb-true (rank_of q) high (and_parts (leb low (rank_of q)) (leb (rank_of q) high) t).1 in
    let parts : members s level q.phase ≡ filter (is_between low high) at.front ++ q ∷ filter (is_between low high) at.back =
    class_is s level q.phase l h k ∙ ap (λ qs. filter (is_between low high) qs) at.is ∙ among (is_between low high) at.front at.back q t in
    let lower = ahead_lower rank_of at.front q at.back (subst (λ qs. IsRising rank_of qs) at.is k.ranked) in
    let ahead : filter (is_between low high) at.front ≡ filter (λ x. leb low (rank_of x)) at.front =
    same_pass (is_between low high) (λ x. leb low (rank_of x)) at.front (weaken (λ x. rank_of x ≤ rank_of q) (λ x. is_between low high x ≡ leb low (rank_of x)) (λ x m. low_alone level q high x top m) at.front lower) in
    let front : at.front ≡ before_first (is_named q.id) s.queues = sym (ap (λ qs. before_first (is_named q.id) qs) at.is ∙ front_is (is_named q.id) q at.front at.back at.before (eq-eqb q.id q.id refl)) in
    ap (λ qs. last_of (before_the (Each q) (map Each qs)) others) parts
    ∙ ap (λ ms. last_of (before_the (Each q) ms) others) (map-append Each (filter (is_between low high) at.front) (q ∷ filter (is_between low high) at.back))
    ∙ ap (λ ms. last_of ms others) (before_it (Each q) (map Each (filter (is_between low high) at.front)) (map Each (filter (is_between low high) at.back))
    (each_map (λ m. is_the (Each q) m ≡ false) Each (filter (is_between low high) at.front) (all_kept (λ x. is_named q.id x ≡ false) (is_between low high) at.front at.before)))
    ∙ last_words (filter (is_between low high) at.front) others ∙ ap (λ qs. words_ahead (last_or None qs) others) (ahead ∙ ap (λ qs. filter (λ x. leb low (rank_of x)) qs) front)

-- ahead of a descriptor in its frame
abbrev is_in : ℕ → Descriptor → Bool
is_in f d = nat_eq d.frame f

same_frame : (f : ℕ) (x : Descriptor) → frame_in x ≤ f → is_in f x ≡ leb f (frame_in x)
same_frame f x h = grind (arith, nat_tests, h)

once_parts : (s : Schedule) (d : Descriptor) → (at : IsAt (is_called d.id) d s.descriptors) → descriptors_in s d.frame ≡ filter (is_in d.frame) at.front ++ d ∷ filter (is_in d.frame) at.back
once_parts s d at = ap (λ ds. filter (is_in d.frame) ds) at.is ∙ among (is_in d.frame) at.front at.back d (eq-eqb d.frame d.frame refl)

abbrev queue_part : Schedule → ℕ → List Member
queue_part s f = map Each (flat_map (queues_in s f) periods)

once_chain : (s : Schedule) (d : Descriptor) → (at : IsAt (is_called d.id) d s.descriptors)
    → chain s d.frame ≡ map Once (filter (is_in d.frame) at.front) ++ Once d ∷ (map Once (filter (is_in d.frame) at.back) ++ queue_part s d.frame)
once_chain s d at =
    ap (λ ds. map Once ds ++ queue_part s d.frame) (once_parts s d at)
    ∙ ap (λ ms. ms ++ queue_part s d.frame) (map-append Once (filter (is_in d.frame) at.front) (d ∷ filter (is_in d.frame) at.back))
    ∙ append_assoc (map Once (filter (is_in d.frame) at.front)) (Once d ∷ map Once (filter (is_in d.frame) at.back)) (queue_part s d.frame)

once_ahead : (d : Descriptor) (ds : List Descriptor) → AllByRecursion (λ x. is_called d.id x ≡ false) ds → AllByRecursion (λ m. is_the (Once d) m ≡ false) (map Once (filter (is_in d.frame) ds))
once_ahead d ds h = each_map (λ m. is_the (Once d) m ≡ false) Once (filter (is_in d.frame) ds) (all_kept (λ x. is_called d.id x ≡ false) (is_in d.frame) ds h)

pub descriptor_word : (s : Schedule) (d : Descriptor) → (at : IsAt (is_called d.id) d s.descriptors) → predecessor s (Once d) d.frame ≡ word_after (Element d.frame) (map Once (filter (λ x. nat_eq x.frame d.frame) at.front))
descriptor_word s d at =
    ap (λ ms. word_after (Element d.frame) (before_the (Once d) ms)) (once_chain s d at)
    ∙ ap (λ ms. word_after (Element d.frame) ms) (before_it (Once d) (map Once (filter (is_in d.frame) at.front)) (map Once (filter (is_in d.frame) at.back) ++ queue_part s d.frame) (once_ahead d at.front at.before))

pub ahead_descriptor : (s : Schedule) (d : Descriptor) → IsKept s → (at : IsAt (is_called d.id) d s.descriptors)
    → predecessor s (Once d) d.frame ≡ word_in_frame d.frame (last_or None (filter (λ x. leb d.frame (frame_in x)) (before_first (is_called d.id) s.descriptors)))
ahead_descriptor s d k at =
    let lower = ahead_lower frame_in at.front d at.back (subst (λ ds. IsRising frame_in ds) at.is k.framed) in
    let ahead : filter (is_in d.frame) at.front ≡ filter (λ x. leb d.frame (frame_in x)) at.front =
    same_pass (is_in d.frame) (λ x. leb d.frame (frame_in x)) at.front (weaken (λ x. frame_in x ≤ d.frame) (λ x. is_in d.frame x ≡ leb d.frame (frame_in x)) (λ x m. same_frame d.frame x m) at.front lower) in
    let front : at.front ≡ before_first (is_called d.id) s.descriptors = sym (ap (λ ds. before_first (is_called d.id) ds) at.is ∙ front_is (is_called d.id) d at.front at.back at.before (eq-eqb d.id d.id refl)) in
    descriptor_word s d at ∙ last_once d.frame (filter (is_in d.frame) at.front) ∙ ap (λ ds. word_in_frame d.frame (last_or None ds)) (ahead ∙ ap (λ ds. filter (λ x. leb d.frame (frame_in x)) ds) front)

-- behind a queue head
found_or_not : (p : QueueHead → Bool) (q : QueueHead) (qs : List QueueHead) (b : Bool) → first_of (map Each (filter p qs)) ≡ option_map Each (find p qs)
    → first_of (map Each (cond b (q ∷ filter p qs) (filter p qs))) ≡ option_map Each (cond b (Some q) (find p qs))
found_or_not p q qs true h = refl
found_or_not p q qs false h = h

pub first_each : (p : QueueHead → Bool) (qs : List QueueHead) → first_of (map Each (filter p qs)) ≡ option_map Each (find p qs)
first_each p [] = refl
first_each p (q ∷ qs) = found_or_not p q qs (p q) (first_each p qs)

pub behind_queue : (s : Schedule) (q : QueueHead) → IsKept s → is_queue q ≡ true → (at : IsAt (is_named q.id) q s.queues) → successor s (Each q) q.phase ≡ option_map Each (find (is_active q.phase) at.back)
behind_queue s q k i at =
    let f = q.phase in
    let ones = map Once (descriptors_in s f) in
    let front = filter (is_active f) at.front in
    let back = filter (is_active f) at.back in
    let parts : chain s f ≡ (ones ++ map Each front) ++ Each q ∷ map Each back =
    chain_is s f k ∙ ap (λ qs. ones ++ map Each (filter (is_active f) qs)) at.is ∙ ap (λ qs. ones ++ map Each qs) (among (is_active f) at.front at.back q (own_frame q i))
    ∙ ap (λ ms. ones ++ ms) (map-append Each front (q ∷ back)) ∙ sym (append_assoc ones (map Each front) (Each q ∷ map Each back)) in
    ap (λ ms. first_of (behind_the (Each q) ms)) parts
    ∙ ap (λ ms. first_of ms) (behind_it (Each q) (ones ++ map Each front) (map Each back)
    (both_parts (λ m. is_the (Each q) m ≡ false) ones (map Each front)
    (each_map (λ m. is_the (Each q) m ≡ false) Once (descriptors_in s f) (all_kept (λ d. is_called q.id d ≡ false) (λ d. nat_eq d.frame f) s.descriptors (queue_alone s q k at)))
    (each_map (λ m. is_the (Each q) m ≡ false) Each front (all_kept (λ x. is_named q.id x ≡ false) (is_active f) at.front at.before))))
    ∙ first_each (is_active f) at.back

-- behind a descriptor
not_in : (f : ℕ) (x : Descriptor) → f < frame_in x → is_in f x ≡ false
not_in f x h = ne_eqb x.frame f (λ e. omega (arith, h, e))

abbrev first_or : Option Descriptor → Option Member → Option Member
first_or None m = m
first_or (Some d) m = Some (Once d)

next_by : (f : ℕ) (d : Descriptor) (ds : List Descriptor) (ms : List Member) (b : Bool) → is_in f d ≡ b → f ≤ frame_in d → AllByRecursion (λ x. frame_in d ≤ frame_in x) ds
    → first_of (map Once (cond b (d ∷ filter (is_in f) ds) (filter (is_in f) ds)) ++ ms) ≡ first_or (cond b (Some d) None) (first_of ms)
next_by f d ds ms true e l up = refl
next_by f d ds ms false e l up =
    let k : frame_in d ≡ f → ⊥ = λ h. false≢true (sym e ∙ eq-eqb d.frame f h) in
    let m : f < frame_in d = grind (arith, l, k) in
    ap (λ xs. first_of (map Once xs ++ ms)) (none_pass (is_in f) ds (weaken (λ x. frame_in d ≤ frame_in x) (λ x. is_in f x ≡ false) (λ x h. not_in f x (omega (arith, m, h))) ds up))

next_once : (f : ℕ) (ds : List Descriptor) (ms : List Member) → IsRising frame_in ds → AllByRecursion (λ x. f ≤ frame_in x) ds → first_of (map Once (filter (is_in f) ds) ++ ms) ≡ first_or (find (is_in f) (take 1 ds)) (first_of ms)
unfolding IsRising
next_once f [] ms up h = refl
next_once f (d ∷ ds) ms up h = next_by f d ds ms (is_in f d) refl h.0 up.0

both_firsts : (o : Option Descriptor) (q : Option QueueHead) (m : Option Member) → m ≡ option_map Each q → first_or o m ≡ first_of_both o q
both_firsts None q m e = e
both_firsts (Some d) q m e = refl

behind_higher : {X : Type 0} (n : X → ℕ) (xs : List X) (y : X) (zs : List X) → IsRising n (xs ++ y ∷ zs) → IsRising n zs × AllByRecursion (λ z. n y ≤ n z) zs
unfolding IsRising
behind_higher n [] y zs up = (up.1, up.0)
behind_higher n (x ∷ xs) y zs up = behind_higher n xs y zs up.1

rising_nil : IsRising frame_in []
unfolding IsRising
rising_nil = tt

few : (s : Schedule) (id : ℕ) → names s id ≤ 1 → names (of_lists [] s.queues) id ≤ 1
few s id n = omega (arith, n)

queue_first : (s : Schedule) (f : ℕ) → IsKept s → first_of (queue_part s f) ≡ option_map Each (find (is_active f) s.queues)
queue_first s f k =
    let none : Schedule = of_lists [] s.queues in
    let kept : IsKept none = record { ranked = k.ranked; queues = k.queues; framed = rising_nil; frames = tt; named = λ id. let n = k.named id in few s id n } in
    ap (λ ms. first_of ms) (chain_is none f kept) ∙ first_each (is_active f) s.queues

pub behind_descriptor : (s : Schedule) (d : Descriptor) → IsKept s → (at : IsAt (is_called d.id) d s.descriptors)
    → successor s (Once d) d.frame ≡ first_of_both (find (λ x. nat_eq x.frame d.frame) (take 1 at.back)) (find (is_active d.frame) s.queues)
behind_descriptor s d k at =
    let up = behind_higher frame_in at.front d at.back (subst (λ ds. IsRising frame_in ds) at.is k.framed) in
    ap (λ ms. first_of (behind_the (Once d) ms)) (once_chain s d at)
    ∙ ap (λ ms. first_of ms) (behind_it (Once d) (map Once (filter (is_in d.frame) at.front)) (map Once (filter (is_in d.frame) at.back) ++ queue_part s d.frame) (once_ahead d at.front at.before))
    ∙ next_once d.frame at.back (queue_part s d.frame) up.0 up.1
    ∙ both_firsts (find (is_in d.frame) (take 1 at.back)) (find (is_active d.frame) s.queues) (first_of (queue_part s d.frame)) (queue_first s d.frame k)

-- a new one
pub new_queue_at : (s : Schedule) (q : QueueHead) → has_name s q.id ≡ false → IsAt (is_named q.id) q (with_queue s.queues q)
new_queue_at s q n =
    let h = none_named (is_named q.id) s.queues (left_false (list_any (is_called q.id) s.descriptors) (list_any (is_named q.id) s.queues) n).1 in
    record {
      front = filter (is_up_to (rank_of q)) s.queues;
      back = filter (λ x. not (is_up_to (rank_of q) x)) s.queues;
      is = refl;
      before = all_kept (λ x. is_named q.id x ≡ false) (is_up_to (rank_of q)) s.queues h;
      behind = all_kept (λ x. is_named q.id x ≡ false) (λ x. not (is_up_to (rank_of q) x)) s.queues h;
    }

pub new_descriptor_at : (s : Schedule) (d : Descriptor) → has_name s d.id ≡ false → IsAt (is_called d.id) d (with_descriptor s.descriptors d)
new_descriptor_at s d n =
    let h = none_named (is_called d.id) s.descriptors (left_false (list_any (is_called d.id) s.descriptors) (list_any (is_named d.id) s.queues) n).0 in
    record {
      front = filter (is_below d.frame) s.descriptors;
      back = filter (λ x. not (is_below d.frame x)) s.descriptors;
      is = refl;
      before = all_kept (λ x. is_called d.id x ≡ false) (is_below d.frame) s.descriptors h;
      behind = all_kept (λ x. is_called d.id x ≡ false) (λ x. not (is_below d.frame x)) s.descriptors h;
    }

pub behind_new_queue : (s : Schedule) (q : QueueHead) → IsKept s → is_queue q ≡ true → has_name s q.id ≡ false
    → successor (of_lists s.descriptors (with_queue s.queues q)) (Each q) q.phase ≡ option_map Each (find (is_active q.phase) (filter (λ x. not (is_up_to (rank_of q) x)) s.queues))
unfolding new_queue_at
behind_new_queue s q k i n = behind_queue (of_lists s.descriptors (with_queue s.queues q)) q (keeps_queue s q k i n) i (new_queue_at s q n)

pub behind_new_descriptor : (s : Schedule) (d : Descriptor) → IsKept s → d.frame < 1024 → has_name s d.id ≡ false
    → successor (of_lists (with_descriptor s.descriptors d) s.queues) (Once d) d.frame
    ≡ first_of_both (find (λ x. nat_eq x.frame d.frame) (take 1 (filter (λ x. not (is_below d.frame x)) s.descriptors))) (find (is_active d.frame) s.queues)
unfolding new_descriptor_at
behind_new_descriptor s d k l n = behind_descriptor (of_lists (with_descriptor s.descriptors d) s.queues) d (keeps_descriptor s d k l n) (new_descriptor_at s d n)
