-- What is under way begins: the words stood for the schedule before it.
use Rattle.std.proofs.Common.{◌≡◌, ℕ, ◌*◌, ◌/◌, ◌%◌, ◌<◌, Bool, true, false, List, [], ◌∷◌, ◌++◌, map, cond, nat_eq, leb, inl, inr, Some, None, Option, if◌then◌else◌, refl, ap, sym, ◌∙◌, subst, arith}
use Rattle.std.specs.Prelude.{◌||◌, ◌&&◌, filter, not, is_some}
use Rattle.std.specs.List.{AllByRecursion, list_any, flat_map}
use Rattle.std.proofs.lemmas.Bool.{false≢true, eqb-true, or_cases, and_parts, leb-true, leb-false, ltb-true}
use Rattle.law_common.proofs.Booleans.{not_on, right_or, left_or, later}
use Rattle.drv_chains.specs.declared.members.Descriptor.{Descriptor}
use Rattle.drv_chains.specs.declared.members.QueueHead.{QueueHead}
use Rattle.drv_chains.specs.declared.members.Member.{Member}
use Rattle.drv_chains.specs.declared.members.Member.TheVariants.{Once, Each}
use Rattle.drv_chains.specs.declared.members.Predecessor.{Predecessor}
use Rattle.drv_chains.specs.declared.members.Predecessor.TheVariants.{Element, After}
use Rattle.drv_chains.specs.Chains.{Schedule, of_lists, has_name, id_of, is_the, is_active, queues_in, periods, frame_period, descriptors_in, first_of, behind_the, chain, successor}
use Rattle.drv_chains.proofs.Beside.{left_false, none_named}
use Rattle.drv_members.specs.Ranks.{rank_of, is_queue, is_named, is_called}
use Rattle.drv_members.specs.Members.{IsRising, IsKept, IsMember, frame_in, is_up_to, is_below, is_this, is_that, is_linked, with_member, with_queue, with_descriptor, without_member, frame_of}
use Rattle.drv_members.proofs.Sorted.{all_pass, not_below}
use Rattle.drv_members.proofs.Merge.{merge}
use Rattle.drv_members.proofs.Ranges.{own_frame, phase_most}
use Rattle.drv_members.proofs.Classes.{chain_is}
use Rattle.drv_chains.proofs.Words.{all_kept}
use Rattle.drv_members.proofs.Splits.{IsAt}
use Rattle.drv_periodic.specs.declared.work.Work.{Work}
use Rattle.drv_periodic.specs.Periodic.{Periodic, link_to, address_of, begun, inserting, removing}
use Rattle.claims_driver.specs.FrameWords.{Leads, AllLead, Begun, StandsBy, StandFor}
use Rattle.law_frame_words.proofs.lemmas.frame_words.Stored.{queue_out, descriptor_out}

above : (a b : ℕ) → not (leb a b) ≡ true → b < a
above a b h = leb-false a b (not_on (leb a b) h)

either : (b : Bool) → (b || not b) ≡ true
either true = refl
either false = refl

all_either : {X : Type 0} (t : X → Bool) (xs : List X) → AllByRecursion (λ x. (t x || not (t x)) ≡ true) xs
all_either t [] = tt
all_either t (x ∷ xs) = (either (t x), all_either t xs)

both_again : {X : Type 0} (n : X → ℕ) (t : X → Bool) (xs : List X) → IsRising n xs → ((x y : X) → t x ≡ true → not (t y) ≡ true → n x < n y) → filter t xs ++ filter (λ x. not (t x)) xs ≡ xs
both_again n t xs up apart = merge n t (λ x. not (t x)) xs up apart ∙ all_pass (λ x. t x || not (t x)) xs (all_either t xs)

queues_again : (s : Schedule) (r : ℕ) → IsKept s → filter (is_up_to r) s.queues ++ filter (λ x. not (is_up_to r x)) s.queues ≡ s.queues
queues_again s r k = both_again rank_of (is_up_to r) s.queues k.ranked (λ x y a b. let l = leb-true (rank_of x) r a in let g = above (rank_of y) r b in omega (arith, l, g))

descriptors_again : (s : Schedule) (f : ℕ) → IsKept s → filter (is_below f) s.descriptors ++ filter (λ x. not (is_below f x)) s.descriptors ≡ s.descriptors
descriptors_again s f k = both_again frame_in (is_below f) s.descriptors k.framed (λ x y a b. let l = ltb-true x.frame f a in let g = not_below y.frame f b in omega (arith, l, g))

queue_there : (s : Schedule) (q : QueueHead) → has_name s q.id ≡ false → IsAt (is_named q.id) q (with_queue s.queues q)
queue_there s q n =
    let h = none_named (is_named q.id) s.queues (left_false (list_any (is_called q.id) s.descriptors) (list_any (is_named q.id) s.queues) n).1 in
    record {
      front = filter (is_up_to (rank_of q)) s.queues;
      back = filter (λ x. not (is_up_to (rank_of q) x)) s.queues;
      is = refl;
      before = all_kept (λ x. is_named q.id x ≡ false) (is_up_to (rank_of q)) s.queues h;
      behind = all_kept (λ x. is_named q.id x ≡ false) (λ x. not (is_up_to (rank_of q) x)) s.queues h;
    }

descriptor_there : (s : Schedule) (d : Descriptor) → has_name s d.id ≡ false → IsAt (is_called d.id) d (with_descriptor s.descriptors d)
descriptor_there s d n =
    let h = none_named (is_called d.id) s.descriptors (left_false (list_any (is_called d.id) s.descriptors) (list_any (is_named d.id) s.queues) n).0 in
    record {
      front = filter (is_below d.frame) s.descriptors;
      back = filter (λ x. not (is_below d.frame x)) s.descriptors;
      is = refl;
      before = all_kept (λ x. is_called d.id x ≡ false) (is_below d.frame) s.descriptors h;
      behind = all_kept (λ x. is_called d.id x ≡ false) (λ x. not (is_below d.frame x)) s.descriptors h;
    }

pub out_again : (s : Schedule) (m : Member) → IsKept s → has_name s (id_of m) ≡ false → without_member (with_member s m) m ≡ s
unfolding queue_there descriptor_there
out_again s (Each q) k n = queue_out (of_lists s.descriptors (with_queue s.queues q)) q (queue_there s q n) ∙ ap (λ qs. of_lists s.descriptors qs) (queues_again s (rank_of q) k)
out_again s (Once d) k n = descriptor_out (of_lists (with_descriptor s.descriptors d) s.queues) d (descriptor_there s d n) ∙ ap (λ ds. of_lists ds s.queues) (descriptors_again s d.frame k)

pub inserting_begins : (list : ℕ) (s : Schedule) (m : Member) (word : ℕ → ℕ) → IsKept s → has_name s (id_of m) ≡ false → AllLead list word s → word (address_of list (After m)) ≡ link_to (successor (with_member s m) m (frame_of m))
    → Begun list (with_member s m) (begun m false) word
inserting_begins list s m word k n stood own = record {
  before = word;
  stood = subst (λ (x : Schedule). AllLead list word x) (sym (out_again s m k n)) stood;
  own = own;
  since = λ at. refl;
}

-- the own link of a member that stands in a chain
one_block : (list : ℕ) (x m : Member) → is_the m x ≡ true → address_of list (After x) ≡ address_of list (After m)
one_block list x m h = ap (λ n. n / 32 * 32) (eqb-true (id_of x) (id_of m) h)

first_led : (list : ℕ) (word : ℕ → ℕ) (p : Predecessor) (ms : List Member) → Leads list word p ms → word (address_of list p) ≡ link_to (first_of ms)
unfolding Leads
first_led list word p [] h = h
first_led list word p (m ∷ ms) h = h.0

here_or_later : (list : ℕ) (word : ℕ → ℕ) (m x : Member) (ms : List Member) (b : Bool) → is_the m x ≡ b → Leads list word (After x) ms → (b ≡ false → word (address_of list (After m)) ≡ link_to (first_of (behind_the m ms)))
    → word (address_of list (After m)) ≡ link_to (first_of (if b then ms else behind_the m ms))
here_or_later list word m x ms true e h f = ap word (sym (one_block list x m e)) ∙ first_led list word (After x) ms h
here_or_later list word m x ms false e h f = f refl

own_led : (list : ℕ) (word : ℕ → ℕ) (m : Member) (p : Predecessor) (ms : List Member) → list_any (is_the m) ms ≡ true → Leads list word p ms → word (address_of list (After m)) ≡ link_to (first_of (behind_the m ms))
unfolding Leads behind_the
own_led list word m p [] h l = absurd (false≢true h)
own_led list word m p (x ∷ xs) h l = here_or_later list word m x xs (is_the m x) refl l.1 (λ e. own_led list word m (After x) xs (later (is_the m x) (list_any (is_the m) xs) h e) l.1)

any_left : {X : Type 0} (p : X → Bool) (xs ys : List X) → list_any p xs ≡ true → list_any p (xs ++ ys) ≡ true
any_left p [] ys h = absurd (false≢true h)
any_left p (x ∷ xs) ys h = elim (or_cases (p x) (list_any p xs) h) [
  | inl a ↦ left_or (p x) (list_any p (xs ++ ys)) a
  | inr b ↦ right_or (p x) (list_any p (xs ++ ys)) (any_left p xs ys b)
]

pub any_right : {X : Type 0} (p : X → Bool) (xs ys : List X) → list_any p ys ≡ true → list_any p (xs ++ ys) ≡ true
any_right p [] ys h = h
any_right p (x ∷ xs) ys h = right_or (p x) (list_any p (xs ++ ys)) (any_right p xs ys h)

kept_here : {X Y : Type 0} (r : Y → Bool) (t : X → Y) (x : X) (ys : List X) (b : Bool) → b ≡ true → r (t x) ≡ true → list_any r (map t (cond b (x ∷ ys) ys)) ≡ true
kept_here r t x ys true e h = left_or (r (t x)) (list_any r (map t ys)) h
kept_here r t x ys false e h = absurd (false≢true e)

kept_later : {X Y : Type 0} (r : Y → Bool) (t : X → Y) (x : X) (ys : List X) (b : Bool) → list_any r (map t ys) ≡ true → list_any r (map t (cond b (x ∷ ys) ys)) ≡ true
kept_later r t x ys true h = right_or (r (t x)) (list_any r (map t ys)) h
kept_later r t x ys false h = h

any_in : {X Y : Type 0} (p test : X → Bool) (r : Y → Bool) (t : X → Y) (xs : List X) → ((x : X) → p x ≡ true → (test x ≡ true) × (r (t x) ≡ true)) → list_any p xs ≡ true → list_any r (map t (filter test xs)) ≡ true
any_in p test r t [] f h = absurd (false≢true h)
any_in p test r t (x ∷ xs) f h = elim (or_cases (p x) (list_any p xs) h) [
  | inl a ↦ let k = f x a in kept_here r t x (filter test xs) (test x) k.0 k.1
  | inr b ↦ kept_later r t x (filter test xs) (test x) (any_in p test r t xs f b)
]

this_one : (q x : QueueHead) → is_queue q ≡ true → is_this q x ≡ true → (is_active q.phase x ≡ true) × (is_the (Each q) (Each x) ≡ true)
this_one q x i h =
    let a = and_parts (nat_eq x.id q.id) (nat_eq x.period q.period && nat_eq x.phase q.phase) h in
    let b = and_parts (nat_eq x.period q.period) (nat_eq x.phase q.phase) a.1 in
    let period : q.period ≡ x.period = sym (eqb-true x.period q.period b.0) in
    let phase : q.phase ≡ x.phase = sym (eqb-true x.phase q.phase b.1) in
    (ap (λ p. nat_eq p (q.phase % frame_period x.period)) (sym phase) ∙ ap (λ p. nat_eq q.phase (q.phase % frame_period p)) (sym period) ∙ own_frame q i, a.0)

that_one : (d x : Descriptor) → is_that d x ≡ true → (nat_eq x.frame d.frame ≡ true) × (is_the (Once d) (Once x) ≡ true)
that_one d x h = let a = and_parts (nat_eq x.id d.id) (nat_eq x.frame d.frame) h in (a.1, a.0)

stands : (s : Schedule) (m : Member) → IsKept s → IsMember m → is_linked s m ≡ true → list_any (is_the m) (chain s (frame_of m)) ≡ true
stands s (Once d) k i h =
    any_left (is_the (Once d)) (map Once (descriptors_in s d.frame)) (map Each (flat_map (queues_in s d.frame) periods))
    (any_in (is_that d) (λ x. nat_eq x.frame d.frame) (is_the (Once d)) Once s.descriptors (λ x e. that_one d x e) h)
stands s (Each q) k i h =
    subst (λ (ms : List Member). list_any (is_the (Each q)) ms ≡ true) (sym (chain_is s q.phase k))
    (any_right (is_the (Each q)) (map Once (descriptors_in s q.phase)) (map Each (filter (is_active q.phase) s.queues)) (any_in (is_this q) (is_active q.phase) (is_the (Each q)) Each s.queues (λ x e. this_one q x i e) h))

frame_below : (m : Member) → IsMember m → frame_of m < 1024
frame_below (Once d) i = i
frame_below (Each q) i = phase_most q i

pub removing_begins : (list : ℕ) (s : Schedule) (m : Member) (word : ℕ → ℕ) → IsKept s → IsMember m → is_linked s m ≡ true → AllLead list word s → Begun list s (begun m true) word
removing_begins list s m word k i h stood = record {
  before = word;
  stood = stood;
  own = own_led list word m (Element (frame_of m)) (chain s (frame_of m)) (stands s m k i h) (stood (frame_of m) (frame_below m i));
  since = λ at. refl;
}

-- of a whole list
all_by : (list : ℕ) (s : Schedule) (word : ℕ → ℕ) (o : Option Work) → o ≡ None → StandsBy list s o word → AllLead list word s
all_by list s word None e h = h
all_by list s word (Some w) e h = absurd (false≢true (sym (ap is_some e)))

pub insert_stands : (p : Periodic) (m : Member) (word : ℕ → ℕ) → IsKept p.members.schedule → has_name p.members.schedule (id_of m) ≡ false → p.work ≡ None
    → word (address_of p.list (After m)) ≡ link_to (successor (with_member p.members.schedule m) m (frame_of m)) → StandFor p word → StandFor (inserting p m) word
insert_stands p m word k n idle own h = inserting_begins p.list p.members.schedule m word k n (all_by p.list p.members.schedule word p.work idle h) own

pub remove_stands : (p : Periodic) (m : Member) (word : ℕ → ℕ) → IsKept p.members.schedule → IsMember m → is_linked p.members.schedule m ≡ true → p.work ≡ None → StandFor p word → StandFor (removing p m) word
remove_stands p m word k i l idle h = removing_begins p.list p.members.schedule m word k i l (all_by p.list p.members.schedule word p.work idle h)
