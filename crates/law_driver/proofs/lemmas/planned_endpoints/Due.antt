-- The queue heads of a frame's chain are due in it, and none stands there twice.
use Rattle.std.proofs.Common.{◌≡◌, ℕ, ◌%◌, ◌≤◌, Bool, true, false, List, [], ◌∷◌, ◌++◌, refl, ap, sym, subst, ◌∙◌, arith, Some, inl, inr}
use Rattle.std.specs.Prelude.{filter, not, nat_eq, count_by, ◌&&◌, nat_lt, option_map}
use Rattle.std.specs.List.{AllByRecursion, flat_map, list_all, list_any}
use Rattle.std.proofs.lemmas.Bool.{and_parts}
use Rattle.std.proofs.lemmas.Bool.Decides.{nat_tests}
use Rattle.law_driver.proofs.Common.{any_left, any_right}
use Rattle.law_common.proofs.Booleans.{not_on, right_or, left_or, either_one}
use Rattle.law_common.proofs.Numbers.{same_test}
use Rattle.drv_chains.specs.declared.members.QueueHead.{QueueHead}
use Rattle.drv_chains.specs.Chains.{Schedule, periods, frame_period, is_active, at_place, queues_in, is_period}
use Rattle.drv_members.specs.Ranks.{is_queue, is_named}
use Rattle.drv_members.specs.Members.{IsKept, is_this}
use Rattle.drv_members.proofs.Splits.{count_two, count_parts}
use Rattle.bandwidth.specs.declared.placements.Placement.{Placement}
use Rattle.drv_periodic_table.specs.Periodic.{queue_name}
use Rattle.drv_table.specs.declared.content.Endpoint.{Endpoint}
use Rattle.drv_table.specs.DriverContent.{DriverContent}
use Rattle.claims_driver.specs.Leaving.{HasOwners}
use Rattle.claims_driver.specs.FrameListMembers.{framed_of, framed_in}
use Rattle.law_driver.specs.listed_members.Members.{IsListed}
use Rattle.law_driver.specs.listed_queues.Queues.{HasQueues}
use Rattle.law_driver.specs.planned_endpoints.Planned.{IsPlanned}
use Rattle.claims_driver.specs.DueMembers.{IsPlacedQueue, IsDueIn, AreDue, HasAllDue}
use Rattle.law_driver.proofs.lemmas.planned_endpoints.Queues.{queue_heads_are_of_placed_endpoints}

-- ---- each is due

same_number : (a b : ℕ) → nat_eq a b ≡ true → a ≡ b
same_number a b e = grind (arith, nat_tests, e)

same_itself : (a : ℕ) → nat_eq a a ≡ true
same_itself a = grind (arith, nat_tests)

-- a queue head of a class of frame f is active in it
class_active : (f period : ℕ) (q : QueueHead) → at_place period (f % frame_period period) q ≡ true → is_active f q ≡ true
class_active f period q e =
    let parts = and_parts (nat_eq q.period period) (nat_eq q.phase (f % frame_period period)) e in
    let p : q.period ≡ period = same_number q.period period parts.0 in
    subst (λ n. nat_eq q.phase (f % frame_period n) ≡ true) (sym p) parts.1

one_due : (d : DriverContent) (f period : ℕ) (q : QueueHead) (qs : List QueueHead) (b : Bool) → at_place period (f % frame_period period) q ≡ b → IsPlacedQueue d q
    → AllByRecursion (IsDueIn d f) (filter (at_place period (f % frame_period period)) qs) → AllByRecursion (IsDueIn d f) (filter (at_place period (f % frame_period period)) (q ∷ qs))
one_due d f period q qs true e h rest = rw e (record { queue = h; active = sym (h.frames f) ∙ class_active f period q e }, rest)
one_due d f period q qs false e h rest = rw e rest

class_due : (d : DriverContent) (f period : ℕ) (qs : List QueueHead) → AllByRecursion (IsPlacedQueue d) qs → AllByRecursion (IsDueIn d f) (filter (at_place period (f % frame_period period)) qs)
class_due d f period [] h = tt
class_due d f period (q ∷ qs) h = one_due d f period q qs (at_place period (f % frame_period period) q) refl h.0 (class_due d f period qs h.1)

both_due : (d : DriverContent) (f : ℕ) (xs ys : List QueueHead) → AllByRecursion (IsDueIn d f) xs → AllByRecursion (IsDueIn d f) ys → AllByRecursion (IsDueIn d f) (xs ++ ys)
both_due d f [] ys h k = k
both_due d f (x ∷ xs) ys h k = (h.0, both_due d f xs ys h.1 k)

classes_due : (d : DriverContent) (f : ℕ) (s : Schedule) (ps : List ℕ) → AllByRecursion (IsPlacedQueue d) s.queues → AllByRecursion (IsDueIn d f) (flat_map (queues_in s f) ps)
classes_due d f s [] h = tt
classes_due d f s (p ∷ ps) h = both_due d f (queues_in s f p) (flat_map (queues_in s f) ps) (class_due d f p s.queues h) (classes_due d f s ps h)

-- ---- none twice

abbrev class_of : ℕ → ℕ → QueueHead → Bool
class_of f p q = at_place p (f % frame_period p) q

abbrev classes : ℕ → List QueueHead → List ℕ → List QueueHead
classes f qs ps = flat_map (λ p. filter (class_of f p) qs) ps

flipped : (a b : ℕ) → nat_eq a b ≡ false → nat_eq b a ≡ false
flipped a b e = grind (arith, nat_tests, e)

other_class : (f p r : ℕ) (q : QueueHead) → nat_eq p r ≡ false → class_of f r q ≡ true → class_of f p q ≡ false
other_class f p r q apart e =
    let is : q.period ≡ r = same_number q.period r (and_parts (nat_eq q.period r) (nat_eq q.phase (f % frame_period r)) e).0 in
    let off : nat_eq q.period p ≡ false = subst (λ n. nat_eq n p ≡ false) (sym is) (flipped p r apart) in
    rw off refl

-- what isn't of the class p doesn't miss those of another
abbrev Still : ℕ → ℕ → ℕ → List QueueHead → Type 0
Still f p r qs = filter (class_of f r) qs ≡ filter (class_of f r) (filter (λ q. not (class_of f p q)) qs)

one_still : (f p r : ℕ) (q : QueueHead) (qs : List QueueHead) (a b : Bool) → nat_eq p r ≡ false → class_of f p q ≡ a → class_of f r q ≡ b → Still f p r qs → Still f p r (q ∷ qs)
one_still f p r q qs true true apart ea eb rest = absurd (let off = other_class f p r q apart eb in cc)
one_still f p r q qs true false apart ea eb rest = rw (ea, eb) rest
one_still f p r q qs false true apart ea eb rest = rw (ea, eb) (ap (λ xs. q ∷ xs) rest)
one_still f p r q qs false false apart ea eb rest = rw (ea, eb) rest

still : (f p r : ℕ) (qs : List QueueHead) → nat_eq p r ≡ false → Still f p r qs
still f p r [] apart = refl
still f p r (q ∷ qs) apart = one_still f p r q qs (class_of f p q) (class_of f r q) apart refl refl (still f p r qs apart)

abbrev Apart : ℕ → List ℕ → Type 0
Apart p rs = AllByRecursion (λ r. nat_eq p r ≡ false) rs

all_still : (f p : ℕ) (qs : List QueueHead) (rs : List ℕ) → Apart p rs → classes f qs rs ≡ classes f (filter (λ q. not (class_of f p q)) qs) rs
all_still f p qs [] apart = refl
all_still f p qs (r ∷ rs) apart =
    ap (λ xs. xs ++ classes f qs rs) (still f p r qs apart.0)
    ∙ ap (λ xs. filter (class_of f r) (filter (λ q. not (class_of f p q)) qs) ++ xs) (all_still f p qs rs apart.1)

abbrev AreApart : List ℕ → Type 0
AreApart [] = Unit {0}
AreApart (p ∷ ps) = Apart p ps × AreApart ps

few_in_classes : (f id : ℕ) (ps : List ℕ) (qs : List QueueHead) → AreApart ps → count_by (is_named id) (classes f qs ps) ≤ count_by (is_named id) qs
few_in_classes f id [] qs apart = omega arith
few_in_classes f id (p ∷ ps) qs apart =
    let rest = filter (λ q. not (class_of f p q)) qs in
    let later : count_by (is_named id) (classes f rest ps) ≤ count_by (is_named id) rest = few_in_classes f id ps rest apart.1 in
    let same : count_by (is_named id) (classes f qs ps) ≡ count_by (is_named id) (classes f rest ps) = ap (count_by (is_named id)) (all_still f p qs ps apart.0) in
    omega (
      arith,
      later,
      same,
      count_two (is_named id) (filter (class_of f p) qs) (classes f qs ps),
      count_parts (is_named id) (class_of f p) qs,
    )

-- the periods are different
are_apart : List ℕ → Bool
are_apart [] = true
are_apart (p ∷ ps) = list_all (λ r. not (nat_eq p r)) ps && are_apart ps

apart_by : (p : ℕ) (rs : List ℕ) → list_all (λ r. not (nat_eq p r)) rs ≡ true → Apart p rs
apart_by p [] e = tt
apart_by p (r ∷ rs) e =
    let parts = and_parts (not (nat_eq p r)) (list_all (λ x. not (nat_eq p x)) rs) e in (not_on (nat_eq p r) parts.0, apart_by p rs parts.1)

apart_all : (ps : List ℕ) → are_apart ps ≡ true → AreApart ps
unfolding are_apart
apart_all [] e = tt
apart_all (p ∷ ps) e =
    let parts = and_parts (list_all (λ r. not (nat_eq p r)) ps) (are_apart ps) e in (apart_by p ps parts.0, apart_all ps parts.1)

periods_apart : AreApart periods
unfolding are_apart
periods_apart = apart_all periods refl

-- ---- both

pub queue_heads_of_a_frame_are_due : (d : DriverContent) (f : ℕ) → HasOwners d → IsListed d → IsPlanned d
    → IsKept d.periodic.list.members.schedule → AreDue d f
queue_heads_of_a_frame_are_due d f has listed planned kept = record {
  each = classes_due d f d.periodic.list.members.schedule periods (queue_heads_are_of_placed_endpoints d has listed planned);
  once = λ id. let few = few_in_classes f id periods d.periodic.list.members.schedule.queues periods_apart in let all = kept.named id in omega (arith, few, all);
}

-- ---- each that is due is there

abbrev its_queue : Endpoint → Placement → QueueHead
its_queue x p = record { id = queue_name x.queue; period = p.period; phase = p.phase }

-- it has the period and the phase of q
record IsThis (q r : QueueHead) : Type 0 where
  period : r.period ≡ q.period
  phase : r.phase ≡ q.phase

this_is : (q r : QueueHead) → is_this q r ≡ true → IsThis q r
this_is q r e =
    let parts = and_parts (nat_eq r.id q.id) (nat_eq r.period q.period && nat_eq r.phase q.phase) e in
    let both = and_parts (nat_eq r.period q.period) (nat_eq r.phase q.phase) parts.1 in
    record { period = same_number r.period q.period both.0; phase = same_number r.phase q.phase both.1 }

its_class : (f : ℕ) (q r : QueueHead) → is_active f q ≡ true → IsThis q r → class_of f q.period r ≡ true
its_class f q r active is =
    let period : nat_eq r.period q.period ≡ true = subst (λ n. nat_eq n q.period ≡ true) (sym is.period) (same_itself q.period) in
    let phase : nat_eq r.phase (f % frame_period q.period) ≡ true = subst (λ n. nat_eq n (f % frame_period q.period) ≡ true) (sym is.phase) active in
    rw (period, phase) refl

kept_first : (f : ℕ) (q r : QueueHead) (rs : List QueueHead) (a : Bool) → class_of f q.period r ≡ a → list_any (is_this q) (filter (class_of f q.period) rs) ≡ true → list_any (is_this q) (filter (class_of f q.period) (r ∷ rs)) ≡ true
kept_first f q r rs true e rest = rw e (right_or (is_this q r) (list_any (is_this q) (filter (class_of f q.period) rs)) rest)
kept_first f q r rs false e rest = rw e rest

in_class : (f : ℕ) (q : QueueHead) (rs : List QueueHead) → is_active f q ≡ true → list_any (is_this q) rs ≡ true → list_any (is_this q) (filter (class_of f q.period) rs) ≡ true
in_class f q [] active e = absurd (cc)
in_class f q (r ∷ rs) active e =
    elim (either_one (is_this q r) (list_any (is_this q) rs) e) [
      | inl h ↦ let own = its_class f q r active (this_is q r h) in rw own (left_or (is_this q r) (list_any (is_this q) (filter (class_of f q.period) rs)) h)
      | inr h ↦ kept_first f q r rs (class_of f q.period r) refl (in_class f q rs active h)
    ]

in_classes : (f : ℕ) (q : QueueHead) (qs : List QueueHead) (ps : List ℕ) → list_any (λ p. nat_eq q.period p) ps ≡ true → list_any (is_this q) (filter (class_of f q.period) qs) ≡ true
    → list_any (is_this q) (classes f qs ps) ≡ true
in_classes f q qs [] e there = absurd (cc)
in_classes f q qs (p ∷ ps) e there =
    elim (either_one (nat_eq q.period p) (list_any (λ x. nat_eq q.period x) ps) e) [
      | inl h ↦
          let same : q.period ≡ p = same_number q.period p h in
          any_left (is_this q) (filter (class_of f p) qs) (classes f qs ps)
          (subst (λ n. list_any (is_this q) (filter (class_of f n) qs) ≡ true) same there)
      | inr h ↦ any_right (is_this q) (filter (class_of f p) qs) (classes f qs ps) (in_classes f q qs ps h there)
    ]

has_period : (q : QueueHead) (rs : List QueueHead) → AllByRecursion (λ r. is_queue r ≡ true) rs → list_any (is_this q) rs ≡ true → is_period q.period ≡ true
has_period q [] h e = absurd (cc)
has_period q (r ∷ rs) h e =
    elim (either_one (is_this q r) (list_any (is_this q) rs) e) [
      | inl t ↦ subst (λ n. is_period n ≡ true) (this_is q r t).period (and_parts (is_period r.period) (nat_lt r.phase (frame_period r.period)) h.0).0
      | inr t ↦ has_period q rs h.1 t
    ]

-- the queue head of an endpoint in its frames stands in the chain of each frame in which its placement is active
pub a_frame_has_all_queue_heads_that_are_due : (d : DriverContent) (f : ℕ) → HasOwners d → HasQueues d
    → IsKept d.periodic.list.members.schedule → HasAllDue d f
a_frame_has_all_queue_heads_that_are_due d f has queues kept = λ e x p here chained ring placed active.
    let q : QueueHead = its_queue x p in
    let framed : framed_in d.endpoints e ≡ Some (framed_of x) = ap (option_map framed_of) here in
    let there : list_any (is_this q) d.periodic.list.members.schedule.queues ≡ true = queues.each e (framed_of x) p framed chained ring placed in
    let on : is_active f q ≡ true = same_test p.phase (f % frame_period p.period) ∙ active in
    in_classes f q d.periodic.list.members.schedule.queues periods (has_period q d.periodic.list.members.schedule.queues kept.queues there) (in_class f q d.periodic.list.members.schedule.queues on there)
