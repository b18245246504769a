-- A chain with one more queue head: what stands ahead of it, and behind it.
use Rattle.std.proofs.Common.{◌≡◌, ℕ, ◌%◌, ◌<◌, ◌≤◌, Bool, true, false, List, [], ◌∷◌, ◌++◌, map, nat_eq, cond, if◌then◌else◌, refl, ap, sym, ◌∙◌, subst, arith}
use Rattle.std.specs.Prelude.{◌||◌, filter}
use Rattle.std.specs.List.{AllByRecursion, list_any, flat_map}
use Rattle.std.proofs.lemmas.Bool.{eq-eqb, eqb-true, ne_eqb, and_left, and_right, and_from, false≢true}
use Rattle.std.proofs.lemmas.List.{map-append, append_assoc}
use Rattle.std.proofs.lemmas.List.Elements.{filter-append}
use Rattle.drv_chains.specs.declared.members.Descriptor.{Descriptor}
use Rattle.drv_chains.specs.declared.members.QueueHead.{QueueHead}
use Rattle.drv_chains.specs.declared.members.Member.{Member}
use Rattle.drv_chains.specs.declared.members.Member.TheVariants.{Once, Each}
use Rattle.drv_chains.specs.declared.members.Predecessor.TheVariants.{Element}
use Rattle.drv_chains.specs.Chains.{Schedule, of_lists, periods, is_period, frame_period, is_active, at_place, queues_in, chain, has_name, id_of, is_the, word_after, before_the, behind_the, first_of, predecessor, successor}
use Rattle.drv_chains.proofs.Words.{Falls, queues_at, ahead_in, behind_in, all_in, all_kept, later, periods_fall}
use Rattle.drv_chains.proofs.Orders.{both_parts}

abbrev pub once_in : List Descriptor → ℕ → List Member
once_in ds f = map Once (filter (λ d. nat_eq d.frame f) ds)

-- the queue heads of a chain, a period at a time
pub by_periods : (s : Schedule) (f : ℕ) (ps : List ℕ) → map Each (flat_map (queues_in s f) ps) ≡ all_in s.queues f ps
unfolding all_in
by_periods s f [] = refl
by_periods s f (p ∷ ps) = map-append Each (queues_in s f p) (flat_map (queues_in s f) ps) ∙ ap (λ x. queues_at s.queues p f ++ x) (by_periods s f ps)

pub chain_is : (s : Schedule) (f : ℕ) → chain s f ≡ once_in s.descriptors f ++ all_in s.queues f periods
chain_is s f = ap (λ x. once_in s.descriptors f ++ x) (by_periods s f periods)

-- the filter of a list with one element more between two parts
pub without : {X : Type 0} (test : X → Bool) (xs ys : List X) (q : X) → test q ≡ false → filter test (xs ++ q ∷ ys) ≡ filter test (xs ++ ys)
without test [] ys q e = ap (λ b. cond b (q ∷ filter test ys) (filter test ys)) e
without test (x ∷ xs) ys q e = ap (λ zs. cond (test x) (x ∷ zs) zs) (without test xs ys q e)

pub among : {X : Type 0} (test : X → Bool) (xs ys : List X) (q : X) → test q ≡ true → filter test (xs ++ q ∷ ys) ≡ filter test xs ++ q ∷ filter test ys
among test xs ys q e = filter-append test xs (q ∷ ys) ∙ ap (λ b. filter test xs ++ cond b (q ∷ filter test ys) (filter test ys)) e

split_at : (xs ys : List QueueHead) (p f : ℕ) → queues_at (xs ++ ys) p f ≡ queues_at xs p f ++ queues_at ys p f
split_at xs ys p f = let v = f % frame_period p in
    ap (λ zs. map Each zs) (filter-append (at_place p v) xs ys) ∙ map-append Each (filter (at_place p v) xs) (filter (at_place p v) ys)

three : {X : Type 0} (a b c d e : List X) → a ≡ b ++ c → e ≡ c ++ d → a ++ d ≡ b ++ e
three a b c d e h k = ap (λ x. x ++ d) h ∙ append_assoc b c d ∙ ap (λ x. b ++ x) (sym k)

old_or : (xs ys : List QueueHead) (q : QueueHead) (f p : ℕ) (ps : List ℕ) (b : Bool) → all_in (xs ++ ys) f ps ≡ ahead_in xs ys q f ps ++ behind_in xs ys q f ps
    → queues_at (xs ++ ys) p f ++ all_in (xs ++ ys) f ps ≡ (if b then queues_at xs p f else queues_at (xs ++ ys) p f ++ ahead_in xs ys q f ps) ++ (if b then queues_at ys p f ++ all_in (xs ++ ys) f ps else behind_in xs ys q f ps)
old_or xs ys q f p ps true h = three (queues_at (xs ++ ys) p f) (queues_at xs p f) (queues_at ys p f) (all_in (xs ++ ys) f ps) (queues_at ys p f ++ all_in (xs ++ ys) f ps) (split_at xs ys p f) refl
old_or xs ys q f p ps false h = ap (λ x. queues_at (xs ++ ys) p f ++ x) h ∙ sym (append_assoc (queues_at (xs ++ ys) p f) (ahead_in xs ys q f ps) (behind_in xs ys q f ps))

pub old_split : (xs ys : List QueueHead) (q : QueueHead) (f : ℕ) (ps : List ℕ) → all_in (xs ++ ys) f ps ≡ ahead_in xs ys q f ps ++ behind_in xs ys q f ps
unfolding all_in ahead_in behind_in
old_split xs ys q f [] = refl
old_split xs ys q f (p ∷ ps) = old_or xs ys q f p ps (nat_eq q.period p) (old_split xs ys q f ps)

-- a queue head isn't in the lists of other periods or phases
not_at : (p f : ℕ) (q : QueueHead) → nat_eq q.period p ≡ false → at_place p (f % frame_period p) q ≡ false
not_at p f q e = and_left (nat_eq q.period p) (nat_eq q.phase (f % frame_period p)) e

is_at : (p f : ℕ) (q : QueueHead) → nat_eq q.period p ≡ true → is_active f q ≡ true → at_place p (f % frame_period p) q ≡ true
is_at p f q e a = and_from (nat_eq q.period p) (nat_eq q.phase (f % frame_period p)) e (subst (λ x. nat_eq q.phase (f % frame_period x) ≡ true) (eqb-true q.period p e) a)

idle_at : (p f : ℕ) (q : QueueHead) (b : Bool) → nat_eq q.period p ≡ b → is_active f q ≡ false → at_place p (f % frame_period p) q ≡ false
idle_at p f q false e a = not_at p f q e
idle_at p f q true e a = and_right (nat_eq q.period p) (nat_eq q.phase (f % frame_period p)) (subst (λ x. nat_eq q.phase (f % frame_period x) ≡ false) (eqb-true q.period p e) a)

pub idle_same : (xs ys : List QueueHead) (q : QueueHead) (f : ℕ) (ps : List ℕ) → is_active f q ≡ false → all_in (xs ++ q ∷ ys) f ps ≡ all_in (xs ++ ys) f ps
unfolding all_in
idle_same xs ys q f [] a = refl
idle_same xs ys q f (p ∷ ps) a =
    ap (λ x. map Each x ++ all_in (xs ++ q ∷ ys) f ps) (without (at_place p (f % frame_period p)) xs ys q (idle_at p f q (nat_eq q.period p) refl a))
    ∙ ap (λ x. queues_at (xs ++ ys) p f ++ x) (idle_same xs ys q f ps a)

-- shorter periods than q's
smaller : (p : ℕ) (q : QueueHead) → p < q.period → nat_eq q.period p ≡ false
smaller p q h = ne_eqb q.period p (λ e. omega (arith, h, e))

chained : (a b c : ℕ) → a < b → b ≤ c → a < c
chained a b c h k = omega (arith, h, k)

weaker : (a b : ℕ) → a < b → a ≤ b
weaker a b h = omega (arith, h)

shorter_same : (xs ys : List QueueHead) (q : QueueHead) (f period : ℕ) (ps : List ℕ) → Falls period ps → period ≤ q.period → all_in (xs ++ q ∷ ys) f ps ≡ all_in (xs ++ ys) f ps
unfolding all_in Falls
shorter_same xs ys q f period [] falls h = refl
shorter_same xs ys q f period (p ∷ ps) falls h =
    let l : p < q.period = chained p period q.period falls.1.0 h in
    ap (λ x. map Each x ++ all_in (xs ++ q ∷ ys) f ps) (without (at_place p (f % frame_period p)) xs ys q (not_at p f q (smaller p q l)))
    ∙ ap (λ x. queues_at (xs ++ ys) p f ++ x) (shorter_same xs ys q f p ps falls.1.1 (weaker p q.period l))

not_above : (p n : ℕ) → n ≡ p → p ≤ n
not_above p n e = omega (arith, e)

new_or : (xs ys : List QueueHead) (q : QueueHead) (f p : ℕ) (ps : List ℕ) (b : Bool) → nat_eq q.period p ≡ b → is_active f q ≡ true → Falls p ps
    → (b ≡ false → all_in (xs ++ q ∷ ys) f ps ≡ ahead_in xs ys q f ps ++ Each q ∷ behind_in xs ys q f ps)
    → queues_at (xs ++ q ∷ ys) p f ++ all_in (xs ++ q ∷ ys) f ps ≡ (if b then queues_at xs p f else queues_at (xs ++ ys) p f ++ ahead_in xs ys q f ps) ++ Each q ∷ (if b then queues_at ys p f ++ all_in (xs ++ ys) f ps else behind_in xs ys q f ps)
new_or xs ys q f p ps true e a falls h =
    let v = f % frame_period p in
    let s : queues_at (xs ++ q ∷ ys) p f ≡ queues_at xs p f ++ Each q ∷ queues_at ys p f = ap (λ zs. map Each zs) (among (at_place p v) xs ys q (is_at p f q e a)) ∙ map-append Each (filter (at_place p v) xs) (q ∷ filter (at_place p v) ys) in
    three (queues_at (xs ++ q ∷ ys) p f) (queues_at xs p f) (Each q ∷ queues_at ys p f) (all_in (xs ++ q ∷ ys) f ps) (Each q ∷ (queues_at ys p f ++ all_in (xs ++ ys) f ps)) s
    (ap (λ x. Each q ∷ (queues_at ys p f ++ x)) (sym (shorter_same xs ys q f p ps falls (not_above p q.period (eqb-true q.period p e)))))
new_or xs ys q f p ps false e a falls h =
    ap (λ x. map Each x ++ all_in (xs ++ q ∷ ys) f ps) (without (at_place p (f % frame_period p)) xs ys q (not_at p f q e))
    ∙ ap (λ x. queues_at (xs ++ ys) p f ++ x) (h refl)
    ∙ sym (append_assoc (queues_at (xs ++ ys) p f) (ahead_in xs ys q f ps) (Each q ∷ behind_in xs ys q f ps))

pub new_split : (xs ys : List QueueHead) (q : QueueHead) (f period : ℕ) (ps : List ℕ) → Falls period ps → list_any (λ p. nat_eq q.period p) ps ≡ true → is_active f q ≡ true → all_in (xs ++ q ∷ ys) f ps ≡ ahead_in xs ys q f ps ++ Each q ∷ behind_in xs ys q f ps
unfolding all_in ahead_in behind_in Falls
new_split xs ys q f period [] falls here a = absurd (false≢true here)
new_split xs ys q f period (p ∷ ps) falls here a =
    new_or xs ys q f p ps (nat_eq q.period p) refl a falls.1.1
    (λ e. new_split xs ys q f p ps falls.1.1 (later (nat_eq q.period p) (list_any (λ x. nat_eq q.period x) ps) here e) a)

abbrev pub ahead : List Descriptor → List QueueHead → List QueueHead → QueueHead → ℕ → List Member
ahead ds xs ys q f = once_in ds f ++ ahead_in xs ys q f periods

abbrev pub behind : List QueueHead → List QueueHead → QueueHead → ℕ → List Member
behind xs ys q f = behind_in xs ys q f periods

pub old_chain : (ds : List Descriptor) (xs ys : List QueueHead) (q : QueueHead) (f : ℕ) → chain (of_lists ds (xs ++ ys)) f ≡ ahead ds xs ys q f ++ behind xs ys q f
old_chain ds xs ys q f = chain_is (of_lists ds (xs ++ ys)) f ∙ ap (λ x. once_in ds f ++ x) (old_split xs ys q f periods) ∙ sym (append_assoc (once_in ds f) (ahead_in xs ys q f periods) (behind_in xs ys q f periods))

pub new_chain : (ds : List Descriptor) (xs ys : List QueueHead) (q : QueueHead) (f : ℕ) → is_period q.period ≡ true → is_active f q ≡ true → chain (of_lists ds (xs ++ q ∷ ys)) f ≡ ahead ds xs ys q f ++ Each q ∷ behind xs ys q f
new_chain ds xs ys q f here a = chain_is (of_lists ds (xs ++ q ∷ ys)) f ∙ ap (λ x. once_in ds f ++ x) (new_split xs ys q f 16384 periods periods_fall here a) ∙ sym (append_assoc (once_in ds f) (ahead_in xs ys q f periods) (Each q ∷ behind_in xs ys q f periods))

pub idle_chain : (ds : List Descriptor) (xs ys : List QueueHead) (q : QueueHead) (f : ℕ) → is_active f q ≡ false → chain (of_lists ds (xs ++ q ∷ ys)) f ≡ chain (of_lists ds (xs ++ ys)) f
idle_chain ds xs ys q f a = chain_is (of_lists ds (xs ++ q ∷ ys)) f ∙ ap (λ x. once_in ds f ++ x) (idle_same xs ys q f periods a) ∙ sym (chain_is (of_lists ds (xs ++ ys)) f)

-- nothing ahead has the new name
pub left_false : (a b : Bool) → (a || b) ≡ false → (a ≡ false) × (b ≡ false)
left_false true b e = absurd (false≢true (sym e))
left_false false b e = (refl, e)

pub none_named : {X : Type 0} (test : X → Bool) (xs : List X) → list_any test xs ≡ false → AllByRecursion (λ x. test x ≡ false) xs
none_named test [] e = tt
none_named test (x ∷ xs) e = let k = left_false (test x) (list_any test xs) e in (k.0, none_named test xs k.1)

pub each_map : {X Y : Type 0} (P : Y → Type 0) (t : X → Y) (xs : List X) → AllByRecursion (λ x. P (t x)) xs → AllByRecursion P (map t xs)
each_map P t [] k = tt
each_map P t (x ∷ xs) k = (k.0, each_map P t xs k.1)

pub front_of : {X : Type 0} (P : X → Type 0) (xs ys : List X) → AllByRecursion P (xs ++ ys) → AllByRecursion P xs
front_of P [] ys k = tt
front_of P (x ∷ xs) ys k = (k.0, front_of P xs ys k.1)

either_list : (P : Member → Type 0) (b : Bool) (a c : List Member) → AllByRecursion P a → AllByRecursion P c → AllByRecursion P (if b then a else c)
either_list P true a c h k = h
either_list P false a c h k = k

named_queues : (q : QueueHead) (qs : List QueueHead) (p f : ℕ) → AllByRecursion (λ x. nat_eq x.id q.id ≡ false) qs → AllByRecursion (λ m. is_the (Each q) m ≡ false) (queues_at qs p f)
named_queues q qs p f k = each_map (λ m. is_the (Each q) m ≡ false) Each (filter (at_place p (f % frame_period p)) qs) (all_kept (λ x. nat_eq x.id q.id ≡ false) (at_place p (f % frame_period p)) qs k)

named_ahead : (xs ys : List QueueHead) (q : QueueHead) (f : ℕ) (ps : List ℕ) → AllByRecursion (λ x. nat_eq x.id q.id ≡ false) (xs ++ ys) → AllByRecursion (λ m. is_the (Each q) m ≡ false) (ahead_in xs ys q f ps)
unfolding ahead_in
named_ahead xs ys q f [] k = tt
named_ahead xs ys q f (p ∷ ps) k = either_list (λ m. is_the (Each q) m ≡ false) (nat_eq q.period p) (queues_at xs p f) (queues_at (xs ++ ys) p f ++ ahead_in xs ys q f ps)
    (named_queues q xs p f (front_of (λ x. nat_eq x.id q.id ≡ false) xs ys k))
    (both_parts (λ m. is_the (Each q) m ≡ false) (queues_at (xs ++ ys) p f) (ahead_in xs ys q f ps) (named_queues q (xs ++ ys) p f k) (named_ahead xs ys q f ps k))

pub nothing_ahead : (ds : List Descriptor) (xs ys : List QueueHead) (q : QueueHead) (f : ℕ) → has_name (of_lists ds (xs ++ ys)) q.id ≡ false → AllByRecursion (λ m. is_the (Each q) m ≡ false) (ahead ds xs ys q f)
nothing_ahead ds xs ys q f h =
    let k = left_false (list_any (λ d. nat_eq d.id q.id) ds) (list_any (λ x. nat_eq x.id q.id) (xs ++ ys)) h in
    both_parts (λ m. is_the (Each q) m ≡ false) (once_in ds f) (ahead_in xs ys q f periods)
    (each_map (λ m. is_the (Each q) m ≡ false) Once (filter (λ d. nat_eq d.frame f) ds) (all_kept (λ d. nat_eq d.id q.id ≡ false) (λ d. nat_eq d.frame f) ds (none_named (λ d. nat_eq d.id q.id) ds k.0)))
    (named_ahead xs ys q f periods (none_named (λ x. nat_eq x.id q.id) (xs ++ ys) k.1))

-- what stands before and behind a member that stands nowhere ahead
same_name : (n : ℕ) → nat_eq n n ≡ true
same_name n = eq-eqb n n refl

pub before_it : (m : Member) (a b : List Member) → AllByRecursion (λ x. is_the m x ≡ false) a → before_the m (a ++ m ∷ b) ≡ a
unfolding before_the
before_it m [] b k = ap (λ t. if t then [] else m ∷ before_the m b) (same_name (id_of m))
before_it m (x ∷ a) b k = ap (λ t. if t then [] else x ∷ before_the m (a ++ m ∷ b)) k.0 ∙ ap (λ z. x ∷ z) (before_it m a b k.1)

pub behind_it : (m : Member) (a b : List Member) → AllByRecursion (λ x. is_the m x ≡ false) a → behind_the m (a ++ m ∷ b) ≡ b
unfolding behind_the
behind_it m [] b k = ap (λ t. if t then b else behind_the m b) (same_name (id_of m))
behind_it m (x ∷ a) b k = ap (λ t. if t then (a ++ m ∷ b) else behind_the m (a ++ m ∷ b)) k.0 ∙ behind_it m a b k.1

-- the words around a queue head
pub word_is : (ds : List Descriptor) (xs ys : List QueueHead) (q : QueueHead) (f : ℕ) → has_name (of_lists ds (xs ++ ys)) q.id ≡ false → is_period q.period ≡ true → is_active f q ≡ true
    → predecessor (of_lists ds (xs ++ q ∷ ys)) (Each q) f ≡ word_after (Element f) (ahead ds xs ys q f)
word_is ds xs ys q f named here a = ap (λ ms. word_after (Element f) (before_the (Each q) ms)) (new_chain ds xs ys q f here a) ∙ ap (λ ms. word_after (Element f) ms) (before_it (Each q) (ahead ds xs ys q f) (behind xs ys q f) (nothing_ahead ds xs ys q f named))

pub next_is : (ds : List Descriptor) (xs ys : List QueueHead) (q : QueueHead) (f : ℕ) → has_name (of_lists ds (xs ++ ys)) q.id ≡ false → is_period q.period ≡ true → is_active f q ≡ true
    → successor (of_lists ds (xs ++ q ∷ ys)) (Each q) f ≡ first_of (behind xs ys q f)
next_is ds xs ys q f named here a = ap (λ ms. first_of (behind_the (Each q) ms)) (new_chain ds xs ys q f here a) ∙ ap (λ ms. first_of ms) (behind_it (Each q) (ahead ds xs ys q f) (behind xs ys q f) (nothing_ahead ds xs ys q f named))
