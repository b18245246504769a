-- The words that lead to a queue head, and those that are stored.
use Rattle.std.proofs.Common.{◌≡◌, ℕ, zero, suc, ◌%◌, ◌^◌, ◌<◌, ◌≤◌, Bool, true, false, List, [], ◌∷◌, ◌++◌, map, take, nat_eq, inl, inr, cond, if◌then◌else◌, refl, ap, sym, ◌∙◌, subst, arith}
use Rattle.std.specs.Prelude.{◌||◌, ◌&&◌, filter}
use Rattle.std.specs.List.{AllByRecursion, list_any, flat_map}
use Rattle.std.proofs.lemmas.Bool.{eq-eqb, eqb-true, and_parts, and_from, or_cases, false≢true}
use Rattle.std.proofs.Math.Nat.{mod-mod, mod-le}
use Rattle.drv_chains.specs.declared.members.Descriptor.{Descriptor}
use Rattle.drv_chains.specs.declared.members.QueueHead.{QueueHead}
use Rattle.drv_chains.specs.declared.members.Member.{Member}
use Rattle.drv_chains.specs.declared.members.Member.TheVariants.{Once, Each}
use Rattle.drv_chains.specs.declared.members.Predecessor.{Predecessor}
use Rattle.drv_chains.specs.declared.members.Predecessor.TheVariants.{Element, After}
use Rattle.drv_chains.specs.Order.{frames}
use Rattle.drv_chains.specs.Chains.{Schedule, of_lists, periods, is_period, frame_period, is_active, at_place, chain, has_name, stands_in, word_after, predecessor, predecessors, word_met, first_frame, has_word}
use Rattle.drv_chains.specs.Stores.{is_same, is_word, is_among}
use Rattle.drv_chains.proofs.Orders.{both_parts, each_below}
use Rattle.drv_chains.proofs.Words.{Agree, queues_at, ahead_in, all_in, of_kept, after_all, holds_after, word_after_both, agree_start, agree_ahead, periods_fall}
use Rattle.drv_chains.proofs.Beside.{once_in, ahead, behind, chain_is, old_chain, word_is, front_of}

-- ---- a word that leads to q in one frame leads to it in each frame whose chain has the word

agree_words : (ds : List Descriptor) (xs ys : List QueueHead) (q : QueueHead) (f g : ℕ) → is_period q.period ≡ true → Agree f g q.period (word_after (Element f) (ahead ds xs ys q f)) (word_after (Element g) (ahead ds xs ys q g))
agree_words ds xs ys q f g here =
    subst (λ (x : Predecessor). Agree f g q.period x (word_after (Element g) (ahead ds xs ys q g))) (sym (word_after_both (Element f) (once_in ds f) (ahead_in xs ys q f periods)))
    (subst (λ (x : Predecessor). Agree f g q.period (word_after (word_after (Element f) (once_in ds f)) (ahead_in xs ys q f periods)) x) (sym (word_after_both (Element g) (once_in ds g) (ahead_in xs ys q g periods)))
    (agree_ahead xs ys q f g periods 16384 (word_after (Element f) (once_in ds f)) (word_after (Element g) (once_in ds g)) periods_fall here (agree_start f g 16384 ds (nat_eq g f) refl)))

pub follows : (ds : List Descriptor) (xs ys : List QueueHead) (q : QueueHead) (f g : ℕ) → has_name (of_lists ds (xs ++ ys)) q.id ≡ false → is_period q.period ≡ true → is_active g q ≡ true
    → has_word f (predecessor (of_lists ds (xs ++ q ∷ ys)) (Each q) g) ≡ true → (is_active f q ≡ true) × (predecessor (of_lists ds (xs ++ q ∷ ys)) (Each q) f ≡ predecessor (of_lists ds (xs ++ q ∷ ys)) (Each q) g)
follows ds xs ys q f g named here a h =
    let wg = word_is ds xs ys q g named here a in
    elim (agree_words ds xs ys q f g here) [
      | inl n ↦ absurd (false≢true (sym n ∙ sym (ap (λ x. has_word f x) wg) ∙ h))
      | inr s ↦
          let b : is_active f q ≡ true = ap (λ x. nat_eq q.phase x) s.1 ∙ a in
          (b, word_is ds xs ys q f named here b ∙ sym s.0 ∙ sym wg)
    ]

-- ---- the words of a chain

placed : (f p : ℕ) (q : QueueHead) → at_place p (f % frame_period p) q ≡ true → is_active f q ≡ true
placed f p q h =
    let both = and_parts (nat_eq q.period p) (nat_eq q.phase (f % frame_period p)) h in
    subst (λ x. nat_eq q.phase (f % frame_period x) ≡ true) (sym (eqb-true q.period p both.0)) both.1

words_in : (qs : List QueueHead) (f : ℕ) (ps : List ℕ) → AllByRecursion (λ m. has_word f (After m) ≡ true) (all_in qs f ps)
unfolding all_in
words_in qs f [] = tt
words_in qs f (p ∷ ps) = both_parts (λ m. has_word f (After m) ≡ true) (queues_at qs p f) (all_in qs f ps) (of_kept (λ m. has_word f (After m) ≡ true) Each (at_place p (f % frame_period p)) (placed f p) qs) (words_in qs f ps)

members_in : (s : Schedule) (f : ℕ) → AllByRecursion (λ m. has_word f (After m) ≡ true) (chain s f)
members_in s f = subst (λ (ms : List Member). AllByRecursion (λ m. has_word f (After m) ≡ true) ms) (sym (chain_is s f))
    (both_parts (λ m. has_word f (After m) ≡ true) (once_in s.descriptors f) (all_in s.queues f periods) (of_kept (λ m. has_word f (After m) ≡ true) Once (λ d. nat_eq d.frame f) (λ d h. h) s.descriptors) (words_in s.queues f periods))

pub chain_words : (s : Schedule) (f : ℕ) → AllByRecursion (λ w. has_word f w ≡ true) (map After (chain s f))
chain_words s f = after_all (λ w. has_word f w ≡ true) (chain s f) (members_in s f)

same_number : (n : ℕ) → nat_eq n n ≡ true
same_number n = eq-eqb n n refl

pub has_its_word : (ds : List Descriptor) (xs ys : List QueueHead) (q : QueueHead) (f : ℕ) → has_name (of_lists ds (xs ++ ys)) q.id ≡ false → is_period q.period ≡ true → is_active f q ≡ true → has_word f (predecessor (of_lists ds (xs ++ q ∷ ys)) (Each q) f) ≡ true
has_its_word ds xs ys q f named here a =
    let ms = subst (λ (ms : List Member). AllByRecursion (λ m. has_word f (After m) ≡ true) ms) (old_chain ds xs ys q f) (members_in (of_lists ds (xs ++ ys)) f) in
    ap (λ x. has_word f x) (word_is ds xs ys q f named here a)
    ∙ holds_after (λ w. has_word f w ≡ true) (Element f) (ahead ds xs ys q f) (same_number f)
    (after_all (λ w. has_word f w ≡ true) (ahead ds xs ys q f) (front_of (λ m. has_word f (After m) ≡ true) (ahead ds xs ys q f) (behind xs ys q f) ms))

-- ---- one word

descriptor : ℕ → ℕ → Descriptor
descriptor id frame = record { id = id; frame = frame }

queue_head : ℕ → ℕ → ℕ → QueueHead
queue_head id period phase = record { id = id; period = period; phase = phase }

same_descriptor : (d e : Descriptor) → d.id ≡ e.id → d.frame ≡ e.frame → d ≡ e
unfolding descriptor
same_descriptor d e h k = ap (λ x. descriptor x d.frame) h ∙ ap (λ x. descriptor e.id x) k

same_queue : (q r : QueueHead) → q.id ≡ r.id → q.period ≡ r.period → q.phase ≡ r.phase → q ≡ r
unfolding queue_head
same_queue q r h k l = ap (λ x. queue_head x q.period q.phase) h ∙ ap (λ x. queue_head r.id x q.phase) k ∙ ap (λ x. queue_head r.id r.period x) l

pub one_member : (m n : Member) → is_same m n ≡ true → m ≡ n
one_member (Once d) (Once e) h =
    let k = and_parts (nat_eq d.id e.id) (nat_eq d.frame e.frame) h in
    ap Once (same_descriptor d e (eqb-true d.id e.id k.0) (eqb-true d.frame e.frame k.1))
one_member (Once d) (Each r) h = absurd (false≢true h)
one_member (Each q) (Once e) h = absurd (false≢true h)
one_member (Each q) (Each r) h =
    let k = and_parts (nat_eq q.id r.id) (nat_eq q.period r.period && nat_eq q.phase r.phase) h in
    let l = and_parts (nat_eq q.period r.period) (nat_eq q.phase r.phase) k.1 in
    ap Each (same_queue q r (eqb-true q.id r.id k.0) (eqb-true q.period r.period l.0) (eqb-true q.phase r.phase l.1))

pub one_word : (w v : Predecessor) → is_word w v ≡ true → w ≡ v
one_word (Element f) (Element g) h = ap Element (eqb-true f g h)
one_word (Element f) (After m) h = absurd (false≢true h)
one_word (After m) (Element g) h = absurd (false≢true h)
one_word (After m) (After n) h = ap After (one_member m n h)

itself : (m : Member) → is_same m m ≡ true
itself (Once d) = and_from (nat_eq d.id d.id) (nat_eq d.frame d.frame) (same_number d.id) (same_number d.frame)
itself (Each q) = and_from (nat_eq q.id q.id) (nat_eq q.period q.period && nat_eq q.phase q.phase) (same_number q.id) (and_from (nat_eq q.period q.period) (nat_eq q.phase q.phase) (same_number q.period) (same_number q.phase))

word_itself : (w : Predecessor) → is_word w w ≡ true
word_itself (Element f) = same_number f
word_itself (After m) = itself m

-- what holds of all the words holds of one that is among them
pub of_those : (P : Predecessor → Type 0) (ws : List Predecessor) (v : Predecessor) → AllByRecursion P ws → is_among ws v ≡ true → P v
of_those P [] v k h = absurd (false≢true h)
of_those P (w ∷ ws) v k h = elim (or_cases (is_word w v) (is_among ws v) h) [
  | inl e ↦ subst P (one_word w v e) k.0
  | inr e ↦ of_those P ws v k.1 e
]

-- ---- the words that are stored lead to q

abbrev pub Leads : Schedule → QueueHead → Predecessor → Type 0
Leads s q w = (g : ℕ) × (is_active g q ≡ true) × (w ≡ predecessor s (Each q) g)

met_or_not : (s : Schedule) (q : QueueHead) (f : ℕ) (b : Bool) → is_active f q ≡ true → AllByRecursion (Leads s q) (if b then predecessor s (Each q) f ∷ [] else [])
met_or_not s q f true a = ((f, a, refl), tt)
met_or_not s q f false a = tt

stands_or_not : (s : Schedule) (q : QueueHead) (f : ℕ) (fs : List ℕ) (b : Bool) → is_active f q ≡ b → AllByRecursion (Leads s q) (flat_map (word_met s (Each q)) fs) → AllByRecursion (Leads s q) (flat_map (word_met s (Each q)) (cond b (f ∷ fs) fs))
stands_or_not s q f fs true a k = both_parts (Leads s q) (word_met s (Each q) f) (flat_map (word_met s (Each q)) fs) (met_or_not s q f (nat_eq (first_frame (predecessor s (Each q) f)) f) a) k
stands_or_not s q f fs false a k = k

pub all_lead : (s : Schedule) (q : QueueHead) (fs : List ℕ) → AllByRecursion (Leads s q) (predecessors s (Each q) fs)
unfolding predecessors
all_lead s q [] = tt
all_lead s q (f ∷ fs) = stands_or_not s q f (filter (λ g. stands_in g (Each q)) fs) (is_active f q) refl (all_lead s q fs)

pub first_ones : {X : Type 0} (P : X → Type 0) (n : ℕ) (xs : List X) → AllByRecursion P xs → AllByRecursion P (take n xs)
first_ones P zero xs k = tt
first_ones P (suc n) [] k = tt
first_ones P (suc n) (x ∷ xs) k = (k.0, first_ones P n xs k.1)

-- ---- in the end each frame's store is made

-- a word's first frame has it, and isn't behind any other in number
pub first_has : (f : ℕ) (w : Predecessor) → has_word f w ≡ true → (has_word (first_frame w) w ≡ true) × (first_frame w ≤ f)
first_has f (Element g) h = (same_number g, omega (arith, eqb-true g f h))
first_has f (After (Once d)) h = (same_number d.frame, omega (arith, eqb-true d.frame f h))
first_has f (After (Each q)) h =
    let e : q.phase ≡ f % frame_period q.period = eqb-true q.phase (f % frame_period q.period) h in
    (eq-eqb q.phase (q.phase % frame_period q.period) (e ∙ sym (mod-mod f (frame_period q.period)) ∙ ap (λ x. x % frame_period q.period) (sym e)), omega (arith, e, mod-le f (frame_period q.period)))

right_is : (a b : Bool) → b ≡ true → (a || b) ≡ true
right_is true b h = refl
right_is false b h = h

left_is : (a b : Bool) → a ≡ true → (a || b) ≡ true
left_is true b h = refl
left_is false b h = absurd (false≢true h)

among_left : (v : Predecessor) (xs ys : List Predecessor) → is_among xs v ≡ true → is_among (xs ++ ys) v ≡ true
among_left v [] ys h = absurd (false≢true h)
among_left v (x ∷ xs) ys h = elim (or_cases (is_word x v) (is_among xs v) h) [
  | inl e ↦ left_is (is_word x v) (is_among (xs ++ ys) v) e
  | inr e ↦ right_is (is_word x v) (is_among (xs ++ ys) v) (among_left v xs ys e)
]

among_right : (v : Predecessor) (xs ys : List Predecessor) → is_among ys v ≡ true → is_among (xs ++ ys) v ≡ true
among_right v [] ys h = h
among_right v (x ∷ xs) ys h = right_is (is_word x v) (is_among (xs ++ ys) v) (among_right v xs ys h)

met_here : (w v : Predecessor) (f : ℕ) (b : Bool) → b ≡ true → w ≡ v → is_among (if b then w ∷ [] else []) v ≡ true
met_here w v f true e s = left_is (is_word w v) false (subst (λ (x : Predecessor). is_word x v ≡ true) (sym s) (word_itself v))
met_here w v f false e s = absurd (false≢true e)

met_now : (s : Schedule) (m : Member) (h : ℕ) (v : Predecessor) (fs : List ℕ) (b : Bool) → b ≡ true → predecessor s m h ≡ v → first_frame v ≡ h → is_among (flat_map (word_met s m) (cond b (h ∷ fs) fs)) v ≡ true
met_now s m h v fs true e p k = among_left v (word_met s m h) (flat_map (word_met s m) fs)
    (met_here (predecessor s m h) v h (nat_eq (first_frame (predecessor s m h)) h) (eq-eqb (first_frame (predecessor s m h)) h (ap (λ x. first_frame x) p ∙ k)) p)
met_now s m h v fs false e p k = absurd (false≢true e)

met_then : (s : Schedule) (m : Member) (f : ℕ) (v : Predecessor) (fs : List ℕ) (b : Bool) → is_among (flat_map (word_met s m) fs) v ≡ true → is_among (flat_map (word_met s m) (cond b (f ∷ fs) fs)) v ≡ true
met_then s m f v fs true k = among_right v (word_met s m f) (flat_map (word_met s m) fs) k
met_then s m f v fs false k = k

pub met_in : (s : Schedule) (m : Member) (h : ℕ) (v : Predecessor) (fs : List ℕ) → list_any (λ g. nat_eq g h) fs ≡ true → stands_in h m ≡ true → predecessor s m h ≡ v → first_frame v ≡ h → is_among (predecessors s m fs) v ≡ true
unfolding predecessors
met_in s m h v [] i a p k = absurd (false≢true i)
met_in s m h v (f ∷ fs) i a p k = elim (or_cases (nat_eq f h) (list_any (λ g. nat_eq g h) fs) i) [
  | inl e ↦ subst (λ x. is_among (flat_map (word_met s m) (cond (stands_in x m) (x ∷ filter (λ g. stands_in g m) fs) (filter (λ g. stands_in g m) fs))) v ≡ true) (sym (eqb-true f h e)) (met_now s m h v (filter (λ g. stands_in g m) fs) (stands_in h m) a p k)
  | inr e ↦ met_then s m f v (filter (λ g. stands_in g m) fs) (stands_in f m) (met_in s m h v fs e a p k)
]

lower : (a b c : ℕ) → a ≤ b → b < c → a < c
lower a b c h k = omega (arith, h, k)

pub all_met : (ds : List Descriptor) (xs ys : List QueueHead) (q : QueueHead) (bits f : ℕ) → has_name (of_lists ds (xs ++ ys)) q.id ≡ false → is_period q.period ≡ true → f < 2 ^ bits → is_active f q ≡ true
    → is_among (predecessors (of_lists ds (xs ++ q ∷ ys)) (Each q) (frames bits)) (predecessor (of_lists ds (xs ++ q ∷ ys)) (Each q) f) ≡ true
all_met ds xs ys q bits f named here l a =
    let s = of_lists ds (xs ++ q ∷ ys) in
    let v = predecessor s (Each q) f in
    let first = first_has f v (has_its_word ds xs ys q f named here a) in
    let there = follows ds xs ys q (first_frame v) f named here a first.0 in
    met_in s (Each q) (first_frame v) v (frames bits) (each_below bits (first_frame v) (lower (first_frame v) f (2 ^ bits) first.1 l)) there.0 there.1 refl
