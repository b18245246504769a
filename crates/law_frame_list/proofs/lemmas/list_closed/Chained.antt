-- What stands in the chains of a frame: linked members of that frame, each of them, and no word that is stored is the new member's own.
use Rattle.std.proofs.Common.{◌≡◌, ℕ, ◌<◌, ◌%◌, Bool, true, false, List, [], ◌∷◌, map, cond, nat_eq, if◌then◌else◌, inl, inr, ap, refl, sym, subst, ◌∙◌}
use Rattle.std.specs.Prelude.{◌&&◌, filter, not, nat_lt}
use Rattle.std.specs.List.{AllByRecursion, list_any, flat_map}
use Rattle.std.proofs.lemmas.Bool.{false≢true, eqb-true, or_cases, and_parts}
use Rattle.law_driver.proofs.Common.{any_left, any_right}
use Rattle.law_common.proofs.Booleans.{right_or, left_or}
use Rattle.law_common.proofs.Lists.{all_two}
use Rattle.law_frame_words.proofs.Common.{either_all}
use Rattle.law_frame_list.proofs.Common.{first_next}
use Rattle.drv_chains.specs.declared.members.Descriptor.{Descriptor}
use Rattle.drv_chains.specs.declared.members.QueueHead.{QueueHead}
use Rattle.drv_chains.specs.declared.members.Member.{Member}
use Rattle.drv_chains.specs.declared.members.Member.TheVariants.{Once, Each}
use Rattle.drv_chains.specs.declared.members.Predecessor.{Predecessor}
use Rattle.drv_chains.specs.declared.members.Predecessor.TheVariants.{Element, After}
use Rattle.drv_chains.specs.Order.{frames}
use Rattle.drv_chains.specs.Chains.{Schedule, is_the, is_period, is_active, frame_period, stands_in, first_frame, descriptors_in, queues_in, periods, before_the, behind_the, chain, predecessor, predecessors, word_met, successor, has_word}
use Rattle.drv_chains.specs.Stores.{is_same, is_word, is_among}
use Rattle.drv_chains.proofs.Orders.{both_parts}
use Rattle.drv_chains.proofs.Words.{holds_after, after_all}
use Rattle.drv_chains.proofs.Linking.{weaken, same_number}
use Rattle.drv_chains.proofs.OneLink.{one_link}
use Rattle.drv_chains.proofs.Following.{chain_words}
use Rattle.drv_members.specs.Ranks.{is_queue, is_named, is_called}
use Rattle.drv_members.specs.Members.{IsKept, IsMember, is_that, is_this, is_linked, without_member, frame_of}
use Rattle.drv_members.proofs.Classes.{chain_is}
use Rattle.drv_members.proofs.Keeping.{keeps_without, queue_at, queue_named}
use Rattle.drv_members.proofs.Ranges.{own_frame, phase_most}
use Rattle.drv_members.proofs.Splits.{IsAt, none_listed}
use Rattle.law_frame_words.proofs.lemmas.frame_words.Decoded.{IsIn}
use Rattle.law_frame_words.proofs.lemmas.frame_words.InChains.{chain_in, fewer_in}
use Rattle.law_frame_words.proofs.lemmas.frame_words.Stored.{queue_put}
use Rattle.law_frame_list.specs.list_closed.Closed.{IsInFrame, IsNext}

-- ---- those of a chain are linked, and stand in its frame

unmapped : (P : Predecessor → Type 0) (ms : List Member) → AllByRecursion P (map After ms) → AllByRecursion (λ m. P (After m)) ms
unmapped P [] all = tt
unmapped P (m ∷ ms) all = (all.0, unmapped P ms all.1)

pub chain_in_frame : (s : Schedule) (f : ℕ) → IsKept s → AllByRecursion (IsInFrame s f) (chain s f)
chain_in_frame s f kept =
    all_two (IsIn s) (λ m. stands_in f m ≡ true) (chain s f) (chain_in s f kept)
    (unmapped (λ w. has_word f w ≡ true) (chain s f) (chain_words s f))

pub fewer_in_frame : (s : Schedule) (m : Member) (f : ℕ) → IsKept s → AllByRecursion (IsInFrame s f) (chain (without_member s m) f)
fewer_in_frame s m f kept =
    weaken (IsInFrame (without_member s m) f) (IsInFrame s f) (λ x h. (fewer_in s m x h.0, h.1)) (chain (without_member s m) f)
    (chain_in_frame (without_member s m) f (keeps_without s m kept))

-- ---- each that is linked and stands in a frame is in its chain

any_map : {X Y : Type 0} (r : Y → Bool) (t : X → Y) (xs : List X) → list_any (λ x. r (t x)) xs ≡ true → list_any r (map t xs) ≡ true
any_map r t [] any = any
any_map r t (x ∷ xs) any = elim (or_cases (r (t x)) (list_any (λ y. r (t y)) xs) any) [
  | inl here ↦ left_or (r (t x)) (list_any r (map t xs)) here
  | inr later ↦ right_or (r (t x)) (list_any r (map t xs)) (any_map r t xs later)
]

kept_here : {X : Type 0} (r : X → Bool) (x : X) (ys : List X) (b : Bool) → b ≡ true → r x ≡ true → list_any r (cond b (x ∷ ys) ys) ≡ true
kept_here r x ys true passes is = left_or (r x) (list_any r ys) is
kept_here r x ys false passes is = absurd (false≢true passes)

kept_later : {X : Type 0} (r : X → Bool) (x : X) (ys : List X) (b : Bool) → list_any r ys ≡ true → list_any r (cond b (x ∷ ys) ys) ≡ true
kept_later r x ys true any = right_or (r x) (list_any r ys) any
kept_later r x ys false any = any

any_kept : {X : Type 0} (p test r : X → Bool) (xs : List X) → ((x : X) → p x ≡ true → (test x ≡ true) × (r x ≡ true)) → list_any p xs ≡ true → list_any r (filter test xs) ≡ true
any_kept p test r [] by any = absurd (false≢true any)
any_kept p test r (x ∷ xs) by any = elim (or_cases (p x) (list_any p xs) any) [
  | inl here ↦ (let k = by x here in kept_here r x (filter test xs) (test x) k.0 k.1)
  | inr later ↦ kept_later r x (filter test xs) (test x) (any_kept p test r xs by later)
]

this_one : (f : ℕ) (q x : QueueHead) → is_active f q ≡ true → is_this q x ≡ true → (is_active f x ≡ true) × (is_the (Each q) (Each x) ≡ true)
this_one f q x active is =
    let a = and_parts (nat_eq x.id q.id) (nat_eq x.period q.period && nat_eq x.phase q.phase) is in
    let b = and_parts (nat_eq x.period q.period) (nat_eq x.phase q.phase) a.1 in
    let period : x.period ≡ q.period = eqb-true x.period q.period b.0 in
    let phase : x.phase ≡ q.phase = eqb-true x.phase q.phase b.1 in
    (ap (λ (n : ℕ). nat_eq n (f % frame_period x.period)) phase ∙ ap (λ (n : ℕ). nat_eq q.phase (f % frame_period n)) period ∙ active, a.0)

that_one : (f : ℕ) (d x : Descriptor) → nat_eq d.frame f ≡ true → is_that d x ≡ true → (nat_eq x.frame f ≡ true) × (is_the (Once d) (Once x) ≡ true)
that_one f d x stands is =
    let a = and_parts (nat_eq x.id d.id) (nat_eq x.frame d.frame) is in
    let frame : x.frame ≡ d.frame = eqb-true x.frame d.frame a.1 in
    (ap (λ (n : ℕ). nat_eq n f) frame ∙ stands, a.0)

pub in_chain : (s : Schedule) (f : ℕ) (m : Member) → IsKept s → IsInFrame s f m → list_any (is_the m) (chain s f) ≡ true
in_chain s f (Once d) kept here =
    any_left (is_the (Once d)) (map Once (descriptors_in s f)) (map Each (flat_map (queues_in s f) periods))
    (any_map (is_the (Once d)) Once (descriptors_in s f)
    (any_kept (is_that d) (λ x. nat_eq x.frame f) (λ x. is_the (Once d) (Once x)) s.descriptors (λ x is. that_one f d x here.1 is) here.0))
in_chain s f (Each q) kept here =
    subst (λ (ms : List Member). list_any (is_the (Each q)) ms ≡ true) (sym (chain_is s f kept))
    (any_right (is_the (Each q)) (map Once (descriptors_in s f)) (map Each (filter (is_active f) s.queues))
    (any_map (is_the (Each q)) Each (filter (is_active f) s.queues)
    (any_kept (is_this q) (is_active f) (λ x. is_the (Each q) (Each x)) s.queues (λ x is. this_one f q x here.1 is) here.0)))

-- ---- a member that has another name is linked without that one

other_name : (a b c : ℕ) → a ≡ b → nat_eq b c ≡ false → not (nat_eq a c) ≡ true
other_name a b c same other = ap (λ (n : ℕ). not (nat_eq n c)) same ∙ ap not other

pub still_linked : (s : Schedule) (w m : Member) → is_the w m ≡ false → is_linked s m ≡ true → is_linked (without_member s w) m ≡ true
still_linked s (Once d) (Once e) other here =
    any_kept (is_that e) (λ x. not (is_called d.id x)) (is_that e) s.descriptors
    (λ x is. (let a = and_parts (nat_eq x.id e.id) (nat_eq x.frame e.frame) is in (other_name x.id e.id d.id (eqb-true x.id e.id a.0) other, is))) here
still_linked s (Once d) (Each r) other here = here
still_linked s (Each q) (Once e) other here = here
still_linked s (Each q) (Each r) other here =
    any_kept (is_this r) (λ x. not (is_named q.id x)) (is_this r) s.queues
    (λ x is. (let a = and_parts (nat_eq x.id r.id) (nat_eq x.period r.period && nat_eq x.phase r.phase) is in (other_name x.id r.id q.id (eqb-true x.id r.id a.0) other, is))) here

-- ---- the one behind a member

behind_all : (P : Member → Type 0) (m : Member) (ms : List Member) → AllByRecursion P ms → AllByRecursion P (behind_the m ms)
unfolding behind_the
behind_all P m [] all = tt
behind_all P m (x ∷ xs) all = either_all P xs (behind_the m xs) (is_the m x) all.1 (behind_all P m xs all.1)

pub successor_is : (s : Schedule) (m : Member) (f : ℕ) → IsKept s → IsNext s f (successor s m f)
successor_is s m f kept = first_next s f (behind_the m (chain s f)) (behind_all (IsInFrame s f) m (chain s f) (chain_in_frame s f kept))

-- it is the same in each of its frames
pub same_successor : (s : Schedule) (m : Member) (f : ℕ) → IsKept s → IsMember m → IsInFrame s f m → successor s m (frame_of m) ≡ successor s m f
same_successor s (Once d) f kept is here = ap (λ (g : ℕ). successor s (Once d) g) (eqb-true d.frame f here.1)
same_successor s (Each q) f kept is here =
    let at : IsAt (is_named q.id) q s.queues = queue_at s q kept here.0 in
    let period : is_period q.period ≡ true = (and_parts (is_period q.period) (nat_lt q.phase (frame_period q.period)) is).0 in
    subst (λ (x : Schedule). successor x (Each q) q.phase ≡ successor x (Each q) f) (sym (queue_put s q at))
    (one_link s.descriptors at.front at.back q q.phase f (queue_named s q kept at) period (own_frame q is) here.1)

-- ---- no word that leads to a member is its own

others_or : (P : Member → Type 0) (x : Member) (ys : List Member) (b c : Bool) → b ≡ c → (c ≡ false → P x) → AllByRecursion P ys → AllByRecursion P (if b then [] else x ∷ ys)
others_or P x ys true c same is all = tt
others_or P x ys false c same is all = (is (sym same), all)

before_others : (m : Member) (ms : List Member) → AllByRecursion (λ x. is_the m x ≡ false) (before_the m ms)
unfolding before_the
before_others m [] = tt
before_others m (x ∷ xs) = others_or (λ y. is_the m y ≡ false) x (before_the m xs) (is_the m x) (is_the m x) refl (λ other. other) (before_others m xs)

not_same : (x m : Member) → is_the m x ≡ false → is_same x m ≡ false
not_same (Once d) (Once e) other = ap (λ (b : Bool). b && nat_eq d.frame e.frame) other
not_same (Once d) (Each r) other = refl
not_same (Each q) (Once e) other = refl
not_same (Each q) (Each r) other = ap (λ (b : Bool). b && (nat_eq q.period r.period && nat_eq q.phase r.phase)) other

abbrev IsOther : Member → Predecessor → Type 0
IsOther m w = is_word w (After m) ≡ false

other_word : (s : Schedule) (m : Member) (f : ℕ) → IsOther m (predecessor s m f)
other_word s m f =
    holds_after (IsOther m) (Element f) (before_the m (chain s f)) refl
    (after_all (IsOther m) (before_the m (chain s f)) (weaken (λ x. is_the m x ≡ false) (λ x. IsOther m (After x)) (λ x other. not_same x m other) (before_the m (chain s f)) (before_others m (chain s f))))

met_or_not : (m : Member) (w : Predecessor) (b : Bool) → IsOther m w → AllByRecursion (IsOther m) (if b then w ∷ [] else [])
met_or_not m w true other = (other, tt)
met_or_not m w false other = tt

other_met : (s : Schedule) (m : Member) (fs : List ℕ) → AllByRecursion (IsOther m) (flat_map (word_met s m) fs)
other_met s m [] = tt
other_met s m (f ∷ fs) =
    both_parts (IsOther m) (word_met s m f) (flat_map (word_met s m) fs) (met_or_not m (predecessor s m f) (nat_eq (first_frame (predecessor s m f)) f) (other_word s m f)) (other_met s m fs)

pub other_words : (s : Schedule) (m : Member) → AllByRecursion (λ w. is_word w (After m) ≡ false) (predecessors s m (frames 10))
unfolding predecessors
other_words s m = other_met s m (filter (λ f. stands_in f m) (frames 10))

pub none_among : (ws : List Predecessor) (v : Predecessor) → AllByRecursion (λ w. is_word w v ≡ false) ws → is_among ws v ≡ false
none_among ws v others = none_listed (λ w. is_word w v) ws others

-- ---- its first frame

pub first_frame_is : (m : Member) → IsMember m → (frame_of m < 1024) × (stands_in (frame_of m) m ≡ true)
first_frame_is (Once d) is = (is, same_number d.frame)
first_frame_is (Each q) is = (phase_most q is, own_frame q is)

any_all : {X : Type 0} (P : X → Type 0) (same : X → Bool) (xs : List X) → AllByRecursion P xs → list_any same xs ≡ true → (x : X) × ((same x ≡ true) × P x)
any_all P same [] all any = absurd (false≢true any)
any_all P same (x ∷ xs) all any = elim (or_cases (same x) (list_any same xs) any) [
  | inl here ↦ (x, (here, all.0))
  | inr later ↦ any_all P same xs all.1 later
]

pub member_of_kept : (s : Schedule) (m : Member) → IsKept s → is_linked s m ≡ true → IsMember m
member_of_kept s (Once d) kept here =
    let found = any_all (λ (x : Descriptor). x.frame < 1024) (is_that d) s.descriptors kept.frames here in
    let same : found.0.frame ≡ d.frame = eqb-true found.0.frame d.frame (and_parts (nat_eq found.0.id d.id) (nat_eq found.0.frame d.frame) found.1.0).1 in
    subst (λ (n : ℕ). n < 1024) same found.1.1
member_of_kept s (Each q) kept here =
    let found = any_all (λ (x : QueueHead). is_queue x ≡ true) (is_this q) s.queues kept.queues here in
    let a = and_parts (nat_eq found.0.id q.id) (nat_eq found.0.period q.period && nat_eq found.0.phase q.phase) found.1.0 in
    let b = and_parts (nat_eq found.0.period q.period) (nat_eq found.0.phase q.phase) a.1 in
    let period : found.0.period ≡ q.period = eqb-true found.0.period q.period b.0 in
    let phase : found.0.phase ≡ q.phase = eqb-true found.0.phase q.phase b.1 in
    sym (ap (λ (p : ℕ). is_period p && nat_lt found.0.phase (frame_period p)) period ∙ ap (λ (n : ℕ). is_period q.period && nat_lt n (frame_period q.period)) phase) ∙ found.1.1
