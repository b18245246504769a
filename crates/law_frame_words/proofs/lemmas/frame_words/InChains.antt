-- The members of a chain, and the words before them, are those of the schedule.
use Rattle.std.proofs.Common.{◌≡◌, ℕ, ◌<◌, Bool, true, false, List, [], ◌∷◌, map, cond, nat_eq, inl, inr, if◌then◌else◌, sym, subst}
use Rattle.std.specs.Prelude.{filter, not}
use Rattle.std.specs.List.{AllByRecursion, list_any, flat_map}
use Rattle.std.proofs.lemmas.Bool.{or_cases}
use Rattle.law_common.proofs.Booleans.{right_or, left_or}
use Rattle.law_frame_words.proofs.Common.{this_itself, that_itself, frames_below, either_all}
use Rattle.drv_chains.specs.declared.members.Member.{Member}
use Rattle.drv_chains.specs.declared.members.Member.TheVariants.{Once, Each}
use Rattle.drv_chains.specs.declared.members.Predecessor.{Predecessor}
use Rattle.drv_chains.specs.declared.members.Predecessor.TheVariants.{Element}
use Rattle.drv_chains.specs.Order.{frames}
use Rattle.drv_chains.specs.Chains.{Schedule, is_the, is_active, stands_in, first_frame, descriptors_in, first_of, before_the, behind_the, chain, predecessor, predecessors, word_met, successor}
use Rattle.drv_chains.proofs.Orders.{both_parts}
use Rattle.drv_chains.proofs.Words.{all_kept, holds_after, after_all}
use Rattle.drv_chains.proofs.Beside.{each_map}
use Rattle.drv_chains.proofs.Linking.{weaken}
use Rattle.drv_members.specs.Ranks.{is_named, is_called}
use Rattle.drv_members.specs.Members.{IsKept, is_that, is_this, without_member}
use Rattle.drv_members.proofs.Classes.{chain_is}
use Rattle.law_frame_words.proofs.lemmas.frame_words.Decoded.{IsIn, IsInOr, IsWordOf}

self_in : {X : Type 0} (same : X → X → Bool) → ((x : X) → same x x ≡ true) → (xs : List X) → AllByRecursion (λ x. list_any (same x) xs ≡ true) xs
self_in same own [] = tt
self_in same own (x ∷ xs) =
    (left_or (same x x) (list_any (same x) xs) (own x), weaken (λ y. list_any (same y) xs ≡ true) (λ y. list_any (same y) (x ∷ xs) ≡ true) (λ y h. right_or (same y x) (list_any (same y) xs) h) xs (self_in same own xs))

pub chain_in : (s : Schedule) (f : ℕ) → IsKept s → AllByRecursion (IsIn s) (chain s f)
chain_in s f k =
    subst (λ (ms : List Member). AllByRecursion (IsIn s) ms) (sym (chain_is s f k))
    (both_parts (IsIn s) (map Once (descriptors_in s f)) (map Each (filter (is_active f) s.queues))
    (each_map (IsIn s) Once (descriptors_in s f) (all_kept (λ d. list_any (is_that d) s.descriptors ≡ true) (λ d. nat_eq d.frame f) s.descriptors (self_in is_that that_itself s.descriptors)))
    (each_map (IsIn s) Each (filter (is_active f) s.queues) (all_kept (λ q. list_any (is_this q) s.queues ≡ true) (is_active f) s.queues (self_in is_this this_itself s.queues))))

-- fewer members
kept_or_not : {X : Type 0} (p : X → Bool) (x : X) (xs ys : List X) (b : Bool) → list_any p (cond b (x ∷ ys) ys) ≡ true → (list_any p ys ≡ true → list_any p xs ≡ true) → list_any p (x ∷ xs) ≡ true
kept_or_not p x xs ys true h f = elim (or_cases (p x) (list_any p ys) h) [
  | inl a ↦ left_or (p x) (list_any p xs) a
  | inr b ↦ right_or (p x) (list_any p xs) (f b)
]
kept_or_not p x xs ys false h f = right_or (p x) (list_any p xs) (f h)

any_kept : {X : Type 0} (p t : X → Bool) (xs : List X) → list_any p (filter t xs) ≡ true → list_any p xs ≡ true
any_kept p t [] h = h
any_kept p t (x ∷ xs) h = kept_or_not p x xs (filter t xs) (t x) h (any_kept p t xs)

pub fewer_in : (s : Schedule) (m x : Member) → IsIn (without_member s m) x → IsIn s x
fewer_in s (Once d) (Once e) h = any_kept (is_that e) (λ x. not (is_called d.id x)) s.descriptors h
fewer_in s (Once d) (Each r) h = h
fewer_in s (Each q) (Once e) h = h
fewer_in s (Each q) (Each r) h = any_kept (is_this r) (λ x. not (is_named q.id x)) s.queues h

-- before and behind a member
front_or_not : (P : Member → Type 0) (x : Member) (ys : List Member) (b : Bool) → P x → AllByRecursion P ys → AllByRecursion P (if b then [] else x ∷ ys)
front_or_not P x ys true h k = tt
front_or_not P x ys false h k = (h, k)

before_in : (P : Member → Type 0) (m : Member) (ms : List Member) → AllByRecursion P ms → AllByRecursion P (before_the m ms)
unfolding before_the
before_in P m [] h = tt
before_in P m (x ∷ xs) h = front_or_not P x (before_the m xs) (is_the m x) h.0 (before_in P m xs h.1)

behind_in : (P : Member → Type 0) (m : Member) (ms : List Member) → AllByRecursion P ms → AllByRecursion P (behind_the m ms)
unfolding behind_the
behind_in P m [] h = tt
behind_in P m (x ∷ xs) h = either_all P xs (behind_the m xs) (is_the m x) h.1 (behind_in P m xs h.1)

first_in : (s : Schedule) (ms : List Member) → AllByRecursion (IsIn s) ms → IsInOr s (first_of ms)
first_in s [] h = tt
first_in s (m ∷ ms) h = h.0

pub successor_in : (s : Schedule) (m : Member) (f : ℕ) → IsKept s → IsInOr s (successor s m f)
successor_in s m f k = first_in s (behind_the m (chain s f)) (behind_in (IsIn s) m (chain s f) (chain_in s f k))

pub half_in : (s : Schedule) (xs ys : List Member) (b : Bool) → AllByRecursion (IsIn s) xs → AllByRecursion (IsIn s) ys → AllByRecursion (IsIn s) (if b then xs else ys)
half_in s xs ys b h k = either_all (IsIn s) xs ys b h k

-- the words that are stored
word_in : (s : Schedule) (m : Member) (f : ℕ) → IsKept s → f < 1024 → IsWordOf s (predecessor s m f)
word_in s m f k h = holds_after (IsWordOf s) (Element f) (before_the m (chain s f)) h (after_all (IsWordOf s) (before_the m (chain s f)) (before_in (IsIn s) m (chain s f) (chain_in s f k)))

met_or_not : (s : Schedule) (w : Predecessor) (b : Bool) → IsWordOf s w → AllByRecursion (IsWordOf s) (if b then w ∷ [] else [])
met_or_not s w true h = (h, tt)
met_or_not s w false h = tt

met_in : (s : Schedule) (m : Member) (fs : List ℕ) → IsKept s → AllByRecursion (λ f. f < 1024) fs → AllByRecursion (IsWordOf s) (flat_map (word_met s m) fs)
met_in s m [] k h = tt
met_in s m (f ∷ fs) k h = both_parts (IsWordOf s) (word_met s m f) (flat_map (word_met s m) fs) (met_or_not s (predecessor s m f) (nat_eq (first_frame (predecessor s m f)) f) (word_in s m f k h.0)) (met_in s m fs k h.1)

pub words_in : (s : Schedule) (m : Member) → IsKept s → AllByRecursion (IsWordOf s) (predecessors s m (frames 10))
unfolding predecessors
words_in s m k = met_in s m (filter (λ f. stands_in f m) (frames 10)) k (all_kept (λ f. f < 1024) (λ f. stands_in f m) (frames 10) frames_below)
