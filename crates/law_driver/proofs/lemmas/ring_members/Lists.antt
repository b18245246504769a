-- The stores of the frame list go to the list and to its members: where these begin off the ring, so does each.
use Rattle.std.proofs.Common.{◌≡◌, ℕ, ◌<◌, ◌*◌, ◌^◌, ◌/◌, ◌%◌, Bool, true, false, cond, List, [], ◌∷◌, map, filter, slice_get, Option, Some, None, option_map, ap, sym, subst, ◌∙◌, inl, inr, refl, arith}
use Rattle.std.specs.Prelude.{◌⊎◌, option_and_then, nat_eq}
use Rattle.std.specs.List.{AllByRecursion, flat_map}
use Rattle.std.proofs.lemmas.List.Elements.{recursion_from_All}
use Rattle.law_common.proofs.Lists.{nth_all, all_both, all_kept}
use Rattle.law_driver.proofs.Common.{ring_queue}
use Rattle.drv_chains.specs.declared.members.Descriptor.{Descriptor}
use Rattle.drv_chains.specs.declared.members.QueueHead.{QueueHead as Queue}
use Rattle.drv_chains.specs.declared.members.Member.{Member}
use Rattle.drv_chains.specs.declared.members.Member.TheVariants.{Once, Each}
use Rattle.drv_chains.specs.declared.members.Predecessor.{Predecessor}
use Rattle.drv_chains.specs.declared.members.Predecessor.TheVariants.{Element as AtElement, After}
use Rattle.drv_chains.specs.Chains.{Schedule, periods, frame_period, at_place, queues_in, chain, id_of, is_the, stands_in, word_after, before_the, predecessor, first_frame, word_met, predecessors}
use Rattle.drv_chains.specs.Order.{frames}
use Rattle.drv_chains.proofs.Orders.{all_below}
use Rattle.law_driver.proofs.lemmas.run_owners.Runs.{all_still}
use Rattle.drv_periodic.specs.declared.work.Work.{Work}
use Rattle.drv_periodic.specs.declared.work.Store.{Store}
use Rattle.drv_periodic.specs.Periodic.{Periodic, block_of, address_of, words_of, value_of, store_at, store_of, next_store}
use Rattle.drv_table.specs.DriverContent.{DriverContent}
use Rattle.mem_runs.specs.Book.{slot_of}
use Rattle.claims_driver.specs.Owners.{FrameList, QueueHead, HasRun}
use Rattle.claims_driver.specs.Leaving.{HasOwners}
use Rattle.law_driver.proofs.lemmas.ring_members.Aside.{IsOffRing, IsMemberApart, AreApart}
use Rattle.law_driver.proofs.lemmas.ring_members.Placed.{has_queue, queue_placed}

-- ---- lists

all_mapped : {X Y : Type 0} (P : Y → Type 0) (f : X → Y) (xs : List X) → AllByRecursion (λ x. P (f x)) xs → AllByRecursion P (map f xs)
all_mapped P f [] all = tt
all_mapped P f (x ∷ xs) all = (all.0, all_mapped P f xs all.1)

all_joined : {X Y : Type 0} (P : Y → Type 0) (f : X → List Y) (xs : List X) → ((x : X) → AllByRecursion P (f x)) → AllByRecursion P (flat_map f xs)
all_joined P f [] each = tt
all_joined P f (x ∷ xs) each = all_both P (f x) (flat_map f xs) (each x) (all_joined P f xs each)

-- ---- the words that are stored

-- a word of the frame list, or the first of a run, off the ring
pub record IsApartStore (d : DriverContent) (b at : ℕ) : Type 0 where
  pub off : IsOffRing d b
  pub there : ((b ≡ 0) × (at < 4096)) ⊎ (HasRun (slot_of d.book.slots b) × (at ≡ 32 * b))

abbrev MemberApart : DriverContent → Member → Type 0
MemberApart d m = IsMemberApart d (id_of m)

abbrev WordApart : DriverContent → Predecessor → Type 0
WordApart d word = IsApartStore d (block_of 0 word) (address_of 0 word)

chain_apart : (d : DriverContent) (s : Schedule) (f : ℕ) → AreApart d s → AllByRecursion (MemberApart d) (chain s f)
chain_apart d s f apart =
    all_both (MemberApart d) (map Once (filter (λ (x : Descriptor). nat_eq x.frame f) s.descriptors)) (map Each (flat_map (queues_in s f) periods))
    (all_mapped (MemberApart d) Once (filter (λ (x : Descriptor). nat_eq x.frame f) s.descriptors) (all_kept (λ (x : Descriptor). IsMemberApart d x.id) (λ (x : Descriptor). nat_eq x.frame f) s.descriptors apart.descriptors))
    (all_mapped (MemberApart d) Each (flat_map (queues_in s f) periods)
    (all_joined (λ (q : Queue). IsMemberApart d q.id) (queues_in s f) periods
    (λ period. all_kept (λ (q : Queue). IsMemberApart d q.id) (at_place period (f % frame_period period)) s.queues apart.queues)))

before_apart : (d : DriverContent) (m : Member) (ms : List Member) → AllByRecursion (MemberApart d) ms → AllByRecursion (MemberApart d) (before_the m ms)
unfolding before_the
before_apart d m [] all = tt
before_apart d m (x ∷ xs) all = at (is_the m x) (before_the m xs) all.0 (before_apart d m xs all.1)
  where
    at : (b : Bool) (ys : List Member) → MemberApart d x → AllByRecursion (MemberApart d) ys → AllByRecursion (MemberApart d) (cond b [] (x ∷ ys))
    at true ys one rest = tt
    at false ys one rest = (one, rest)

member_word : (d : DriverContent) (m : Member) → MemberApart d m → WordApart d (After m)
member_word d m apart =
    let small : id_of m / 32 % 65536 ≡ id_of m / 32 = omega (arith, apart.small) in
    record {
      off = subst (IsOffRing d) (sym small) apart.off;
      there = inr (subst (λ b. HasRun (slot_of d.book.slots b)) (sym small) apart.run, omega (arith, small));
    }

after_apart : (d : DriverContent) (word : Predecessor) (ms : List Member) → WordApart d word → AllByRecursion (MemberApart d) ms → WordApart d (word_after word ms)
unfolding word_after
after_apart d word [] apart all = apart
after_apart d word (m ∷ ms) apart all = after_apart d (After m) ms (member_word d m all.0) all.1

-- the frame list begins off the ring
list_off : (d : DriverContent) → HasOwners d → IsOffRing d 0
list_off d has = record {
  head = λ same. absurd (cc);
  endpoints = λ e x here ring alive same.
      let q = queue_placed d e x has here (has_queue x (ring_queue x.desc.kind ring) alive) in
      let clash : QueueHead e ≡ FrameList = sym q.owned ∙ ap has.owner same ∙ has.owned.each.list.owned in
      absurd (cc);
}

element_word : (d : DriverContent) (f : ℕ) → HasOwners d → f < 1024 → WordApart d (AtElement f)
element_word d f has below = record { off = list_off d has; there = inl (refl, omega (arith, below)) }

one_met : (d : DriverContent) (s : Schedule) (m : Member) (f : ℕ) → HasOwners d → AreApart d s → f < 1024 → AllByRecursion (WordApart d) (word_met s m f)
one_met d s m f has apart below = at (nat_eq (first_frame (predecessor s m f)) f)
  where
    at : (b : Bool) → AllByRecursion (WordApart d) (cond b (predecessor s m f ∷ []) [])
    at true = (after_apart d (AtElement f) (before_the m (chain s f)) (element_word d f has below) (before_apart d m (chain s f) (chain_apart d s f apart)), tt)
    at false = tt

met_apart : (d : DriverContent) (s : Schedule) (m : Member) (fs : List ℕ) → HasOwners d → AreApart d s → AllByRecursion (λ f. f < 1024) fs → AllByRecursion (WordApart d) (flat_map (word_met s m) fs)
met_apart d s m [] has apart all = tt
met_apart d s m (f ∷ fs) has apart all = all_both (WordApart d) (word_met s m f) (flat_map (word_met s m) fs) (one_met d s m f has apart all.0) (met_apart d s m fs has apart all.1)

-- the frames of the list
frames_below : AllByRecursion (λ f. f < 1024) (frames 10)
frames_below = all_still {P = λ f. f < 2 ^ 10} {Q = λ f. f < 1024} (frames 10) (λ f h. omega (arith, h)) (recursion_from_All (λ f. f < 2 ^ 10) (frames 10) (all_below 10))

words_apart : (d : DriverContent) (s : Schedule) (m : Member) → HasOwners d → AreApart d s → AllByRecursion (WordApart d) (predecessors s m (frames 10))
unfolding predecessors
words_apart d s m has apart = met_apart d s m (filter (λ f. stands_in f m) (frames 10)) has apart (all_kept (λ f. f < 1024) (λ f. stands_in f m) (frames 10) frames_below)

stored_apart : (d : DriverContent) (s : Schedule) (w : Work) (x : Store) (o : Option Predecessor) → HasOwners d → AreApart d s → slice_get (words_of s w) w.made ≡ o → option_map (λ word. store_at 0 word (value_of s w)) o ≡ Some x → IsApartStore d x.block x.at
stored_apart d s w x None has apart there is = absurd (cc)
stored_apart d s w x (Some word) has apart there is =
    let same : store_at 0 word (value_of s w) ≡ x = cc in
    subst (λ (y : Store). IsApartStore d y.block y.at) same (nth_all (WordApart d) (words_of s w) w.made word (words_apart d s w.member has apart) there)

work_apart : (d : DriverContent) (s : Schedule) (o : Option Work) (x : Store) → HasOwners d → AreApart d s → option_and_then (λ w. store_of 0 s w) o ≡ Some x → IsApartStore d x.block x.at
work_apart d s None x has apart next = absurd (cc)
work_apart d s (Some w) x has apart next = stored_apart d s w x (slice_get (words_of s w) w.made) has apart refl next

pub store_is_apart : (d : DriverContent) (p : Periodic) (x : Store) → HasOwners d → p.list ≡ 0 → AreApart d p.members.schedule → next_store p ≡ Some x → IsApartStore d x.block x.at
store_is_apart d p x has begins apart next =
    work_apart d p.members.schedule p.work x has apart (sym (ap (λ b. option_and_then (λ w. store_of b p.members.schedule w) p.work) begins) ∙ next)
