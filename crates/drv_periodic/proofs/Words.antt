-- The words of a member: how many they are, and the one of a descriptor.
use Rattle.std.proofs.Common.{◌≡◌, ℕ, zero, suc, ◌+◌, ◌-◌, drop, Some, Option, ◌^◌, ◌<◌, ◌≤◌, Bool, true, false, List, [], ◌∷◌, ◌++◌, length, map, cond, nat_eq, if◌then◌else◌, refl, ap, sym, ◌∙◌, subst, arith}
use Rattle.std.specs.Prelude.{◌||◌, filter}
use Rattle.std.specs.List.{AllByRecursion, list_any, flat_map, slice_get}
use Rattle.std.proofs.lemmas.List.{length-append}
use Rattle.std.proofs.lemmas.Bool.{eqb-true, eq-eqb, false≢true}
use Rattle.drv_chains.specs.declared.members.Descriptor.{Descriptor}
use Rattle.drv_chains.specs.declared.members.Member.{Member}
use Rattle.drv_chains.specs.declared.members.QueueHead.{QueueHead}
use Rattle.drv_chains.specs.declared.members.Member.TheVariants.{Once, Each}
use Rattle.drv_chains.specs.declared.members.Predecessor.{Predecessor}
use Rattle.drv_chains.specs.declared.members.Predecessor.TheVariants.{Element, After}
use Rattle.drv_chains.specs.Order.{frames, ComesFirst, AreInOrder}
use Rattle.drv_chains.specs.Chains.{Schedule, of_lists, before_the, stands_in, first_frame, predecessor, predecessors, word_met}
use Rattle.drv_chains.specs.Classes.{members, periods_of, last_of, words_below, class_words}
use Rattle.drv_chains.proofs.Search.{found}
use Rattle.drv_search.specs.Search.{found_below, word_of}
use Rattle.drv_search.proofs.SameWords.{found_words}
use Rattle.drv_chains.proofs.Orders.{in_order, each_below, comes_once}
use Rattle.drv_chains.proofs.Words.{holds_after, after_all, of_kept}
use Rattle.drv_chains.proofs.Links.{not_true}
use Rattle.drv_chains.proofs.Linking.{weaken}
use Rattle.drv_members.specs.Ranks.{is_called}
use Rattle.drv_members.specs.Members.{IsKept, is_linked, words_ahead}
use Rattle.drv_members.proofs.Sorted.{none_pass}
use Rattle.drv_members.proofs.Keeping.{queue_at, queue_named}
use Rattle.drv_members.proofs.Splits.{IsAt}
use Rattle.drv_members.proofs.Around.{descriptor_word}

-- at most one a frame
one_or_none : (w : Predecessor) (b : Bool) → length (if b then w ∷ [] else []) ≤ 1
one_or_none w true = omega arith
one_or_none w false = omega arith

met_most : (s : Schedule) (m : Member) (fs : List ℕ) → length (flat_map (word_met s m) fs) ≤ length fs
met_most s m [] = omega arith
met_most s m (f ∷ fs) =
    let a = one_or_none (predecessor s m f) (nat_eq (first_frame (predecessor s m f)) f) in
    let b = met_most s m fs in
    let e = length-append (word_met s m f) (flat_map (word_met s m) fs) in
    omega (arith, a, b, e)

fewer_or_same : {X : Type 0} (x : X) (xs ys : List X) (b : Bool) → length xs ≤ length ys → length (cond b (x ∷ xs) xs) ≤ length (x ∷ ys)
fewer_or_same x xs ys true h = omega (arith, h)
fewer_or_same x xs ys false h = omega (arith, h)

kept_fewer : {X : Type 0} (p : X → Bool) (xs : List X) → length (filter p xs) ≤ length xs
kept_fewer p [] = omega arith
kept_fewer p (x ∷ xs) = fewer_or_same x (filter p xs) xs (p x) (kept_fewer p xs)

all_frames : length (frames 10) ≡ 1024
unfolding frames
all_frames = refl

pub words_most : (s : Schedule) (m : Member) → length (predecessors s m (frames 10)) ≤ 1024
unfolding predecessors
words_most s m =
    let a = met_most s m (filter (λ f. stands_in f m) (frames 10)) in
    let b = kept_fewer (λ f. stands_in f m) (frames 10) in
    let e = all_frames in
    omega (arith, a, b, e)

-- the frame of a descriptor among the frames
only_frame : (n f : ℕ) (fs : List ℕ) (b : Bool) → nat_eq n f ≡ b → AllByRecursion (ComesFirst f) fs → (b ≡ false → filter (λ g. nat_eq n g) fs ≡ n ∷ []) → cond b (f ∷ filter (λ g. nat_eq n g) fs) (filter (λ g. nat_eq n g) fs) ≡ n ∷ []
only_frame n f fs true e k h =
    let same : n ≡ f = eqb-true n f e in
    ap (λ gs. f ∷ gs) (none_pass (λ g. nat_eq n g) fs (weaken (ComesFirst f) (λ g. nat_eq n g ≡ false) (λ g c. not_true (nat_eq n g) (λ t. comes_once f (subst (λ x. ComesFirst f x) (sym (eqb-true n g t) ∙ same) c))) fs k))
    ∙ ap (λ x. x ∷ []) (sym same)
only_frame n f fs false e k h = h refl

later_any : (n f : ℕ) (fs : List ℕ) → nat_eq n f ≡ false → list_any (λ g. nat_eq g n) (f ∷ fs) ≡ true → list_any (λ g. nat_eq g n) fs ≡ true
later_any n f fs e h =
    let k : nat_eq f n ≡ false = not_true (nat_eq f n) (λ t. false≢true (sym e ∙ eq-eqb n f (sym (eqb-true f n t)))) in
    sym (ap (λ b. b || list_any (λ g. nat_eq g n) fs) k) ∙ h

one_frame : (n : ℕ) (fs : List ℕ) → AreInOrder fs → list_any (λ g. nat_eq g n) fs ≡ true → filter (λ g. nat_eq n g) fs ≡ n ∷ []
unfolding AreInOrder
one_frame n [] o h = absurd (false≢true h)
one_frame n (f ∷ fs) o h = only_frame n f fs (nat_eq n f) refl o.0 (λ e. one_frame n fs o.1 (later_any n f fs e h))

-- the one word of a descriptor
own_first : (s : Schedule) (d : Descriptor) → (at : IsAt (is_called d.id) d s.descriptors) → first_frame (predecessor s (Once d) d.frame) ≡ d.frame
own_first s d at =
    ap first_frame (descriptor_word s d at)
    ∙ holds_after (λ w. first_frame w ≡ d.frame) (Element d.frame) (map Once (filter (λ x. nat_eq x.frame d.frame) at.front)) refl
    (after_all (λ w. first_frame w ≡ d.frame) (map Once (filter (λ x. nat_eq x.frame d.frame) at.front))
    (of_kept (λ m. first_frame (After m) ≡ d.frame) Once (λ x. nat_eq x.frame d.frame) (λ x h. eqb-true x.frame d.frame h) at.front))

met_here : (s : Schedule) (d : Descriptor) → first_frame (predecessor s (Once d) d.frame) ≡ d.frame → word_met s (Once d) d.frame ≡ predecessor s (Once d) d.frame ∷ []
met_here s d e = ap (λ b. if b then predecessor s (Once d) d.frame ∷ [] else []) (eq-eqb (first_frame (predecessor s (Once d) d.frame)) d.frame e)

pub descriptor_words : (s : Schedule) (d : Descriptor) → d.frame < 1024 → (at : IsAt (is_called d.id) d s.descriptors) → predecessors s (Once d) (frames 10) ≡ predecessor s (Once d) d.frame ∷ []
unfolding predecessors
descriptor_words s d h at =
    let low : d.frame < 2 ^ 10 = omega (arith, h) in
    ap (λ fs. flat_map (word_met s (Once d)) fs) (one_frame d.frame (frames 10) (in_order 10) (each_below 10 d.frame low))
    ∙ ap (λ ws. ws ++ []) (met_here s d (own_first s d at))

-- the words of a queue head, by the one ahead of it in its class
pub each_words : (s : Schedule) (level : ℕ) (q : QueueHead) (o : Option QueueHead) → IsKept s → level ≤ 10 → q.phase < 2 ^ level → list_any (λ p. nat_eq q.period p) (periods_of level) ≡ true → is_linked s (Each q) ≡ true
    → ((others : List Predecessor) → last_of (before_the (Each q) (map Each (members s level q.phase))) others ≡ words_ahead o others)
    → predecessors s (Each q) (frames 10) ≡ words_ahead o (map (word_of s) (found_below s (10 - level) level q.phase))
each_words s level q o k l h c linked ahead =
    let at = queue_at s q k linked in
    let ten : 10 - level + level ≡ 10 = omega (arith, l) in
    let same : class_words s (10 - level) level q ≡ predecessors s (Each q) (frames 10) =
    subst (λ qs. class_words (of_lists s.descriptors qs) (10 - level) level q ≡ predecessors (of_lists s.descriptors qs) (Each q) (frames 10)) (sym at.is)
    (found s.descriptors at.front at.back q (10 - level) level ten c h (queue_named s q k at)) in
    sym same ∙ ahead (words_below s (10 - level) level q.phase) ∙ ap (λ ws. words_ahead o ws) (sym (found_words s (10 - level) level q.phase))

abbrev is_empty : {X : Type 0} → List X → Type 0
is_empty [] = Unit {0}
is_empty (x ∷ xs) = ⊥

nothing : {X : Type 0} (x : X) (rest : List X) → [] ≡ x ∷ rest → ⊥
nothing {X} x rest e = subst is_empty e tt

same_length : {X : Type 0} (xs : List X) (y x : X) (rest : List X) → y ∷ xs ≡ x ∷ rest → 0 + suc (length rest) ≡ length (y ∷ xs)
same_length xs y x rest e = let l : length (y ∷ xs) ≡ length (x ∷ rest) = ap (λ zs. length zs) e in omega (arith, l)

-- one word more is stored
pub one_less : {X : Type 0} (n : ℕ) (xs : List X) (x : X) (rest : List X) → drop n xs ≡ x ∷ rest → (drop (suc n) xs ≡ rest) × ((slice_get xs n ≡ Some x) × (n + suc (length rest) ≡ length xs))
one_less zero [] x rest e = absurd (nothing x rest e)
one_less zero (y ∷ xs) x rest e = (ap (λ zs. drop 1 zs) e, (ap (λ zs. slice_get zs 0) e, same_length xs y x rest e))
one_less (suc n) [] x rest e = absurd (nothing x rest e)
one_less (suc n) (y ∷ xs) x rest e = let h = one_less n xs x rest e in let l = h.1.1 in (h.0, (h.1.0, omega (arith, l)))
