-- The chains while a descriptor is linked or unlinked.
use Rattle.std.proofs.Common.{◌≡◌, ℕ, ◌^◌, ◌<◌, Bool, true, false, List, [], ◌∷◌, ◌++◌, map, take, nat_eq, cond, if◌then◌else◌, Option, Some, refl, ap, sym, ◌∙◌, subst}
use Rattle.std.specs.Prelude.{◌&&◌, filter}
use Rattle.std.specs.List.{AllByRecursion, list_any, flat_map}
use Rattle.std.proofs.lemmas.Bool.{eqb-true, false≢true}
use Rattle.std.proofs.lemmas.List.{map-append, append_assoc}
use Rattle.std.proofs.lemmas.List.Elements.{filter-append}
use Rattle.drv_chains.specs.declared.members.Descriptor.{Descriptor}
use Rattle.drv_chains.specs.declared.members.QueueHead.{QueueHead}
use Rattle.drv_chains.specs.declared.members.Member.{Member}
use Rattle.drv_chains.specs.declared.members.Member.TheVariants.{Once}
use Rattle.drv_chains.specs.declared.members.Predecessor.{Predecessor}
use Rattle.drv_chains.specs.declared.members.Predecessor.TheVariants.{Element, After}
use Rattle.drv_chains.specs.Chains.{Schedule, of_lists, periods, chain, has_name, id_of, is_the, stands_in, word_after, before_the, behind_the, first_of, predecessor, predecessors, word_met, successor, first_frame, has_word}
use Rattle.drv_chains.specs.Stores.{IsChain, is_among, stored, is_made, half_linked, half_unlinked}
use Rattle.drv_chains.specs.Order.{frames}
use Rattle.drv_chains.proofs.Orders.{both_parts, each_below}
use Rattle.drv_chains.proofs.Words.{holds_after, after_all, all_in, all_kept, of_kept}
use Rattle.drv_chains.proofs.Beside.{once_in, chain_is, without, among, none_named, left_false, front_of, each_map, before_it, behind_it}
use Rattle.drv_chains.proofs.Links.{Links, rest_of, not_true, linked_in, linked_out}
use Rattle.drv_chains.proofs.Following.{chain_words, of_those, first_ones, met_in}
use Rattle.drv_chains.proofs.Linking.{leads_to, weaken, idle_links, same_number, both_true}

abbrev rest_in : List Descriptor → List QueueHead → ℕ → List Member
rest_in bs qs f = once_in bs f ++ all_in qs f periods

with_chain : (xs ys : List Descriptor) (d : Descriptor) (qs : List QueueHead) (f : ℕ) → nat_eq d.frame f ≡ true → chain (of_lists (xs ++ d ∷ ys) qs) f ≡ once_in xs f ++ Once d ∷ rest_in ys qs f
with_chain xs ys d qs f e =
    chain_is (of_lists (xs ++ d ∷ ys) qs) f
    ∙ ap (λ x. map Once x ++ all_in qs f periods) (among (λ x. nat_eq x.frame f) xs ys d e)
    ∙ ap (λ x. x ++ all_in qs f periods) (map-append Once (filter (λ x. nat_eq x.frame f) xs) (d ∷ filter (λ x. nat_eq x.frame f) ys))
    ∙ append_assoc (once_in xs f) (Once d ∷ once_in ys f) (all_in qs f periods)

without_chain : (xs ys : List Descriptor) (qs : List QueueHead) (f : ℕ) → chain (of_lists (xs ++ ys) qs) f ≡ once_in xs f ++ rest_in ys qs f
without_chain xs ys qs f =
    chain_is (of_lists (xs ++ ys) qs) f
    ∙ ap (λ x. map Once x ++ all_in qs f periods) (filter-append (λ x. nat_eq x.frame f) xs ys)
    ∙ ap (λ x. x ++ all_in qs f periods) (map-append Once (filter (λ x. nat_eq x.frame f) xs) (filter (λ x. nat_eq x.frame f) ys))
    ∙ append_assoc (once_in xs f) (once_in ys f) (all_in qs f periods)

other_chain : (xs ys : List Descriptor) (d : Descriptor) (qs : List QueueHead) (f : ℕ) → nat_eq d.frame f ≡ false → chain (of_lists (xs ++ d ∷ ys) qs) f ≡ chain (of_lists (xs ++ ys) qs) f
other_chain xs ys d qs f e =
    chain_is (of_lists (xs ++ d ∷ ys) qs) f
    ∙ ap (λ x. map Once x ++ all_in qs f periods) (without (λ x. nat_eq x.frame f) xs ys d e)
    ∙ sym (chain_is (of_lists (xs ++ ys) qs) f)

nothing_newer : (xs ys : List Descriptor) (d : Descriptor) (qs : List QueueHead) (f : ℕ) → has_name (of_lists (xs ++ ys) qs) d.id ≡ false → AllByRecursion (λ m. is_the (Once d) m ≡ false) (once_in xs f)
nothing_newer xs ys d qs f h =
    let k = left_false (list_any (λ x. nat_eq x.id d.id) (xs ++ ys)) (list_any (λ q. nat_eq q.id d.id) qs) h in
    each_map (λ m. is_the (Once d) m ≡ false) Once (filter (λ x. nat_eq x.frame f) xs)
    (all_kept (λ x. nat_eq x.id d.id ≡ false) (λ x. nat_eq x.frame f) xs (front_of (λ x. nat_eq x.id d.id ≡ false) xs ys (none_named (λ x. nat_eq x.id d.id) (xs ++ ys) k.0)))

word_of : (xs ys : List Descriptor) (d : Descriptor) (qs : List QueueHead) (f : ℕ) → has_name (of_lists (xs ++ ys) qs) d.id ≡ false → nat_eq d.frame f ≡ true → predecessor (of_lists (xs ++ d ∷ ys) qs) (Once d) f ≡ word_after (Element f) (once_in xs f)
word_of xs ys d qs f named e = ap (λ ms. word_after (Element f) (before_the (Once d) ms)) (with_chain xs ys d qs f e) ∙ ap (λ ms. word_after (Element f) ms) (before_it (Once d) (once_in xs f) (rest_in ys qs f) (nothing_newer xs ys d qs f named))

next_of : (xs ys : List Descriptor) (d : Descriptor) (qs : List QueueHead) (f : ℕ) → has_name (of_lists (xs ++ ys) qs) d.id ≡ false → nat_eq d.frame f ≡ true → successor (of_lists (xs ++ d ∷ ys) qs) (Once d) f ≡ first_of (rest_in ys qs f)
next_of xs ys d qs f named e = ap (λ ms. first_of (behind_the (Once d) ms)) (with_chain xs ys d qs f e) ∙ ap (λ ms. first_of ms) (behind_it (Once d) (once_in xs f) (rest_in ys qs f) (nothing_newer xs ys d qs f named))

-- the word before a descriptor is in its frame's chain alone
word_elsewhere : (xs : List Descriptor) (g f : ℕ) → nat_eq g f ≡ false → has_word f (word_after (Element g) (once_in xs g)) ≡ false
word_elsewhere xs g f e = holds_after (λ w. has_word f w ≡ false) (Element g) (once_in xs g) e
    (after_all (λ w. has_word f w ≡ false) (once_in xs g) (of_kept (λ m. has_word f (After m) ≡ false) Once (λ x. nat_eq x.frame g) (λ x h. ap (λ n. nat_eq n f) (eqb-true x.frame g h) ∙ e) xs))

abbrev IsBefore : Schedule → Descriptor → Predecessor → Type 0
IsBefore s d w = w ≡ predecessor s (Once d) d.frame

met_or_not : (s : Schedule) (d : Descriptor) (f : ℕ) (b : Bool) → nat_eq d.frame f ≡ true → AllByRecursion (IsBefore s d) (if b then predecessor s (Once d) f ∷ [] else [])
met_or_not s d f true e = (ap (λ x. predecessor s (Once d) x) (sym (eqb-true d.frame f e)), tt)
met_or_not s d f false e = tt

stands_or_not : (s : Schedule) (d : Descriptor) (f : ℕ) (fs : List ℕ) (b : Bool) → nat_eq d.frame f ≡ b → AllByRecursion (IsBefore s d) (flat_map (word_met s (Once d)) fs) → AllByRecursion (IsBefore s d) (flat_map (word_met s (Once d)) (cond b (f ∷ fs) fs))
stands_or_not s d f fs true e k = both_parts (IsBefore s d) (word_met s (Once d) f) (flat_map (word_met s (Once d)) fs) (met_or_not s d f (nat_eq (first_frame (predecessor s (Once d) f)) f) e) k
stands_or_not s d f fs false e k = k

all_before : (s : Schedule) (d : Descriptor) (fs : List ℕ) → AllByRecursion (IsBefore s d) (predecessors s (Once d) fs)
unfolding predecessors
all_before s d [] = tt
all_before s d (f ∷ fs) = stands_or_not s d f (filter (λ g. stands_in g (Once d)) fs) (nat_eq d.frame f) refl (all_before s d fs)

-- a stored word of a frame's chain: the frame is d's
stored_in : (xs ys : List Descriptor) (d : Descriptor) (qs : List QueueHead) (ws : List Predecessor) (f : ℕ) (b : Bool) → has_name (of_lists (xs ++ ys) qs) d.id ≡ false → AllByRecursion (IsBefore (of_lists (xs ++ d ∷ ys) qs) d) ws → nat_eq d.frame f ≡ b
    → (v : Predecessor) → has_word f v ≡ true → is_among ws v ≡ true → (b ≡ true) × (v ≡ predecessor (of_lists (xs ++ d ∷ ys) qs) (Once d) f)
stored_in xs ys d qs ws f true named before e v h i =
    (refl, of_those (IsBefore (of_lists (xs ++ d ∷ ys) qs) d) ws v before i ∙ ap (λ x. predecessor (of_lists (xs ++ d ∷ ys) qs) (Once d) x) (eqb-true d.frame f e))
stored_in xs ys d qs ws f false named before e v h i =
    let k = of_those (IsBefore (of_lists (xs ++ d ∷ ys) qs) d) ws v before i ∙ word_of xs ys d qs d.frame named (same_number d.frame) in
    absurd (false≢true (sym (word_elsewhere xs d.frame f e) ∙ ap (λ x. has_word f x) (sym k) ∙ h))

-- no word before d is d's own
is_its : ℕ → Predecessor → Bool
is_its id (Element f) = false
is_its id (After m) = nat_eq (id_of m) id

not_stored : (xs ys : List Descriptor) (d : Descriptor) (qs : List QueueHead) (ws : List Predecessor) → has_name (of_lists (xs ++ ys) qs) d.id ≡ false → AllByRecursion (IsBefore (of_lists (xs ++ d ∷ ys) qs) d) ws → is_among ws (After (Once d)) ≡ true → ⊥
unfolding is_its
not_stored xs ys d qs ws named before i =
    let k = of_those (IsBefore (of_lists (xs ++ d ∷ ys) qs) d) ws (After (Once d)) before i ∙ word_of xs ys d qs d.frame named (same_number d.frame) in
    let n = holds_after (λ w. is_its d.id w ≡ false) (Element d.frame) (once_in xs d.frame) refl (after_all (λ w. is_its d.id w ≡ false) (once_in xs d.frame) (nothing_newer xs ys d qs d.frame named)) in
    false≢true (sym n ∙ ap (λ w. is_its d.id w) (sym k) ∙ same_number d.id)

linked_frame : (xs ys : List Descriptor) (d : Descriptor) (qs : List QueueHead) (links : Links) (ws : List Predecessor) (f : ℕ) (a b : Bool) → has_name (of_lists (xs ++ ys) qs) d.id ≡ false → AllByRecursion (IsBefore (of_lists (xs ++ d ∷ ys) qs) d) ws
    → IsChain links (Element f) (chain (of_lists (xs ++ ys) qs) f) → (nat_eq d.frame f ≡ true → links (After (Once d)) ≡ successor (of_lists (xs ++ d ∷ ys) qs) (Once d) f)
    → nat_eq d.frame f ≡ a → is_among ws (predecessor (of_lists (xs ++ d ∷ ys) qs) (Once d) f) ≡ b
    → IsChain (stored links ws (Some (Once d))) (Element f) (if a && b then chain (of_lists (xs ++ d ∷ ys) qs) f else chain (of_lists (xs ++ ys) qs) f)
linked_frame xs ys d qs links ws f false b named before h next ea eb =
    idle_links links ws (Some (Once d)) f (of_lists (xs ++ ys) qs) (λ v k i. false≢true (stored_in xs ys d qs ws f false named before ea v k i).0) h
linked_frame xs ys d qs links ws f true false named before h next ea eb =
    idle_links links ws (Some (Once d)) f (of_lists (xs ++ ys) qs) (λ v k i. false≢true (sym eb ∙ ap (λ w. is_among ws w) (sym (stored_in xs ys d qs ws f true named before ea v k i).1) ∙ i)) h
linked_frame xs ys d qs links ws f true true named before h next ea eb =
    let p = predecessor (of_lists (xs ++ d ∷ ys) qs) (Once d) f in
    let pw = word_of xs ys d qs f named ea in
    let split = subst (λ (ms : List Member). IsChain links (Element f) ms) (without_chain xs ys qs f) h in
    let there = subst (λ (w : Predecessor). IsChain links w (rest_in ys qs f)) (sym pw) (rest_of links (Element f) (once_in xs f) (rest_in ys qs f) split) in
    subst (λ (ms : List Member). IsChain (stored links ws (Some (Once d))) (Element f) ms) (sym (with_chain xs ys d qs f ea))
    (linked_in links ws (Once d) p (rest_in ys qs f) (once_in xs f) (Element f) split pw
    (next ea ∙ next_of xs ys d qs f named ea ∙ sym (leads_to links p (rest_in ys qs f) there)) eb
    (not_true (is_among ws (After (Once d))) (not_stored xs ys d qs ws named before))
    (λ i. (stored_in xs ys d qs ws f true named before ea (Element f) (same_number f) i).1)
    (subst (λ (ms : List Member). AllByRecursion (λ w. is_among ws w ≡ true → w ≡ p) (map After ms)) (without_chain xs ys qs f)
    (weaken (λ w. has_word f w ≡ true) (λ w. is_among ws w ≡ true → w ≡ p) (λ w k i. (stored_in xs ys d qs ws f true named before ea w k i).1) (map After (chain (of_lists (xs ++ ys) qs) f)) (chain_words (of_lists (xs ++ ys) qs) f))))

pub linking_once : (xs ys : List Descriptor) (d : Descriptor) (qs : List QueueHead) (links : Predecessor → Option Member) (fs : List ℕ) (n f : ℕ) → has_name (of_lists (xs ++ ys) qs) d.id ≡ false
    → IsChain links (Element f) (chain (of_lists (xs ++ ys) qs) f) → (nat_eq d.frame f ≡ true → links (After (Once d)) ≡ successor (of_lists (xs ++ d ∷ ys) qs) (Once d) f)
    → IsChain (stored links (take n (predecessors (of_lists (xs ++ d ∷ ys) qs) (Once d) fs)) (Some (Once d))) (Element f) (half_linked (of_lists (xs ++ ys) qs) (of_lists (xs ++ d ∷ ys) qs) (Once d) (take n (predecessors (of_lists (xs ++ d ∷ ys) qs) (Once d) fs)) f)
linking_once xs ys d qs links fs n f named h next =
    let s = of_lists (xs ++ d ∷ ys) qs in
    let ws = take n (predecessors s (Once d) fs) in
    linked_frame xs ys d qs links ws f (nat_eq d.frame f) (is_among ws (predecessor s (Once d) f)) named (first_ones (IsBefore s d) n (predecessors s (Once d) fs) (all_before s d fs)) h next refl refl

unlinked_frame : (xs ys : List Descriptor) (d : Descriptor) (qs : List QueueHead) (links : Links) (ws : List Predecessor) (f : ℕ) (a b : Bool) → has_name (of_lists (xs ++ ys) qs) d.id ≡ false → AllByRecursion (IsBefore (of_lists (xs ++ d ∷ ys) qs) d) ws
    → IsChain links (Element f) (chain (of_lists (xs ++ d ∷ ys) qs) f)
    → nat_eq d.frame f ≡ a → is_among ws (predecessor (of_lists (xs ++ d ∷ ys) qs) (Once d) f) ≡ b
    → IsChain (stored links ws (links (After (Once d)))) (Element f) (if a && b then chain (of_lists (xs ++ ys) qs) f else chain (of_lists (xs ++ d ∷ ys) qs) f)
unlinked_frame xs ys d qs links ws f false b named before h ea eb =
    idle_links links ws (links (After (Once d))) f (of_lists (xs ++ d ∷ ys) qs) (λ v k i. false≢true (stored_in xs ys d qs ws f false named before ea v k i).0) h
unlinked_frame xs ys d qs links ws f true false named before h ea eb =
    idle_links links ws (links (After (Once d))) f (of_lists (xs ++ d ∷ ys) qs) (λ v k i. false≢true (sym eb ∙ ap (λ w. is_among ws w) (sym (stored_in xs ys d qs ws f true named before ea v k i).1) ∙ i)) h
unlinked_frame xs ys d qs links ws f true true named before h ea eb =
    let s = of_lists (xs ++ d ∷ ys) qs in
    let p = predecessor s (Once d) f in
    let split = subst (λ (ms : List Member). IsChain links (Element f) ms) (with_chain xs ys d qs f ea) h in
    subst (λ (ms : List Member). IsChain (stored links ws (links (After (Once d)))) (Element f) ms) (sym (without_chain xs ys qs f))
    (linked_out links ws (links (After (Once d))) (Once d) p (rest_in ys qs f) (once_in xs f) (Element f) split (word_of xs ys d qs f named ea) refl eb
    (λ i. (stored_in xs ys d qs ws f true named before ea (Element f) (same_number f) i).1)
    (subst (λ (ms : List Member). AllByRecursion (λ w. is_among ws w ≡ true → w ≡ p) (map After ms)) (with_chain xs ys d qs f ea)
    (weaken (λ w. has_word f w ≡ true) (λ w. is_among ws w ≡ true → w ≡ p) (λ w k i. (stored_in xs ys d qs ws f true named before ea w k i).1) (map After (chain s f)) (chain_words s f))))

pub unlinking_once : (xs ys : List Descriptor) (d : Descriptor) (qs : List QueueHead) (links : Predecessor → Option Member) (fs : List ℕ) (n f : ℕ) → has_name (of_lists (xs ++ ys) qs) d.id ≡ false
    → IsChain links (Element f) (chain (of_lists (xs ++ d ∷ ys) qs) f)
    → IsChain (stored links (take n (predecessors (of_lists (xs ++ d ∷ ys) qs) (Once d) fs)) (links (After (Once d)))) (Element f) (half_unlinked (of_lists (xs ++ d ∷ ys) qs) (of_lists (xs ++ ys) qs) (Once d) (take n (predecessors (of_lists (xs ++ d ∷ ys) qs) (Once d) fs)) f)
unlinking_once xs ys d qs links fs n f named h =
    let s = of_lists (xs ++ d ∷ ys) qs in
    let ws = take n (predecessors s (Once d) fs) in
    unlinked_frame xs ys d qs links ws f (nat_eq d.frame f) (is_among ws (predecessor s (Once d) f)) named (first_ones (IsBefore s d) n (predecessors s (Once d) fs) (all_before s d fs)) h refl refl

its_frame : (xs : List Descriptor) (g : ℕ) → first_frame (word_after (Element g) (once_in xs g)) ≡ g
its_frame xs g = holds_after (λ w. first_frame w ≡ g) (Element g) (once_in xs g) refl
    (after_all (λ w. first_frame w ≡ g) (once_in xs g) (of_kept (λ m. first_frame (After m) ≡ g) Once (λ x. nat_eq x.frame g) (λ x h. eqb-true x.frame g h) xs))

pub all_made_once : (xs ys : List Descriptor) (d : Descriptor) (qs : List QueueHead) (bits f : ℕ) → has_name (of_lists (xs ++ ys) qs) d.id ≡ false → f < 2 ^ bits → nat_eq d.frame f ≡ true → is_made (of_lists (xs ++ d ∷ ys) qs) (Once d) (predecessors (of_lists (xs ++ d ∷ ys) qs) (Once d) (frames bits)) f ≡ true
all_made_once xs ys d qs bits f named l e =
    let s = of_lists (xs ++ d ∷ ys) qs in
    let v = predecessor s (Once d) f in
    both_true (nat_eq d.frame f) (is_among (predecessors s (Once d) (frames bits)) v) e
    (met_in s (Once d) f v (frames bits) (each_below bits f l) e refl (ap (λ w. first_frame w) (word_of xs ys d qs f named e) ∙ its_frame xs f))
