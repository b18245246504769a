-- The chains while a queue head is linked or unlinked, one store at a time.
use Rattle.std.proofs.Common.{◌≡◌, ℕ, ◌^◌, ◌<◌, Bool, true, false, List, [], ◌∷◌, ◌++◌, map, take, nat_eq, if◌then◌else◌, Option, Some, refl, ap, sym, ◌∙◌, subst}
use Rattle.std.specs.Prelude.{◌&&◌}
use Rattle.std.specs.List.{AllByRecursion}
use Rattle.std.proofs.lemmas.Bool.{eq-eqb, false≢true}
use Rattle.drv_chains.specs.declared.members.Descriptor.{Descriptor}
use Rattle.drv_chains.specs.declared.members.QueueHead.{QueueHead}
use Rattle.drv_chains.specs.declared.members.Member.{Member}
use Rattle.drv_chains.specs.declared.members.Member.TheVariants.{Each}
use Rattle.drv_chains.specs.declared.members.Predecessor.{Predecessor}
use Rattle.drv_chains.specs.declared.members.Predecessor.TheVariants.{Element, After}
use Rattle.drv_chains.specs.Order.{frames}
use Rattle.drv_chains.specs.Chains.{Schedule, of_lists, is_period, is_active, chain, has_name, id_of, word_after, first_of, predecessor, predecessors, successor, has_word}
use Rattle.drv_chains.specs.Stores.{IsChain, is_among, stored, is_made, half_linked, half_unlinked}
use Rattle.drv_chains.proofs.Words.{holds_after, after_all}
use Rattle.drv_chains.proofs.Beside.{ahead, behind, old_chain, new_chain, nothing_ahead, word_is, next_is}
use Rattle.drv_chains.proofs.Links.{Links, rest_of, not_true, untouched, linked_in, linked_out}
use Rattle.drv_chains.proofs.Following.{follows, chain_words, of_those, Leads, all_lead, first_ones, all_met}

pub leads_to : (links : Links) (word : Predecessor) (ms : List Member) → IsChain links word ms → links word ≡ first_of ms
unfolding IsChain
leads_to links word [] h = h
leads_to links word (m ∷ ms) h = h.0

-- a stored word of a frame's chain is the one before q there
stored_here : (ds : List Descriptor) (xs ys : List QueueHead) (q : QueueHead) (ws : List Predecessor) (f : ℕ) → has_name (of_lists ds (xs ++ ys)) q.id ≡ false → is_period q.period ≡ true → AllByRecursion (Leads (of_lists ds (xs ++ q ∷ ys)) q) ws
    → (v : Predecessor) → has_word f v ≡ true → is_among ws v ≡ true → (is_active f q ≡ true) × (v ≡ predecessor (of_lists ds (xs ++ q ∷ ys)) (Each q) f)
stored_here ds xs ys q ws f named here lead v h i =
    let l = of_those (Leads (of_lists ds (xs ++ q ∷ ys)) q) ws v lead i in
    let k = follows ds xs ys q f l.0 named here l.1 (ap (λ x. has_word f x) (sym l.2) ∙ h) in
    (k.0, l.2 ∙ sym k.1)

pub weaken : {X : Type 0} (P Q : X → Type 0) → ((x : X) → P x → Q x) → (xs : List X) → AllByRecursion P xs → AllByRecursion Q xs
weaken P Q h [] k = tt
weaken P Q h (x ∷ xs) k = (h x k.0, weaken P Q h xs k.1)

pub same_number : (n : ℕ) → nat_eq n n ≡ true
same_number n = eq-eqb n n refl

-- no word before q is q's own
is_its : ℕ → Predecessor → Bool
is_its id (Element f) = false
is_its id (After m) = nat_eq (id_of m) id

not_its : (ds : List Descriptor) (xs ys : List QueueHead) (q : QueueHead) (g : ℕ) → has_name (of_lists ds (xs ++ ys)) q.id ≡ false → is_its q.id (word_after (Element g) (ahead ds xs ys q g)) ≡ false
unfolding is_its
not_its ds xs ys q g named = holds_after (λ w. is_its q.id w ≡ false) (Element g) (ahead ds xs ys q g) refl (after_all (λ w. is_its q.id w ≡ false) (ahead ds xs ys q g) (nothing_ahead ds xs ys q g named))

not_stored : (ds : List Descriptor) (xs ys : List QueueHead) (q : QueueHead) (ws : List Predecessor) → has_name (of_lists ds (xs ++ ys)) q.id ≡ false → is_period q.period ≡ true → AllByRecursion (Leads (of_lists ds (xs ++ q ∷ ys)) q) ws → is_among ws (After (Each q)) ≡ true → ⊥
unfolding is_its
not_stored ds xs ys q ws named here lead i =
    let l = of_those (Leads (of_lists ds (xs ++ q ∷ ys)) q) ws (After (Each q)) lead i in
    false≢true (sym (not_its ds xs ys q l.0 named) ∙ ap (λ w. is_its q.id w) (sym (word_is ds xs ys q l.0 named here l.1) ∙ sym l.2) ∙ same_number q.id)

-- a frame none of whose words is stored: its chain stands as it did
pub idle_links : (links : Links) (ws : List Predecessor) (to : Option Member) (f : ℕ) (s : Schedule) (none : (v : Predecessor) → has_word f v ≡ true → is_among ws v ≡ true → ⊥) → IsChain links (Element f) (chain s f) → IsChain (stored links ws to) (Element f) (chain s f)
idle_links links ws to f s none h =
    untouched links ws to (Element f) (chain s f) h (not_true (is_among ws (Element f)) (none (Element f) (same_number f)))
    (weaken (λ w. has_word f w ≡ true) (λ w. is_among ws w ≡ false) (λ w k. not_true (is_among ws w) (none w k)) (map After (chain s f)) (chain_words s f))

-- how frame f stands where q is linked
linked_frame : (ds : List Descriptor) (xs ys : List QueueHead) (q : QueueHead) (links : Links) (ws : List Predecessor) (f : ℕ) (a b : Bool) → has_name (of_lists ds (xs ++ ys)) q.id ≡ false → is_period q.period ≡ true → AllByRecursion (Leads (of_lists ds (xs ++ q ∷ ys)) q) ws
    → IsChain links (Element f) (chain (of_lists ds (xs ++ ys)) f) → (is_active f q ≡ true → links (After (Each q)) ≡ successor (of_lists ds (xs ++ q ∷ ys)) (Each q) f)
    → is_active f q ≡ a → is_among ws (predecessor (of_lists ds (xs ++ q ∷ ys)) (Each q) f) ≡ b
    → IsChain (stored links ws (Some (Each q))) (Element f) (if a && b then chain (of_lists ds (xs ++ q ∷ ys)) f else chain (of_lists ds (xs ++ ys)) f)
linked_frame ds xs ys q links ws f false b named here lead h next ea eb =
    idle_links links ws (Some (Each q)) f (of_lists ds (xs ++ ys)) (λ v k i. false≢true (sym ea ∙ (stored_here ds xs ys q ws f named here lead v k i).0)) h
linked_frame ds xs ys q links ws f true false named here lead h next ea eb =
    idle_links links ws (Some (Each q)) f (of_lists ds (xs ++ ys)) (λ v k i. false≢true (sym eb ∙ ap (λ w. is_among ws w) (sym (stored_here ds xs ys q ws f named here lead v k i).1) ∙ i)) h
linked_frame ds xs ys q links ws f true true named here lead h next ea eb =
    let with_q = of_lists ds (xs ++ q ∷ ys) in
    let p = predecessor with_q (Each q) f in
    let pw = word_is ds xs ys q f named here ea in
    let split = subst (λ (ms : List Member). IsChain links (Element f) ms) (old_chain ds xs ys q f) h in
    let there = subst (λ (w : Predecessor). IsChain links w (behind xs ys q f)) (sym pw) (rest_of links (Element f) (ahead ds xs ys q f) (behind xs ys q f) split) in
    subst (λ (ms : List Member). IsChain (stored links ws (Some (Each q))) (Element f) ms) (sym (new_chain ds xs ys q f here ea))
    (linked_in links ws (Each q) p (behind xs ys q f) (ahead ds xs ys q f) (Element f) split pw
    (next ea ∙ next_is ds xs ys q f named here ea ∙ sym (leads_to links p (behind xs ys q f) there)) eb
    (not_true (is_among ws (After (Each q))) (not_stored ds xs ys q ws named here lead))
    (λ i. (stored_here ds xs ys q ws f named here lead (Element f) (same_number f) i).1)
    (subst (λ (ms : List Member). AllByRecursion (λ w. is_among ws w ≡ true → w ≡ p) (map After ms)) (old_chain ds xs ys q f)
    (weaken (λ w. has_word f w ≡ true) (λ w. is_among ws w ≡ true → w ≡ p) (λ w k i. (stored_here ds xs ys q ws f named here lead w k i).1) (map After (chain (of_lists ds (xs ++ ys)) f)) (chain_words (of_lists ds (xs ++ ys)) f))))

pub linking : (ds : List Descriptor) (xs ys : List QueueHead) (q : QueueHead) (links : Predecessor → Option Member) (fs : List ℕ) (n f : ℕ) → has_name (of_lists ds (xs ++ ys)) q.id ≡ false → is_period q.period ≡ true
    → IsChain links (Element f) (chain (of_lists ds (xs ++ ys)) f) → (is_active f q ≡ true → links (After (Each q)) ≡ successor (of_lists ds (xs ++ q ∷ ys)) (Each q) f)
    → IsChain (stored links (take n (predecessors (of_lists ds (xs ++ q ∷ ys)) (Each q) fs)) (Some (Each q))) (Element f) (half_linked (of_lists ds (xs ++ ys)) (of_lists ds (xs ++ q ∷ ys)) (Each q) (take n (predecessors (of_lists ds (xs ++ q ∷ ys)) (Each q) fs)) f)
linking ds xs ys q links fs n f named here h next =
    let s = of_lists ds (xs ++ q ∷ ys) in
    let ws = take n (predecessors s (Each q) fs) in
    linked_frame ds xs ys q links ws f (is_active f q) (is_among ws (predecessor s (Each q) f)) named here (first_ones (Leads s q) n (predecessors s (Each q) fs) (all_lead s q fs)) h next refl refl

-- how frame f stands where q is unlinked
unlinked_frame : (ds : List Descriptor) (xs ys : List QueueHead) (q : QueueHead) (links : Links) (ws : List Predecessor) (f : ℕ) (a b : Bool) → has_name (of_lists ds (xs ++ ys)) q.id ≡ false → is_period q.period ≡ true → AllByRecursion (Leads (of_lists ds (xs ++ q ∷ ys)) q) ws
    → IsChain links (Element f) (chain (of_lists ds (xs ++ q ∷ ys)) f)
    → is_active f q ≡ a → is_among ws (predecessor (of_lists ds (xs ++ q ∷ ys)) (Each q) f) ≡ b
    → IsChain (stored links ws (links (After (Each q)))) (Element f) (if a && b then chain (of_lists ds (xs ++ ys)) f else chain (of_lists ds (xs ++ q ∷ ys)) f)
unlinked_frame ds xs ys q links ws f false b named here lead h ea eb =
    idle_links links ws (links (After (Each q))) f (of_lists ds (xs ++ q ∷ ys)) (λ v k i. false≢true (sym ea ∙ (stored_here ds xs ys q ws f named here lead v k i).0)) h
unlinked_frame ds xs ys q links ws f true false named here lead h ea eb =
    idle_links links ws (links (After (Each q))) f (of_lists ds (xs ++ q ∷ ys)) (λ v k i. false≢true (sym eb ∙ ap (λ w. is_among ws w) (sym (stored_here ds xs ys q ws f named here lead v k i).1) ∙ i)) h
unlinked_frame ds xs ys q links ws f true true named here lead h ea eb =
    let with_q = of_lists ds (xs ++ q ∷ ys) in
    let p = predecessor with_q (Each q) f in
    let split = subst (λ (ms : List Member). IsChain links (Element f) ms) (new_chain ds xs ys q f here ea) h in
    subst (λ (ms : List Member). IsChain (stored links ws (links (After (Each q)))) (Element f) ms) (sym (old_chain ds xs ys q f))
    (linked_out links ws (links (After (Each q))) (Each q) p (behind xs ys q f) (ahead ds xs ys q f) (Element f) split (word_is ds xs ys q f named here ea) refl eb
    (λ i. (stored_here ds xs ys q ws f named here lead (Element f) (same_number f) i).1)
    (subst (λ (ms : List Member). AllByRecursion (λ w. is_among ws w ≡ true → w ≡ p) (map After ms)) (new_chain ds xs ys q f here ea)
    (weaken (λ w. has_word f w ≡ true) (λ w. is_among ws w ≡ true → w ≡ p) (λ w k i. (stored_here ds xs ys q ws f named here lead w k i).1) (map After (chain with_q f)) (chain_words with_q f))))

pub unlinking : (ds : List Descriptor) (xs ys : List QueueHead) (q : QueueHead) (links : Predecessor → Option Member) (fs : List ℕ) (n f : ℕ) → has_name (of_lists ds (xs ++ ys)) q.id ≡ false → is_period q.period ≡ true
    → IsChain links (Element f) (chain (of_lists ds (xs ++ q ∷ ys)) f)
    → IsChain (stored links (take n (predecessors (of_lists ds (xs ++ q ∷ ys)) (Each q) fs)) (links (After (Each q)))) (Element f) (half_unlinked (of_lists ds (xs ++ q ∷ ys)) (of_lists ds (xs ++ ys)) (Each q) (take n (predecessors (of_lists ds (xs ++ q ∷ ys)) (Each q) fs)) f)
unlinking ds xs ys q links fs n f named here h =
    let s = of_lists ds (xs ++ q ∷ ys) in
    let ws = take n (predecessors s (Each q) fs) in
    unlinked_frame ds xs ys q links ws f (is_active f q) (is_among ws (predecessor s (Each q) f)) named here (first_ones (Leads s q) n (predecessors s (Each q) fs) (all_lead s q fs)) h refl refl

pub both_true : (a b : Bool) → a ≡ true → b ≡ true → (a && b) ≡ true
both_true true b e h = h
both_true false b e h = absurd (false≢true e)

pub all_made : (ds : List Descriptor) (xs ys : List QueueHead) (q : QueueHead) (bits f : ℕ) → has_name (of_lists ds (xs ++ ys)) q.id ≡ false → is_period q.period ≡ true → f < 2 ^ bits → is_active f q ≡ true → is_made (of_lists ds (xs ++ q ∷ ys)) (Each q) (predecessors (of_lists ds (xs ++ q ∷ ys)) (Each q) (frames bits)) f ≡ true
all_made ds xs ys q bits f named here l a = let s = of_lists ds (xs ++ q ∷ ys) in
    both_true (is_active f q) (is_among (predecessors s (Each q) (frames bits)) (predecessor s (Each q) f)) a (all_met ds xs ys q bits f named here l a)
