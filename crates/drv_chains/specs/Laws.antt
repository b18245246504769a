-- What is stated of chains whose words are stored one after the other (EHCI 1.0, 3.1 and 4.7). A member has a place in its list: it stands
-- between `xs` and `ys`. `without` is the schedule that hasn't it, `with_it` the one that has; `made` are its first n stores.
--     ServesItsFrames                        a word that leads to a queue head in one frame does so in each frame whose chain has the word
--     HasOneSuccessor                        a queue head has one successor in all its frames
--     LinksQueueHead, LinksDescriptor        while a member is linked each chain is the new one where its store was made, else the old one
--     UnlinksQueueHead, UnlinksDescriptor    while a member is unlinked, the same
--     StoresQueueHead, StoresDescriptor      once all stores are made, each frame's is
--     FindsItsWords                          the classes find each word that is stored once, in the order of the frames
use Rattle.std.specs.Prelude.{◌≡◌, ℕ, ◌+◌, ◌^◌, ◌<◌, nat_eq, true, false, List, ◌∷◌, ◌++◌, take, Option, Some}
use Rattle.std.specs.List.{list_any}
use Rattle.drv_chains.specs.declared.members.Descriptor.{Descriptor}
use Rattle.drv_chains.specs.declared.members.QueueHead.{QueueHead}
use Rattle.drv_chains.specs.declared.members.Member.{Member}
use Rattle.drv_chains.specs.declared.members.Member.TheVariants.{Once, Each}
use Rattle.drv_chains.specs.declared.members.Predecessor.{Predecessor}
use Rattle.drv_chains.specs.declared.members.Predecessor.TheVariants.{Element, After}
use Rattle.drv_chains.specs.Order.{frames}
use Rattle.drv_chains.specs.Chains.{of_lists, is_period, is_active, has_name, has_word, chain, predecessor, predecessors, successor}
use Rattle.drv_chains.specs.Classes.{class_words, periods_of}
use Rattle.drv_chains.specs.Stores.{IsChain, stored, is_made, half_linked, half_unlinked}

abbrev pub ServesItsFrames : Type 0
ServesItsFrames = (ds : List Descriptor) → (xs ys : List QueueHead) → (q : QueueHead) → (f g : ℕ) →
    let with_it = of_lists ds (xs ++ q ∷ ys) in
    has_name (of_lists ds (xs ++ ys)) q.id ≡ false → is_period q.period ≡ true → is_active g q ≡ true
    → has_word f (predecessor with_it (Each q) g) ≡ true
    → (is_active f q ≡ true) × (predecessor with_it (Each q) f ≡ predecessor with_it (Each q) g)

abbrev pub HasOneSuccessor : Type 0
HasOneSuccessor = (ds : List Descriptor) → (xs ys : List QueueHead) → (q : QueueHead) → (f g : ℕ) →
    let with_it = of_lists ds (xs ++ q ∷ ys) in
    has_name (of_lists ds (xs ++ ys)) q.id ≡ false → is_period q.period ≡ true → is_active f q ≡ true → is_active g q ≡ true
    → successor with_it (Each q) f ≡ successor with_it (Each q) g

abbrev pub LinksQueueHead : Type 0
LinksQueueHead = (ds : List Descriptor) → (xs ys : List QueueHead) → (q : QueueHead) → (links : Predecessor → Option Member) → (fs : List ℕ) → (n f : ℕ) →
    let without = of_lists ds (xs ++ ys) in
    let with_it = of_lists ds (xs ++ q ∷ ys) in
    let made = take n (predecessors with_it (Each q) fs) in
    has_name without q.id ≡ false → is_period q.period ≡ true → IsChain links (Element f) (chain without f)
    → (is_active f q ≡ true → links (After (Each q)) ≡ successor with_it (Each q) f)
    → IsChain (stored links made (Some (Each q))) (Element f) (half_linked without with_it (Each q) made f)

abbrev pub LinksDescriptor : Type 0
LinksDescriptor = (xs ys : List Descriptor) → (d : Descriptor) → (qs : List QueueHead) → (links : Predecessor → Option Member) → (fs : List ℕ) → (n f : ℕ) →
    let without = of_lists (xs ++ ys) qs in
    let with_it = of_lists (xs ++ d ∷ ys) qs in
    let made = take n (predecessors with_it (Once d) fs) in
    has_name without d.id ≡ false → IsChain links (Element f) (chain without f)
    → (nat_eq d.frame f ≡ true → links (After (Once d)) ≡ successor with_it (Once d) f)
    → IsChain (stored links made (Some (Once d))) (Element f) (half_linked without with_it (Once d) made f)

abbrev pub UnlinksQueueHead : Type 0
UnlinksQueueHead = (ds : List Descriptor) → (xs ys : List QueueHead) → (q : QueueHead) → (links : Predecessor → Option Member) → (fs : List ℕ) → (n f : ℕ) →
    let without = of_lists ds (xs ++ ys) in
    let with_it = of_lists ds (xs ++ q ∷ ys) in
    let made = take n (predecessors with_it (Each q) fs) in
    has_name without q.id ≡ false → is_period q.period ≡ true → IsChain links (Element f) (chain with_it f)
    → IsChain (stored links made (links (After (Each q)))) (Element f) (half_unlinked with_it without (Each q) made f)

abbrev pub UnlinksDescriptor : Type 0
UnlinksDescriptor = (xs ys : List Descriptor) → (d : Descriptor) → (qs : List QueueHead) → (links : Predecessor → Option Member) → (fs : List ℕ) → (n f : ℕ) →
    let without = of_lists (xs ++ ys) qs in
    let with_it = of_lists (xs ++ d ∷ ys) qs in
    let made = take n (predecessors with_it (Once d) fs) in
    has_name without d.id ≡ false → IsChain links (Element f) (chain with_it f)
    → IsChain (stored links made (links (After (Once d)))) (Element f) (half_unlinked with_it without (Once d) made f)

abbrev pub StoresQueueHead : Type 0
StoresQueueHead = (ds : List Descriptor) → (xs ys : List QueueHead) → (q : QueueHead) → (bits f : ℕ) →
    let with_it = of_lists ds (xs ++ q ∷ ys) in
    has_name (of_lists ds (xs ++ ys)) q.id ≡ false → is_period q.period ≡ true → f < 2 ^ bits → is_active f q ≡ true
    → is_made with_it (Each q) (predecessors with_it (Each q) (frames bits)) f ≡ true

abbrev pub StoresDescriptor : Type 0
StoresDescriptor = (xs ys : List Descriptor) → (d : Descriptor) → (qs : List QueueHead) → (bits f : ℕ) →
    let with_it = of_lists (xs ++ d ∷ ys) qs in
    has_name (of_lists (xs ++ ys) qs) d.id ≡ false → f < 2 ^ bits → nat_eq d.frame f ≡ true
    → is_made with_it (Once d) (predecessors with_it (Once d) (frames bits)) f ≡ true

abbrev pub FindsItsWords : Type 0
FindsItsWords = (ds : List Descriptor) → (xs ys : List QueueHead) → (q : QueueHead) → (left level : ℕ) →
    let with_it = of_lists ds (xs ++ q ∷ ys) in
    left + level ≡ 10 → list_any (λ p. nat_eq q.period p) (periods_of level) ≡ true → q.phase < 2 ^ level
    → has_name (of_lists ds (xs ++ ys)) q.id ≡ false
    → class_words with_it left level q ≡ predecessors with_it (Each q) (frames 10)
