-- Each frame of the list while a member is linked or unlinked, and once all its stores are made.
use Rattle.std.proofs.Common.{◌≡◌, ℕ, ◌^◌, ◌<◌, Bool, true, false, List, ◌++◌, map, take, nat_eq, Some, Option, if◌then◌else◌, refl, ap, sym, ◌∙◌, subst, arith}
use Rattle.std.specs.Prelude.{◌&&◌, nat_lt}
use Rattle.std.specs.List.{AllByRecursion, flat_map}
use Rattle.std.proofs.lemmas.Bool.{eqb-true, and_parts}
use Rattle.drv_chains.specs.declared.members.Descriptor.{Descriptor}
use Rattle.drv_chains.specs.declared.members.QueueHead.{QueueHead}
use Rattle.drv_chains.specs.declared.members.Member.{Member}
use Rattle.drv_chains.specs.declared.members.Member.TheVariants.{Once, Each}
use Rattle.drv_chains.specs.declared.members.Predecessor.{Predecessor}
use Rattle.drv_chains.specs.declared.members.Predecessor.TheVariants.{Element, After}
use Rattle.drv_chains.specs.Order.{frames}
use Rattle.drv_chains.specs.Chains.{Schedule, is_period, frame_period, is_active, stands_in, id_of, queues_in, periods, chain, predecessor, predecessors, successor}
use Rattle.drv_chains.specs.Stores.{IsChain, stored, is_among, is_made, half_linked, half_unlinked}
use Rattle.drv_chains.proofs.Beside.{without, idle_chain}
use Rattle.drv_chains.proofs.Linking.{weaken, all_made}
use Rattle.drv_chains.proofs.Descriptors.{all_made_once}
use Rattle.drv_chains.proofs.Following.{first_ones}
use Rattle.drv_chains.proofs.OneLink.{one_link}
use Rattle.drv_members.specs.Ranks.{is_queue, is_named, is_called}
use Rattle.drv_members.specs.Members.{IsKept, IsMember, without_member, frame_of}
use Rattle.drv_members.proofs.Splits.{IsAt}
use Rattle.drv_members.proofs.Ranges.{own_frame}
use Rattle.drv_members.proofs.Keeping.{keeps_without, queue_at, queue_named, descriptor_at, descriptor_named}
use Rattle.drv_periodic.specs.Periodic.{link_to, address_of}
use Rattle.claims_driver.specs.FrameWords.{Leads, set_all, AllLead}
use Rattle.law_frame_words.specs.frame_words.InWords.{IsSpread}
use Rattle.law_frame_words.proofs.lemmas.frame_words.Decoded.{IsIn, IsWordOf, decoded, decoded_link, links_by, linked_by}
use Rattle.law_frame_words.proofs.lemmas.frame_words.InChains.{chain_in, fewer_in, successor_in, half_in, words_in}
use Rattle.law_frame_words.proofs.lemmas.frame_words.Stored.{to_words, queue_out, descriptor_out, queue_put, descriptor_put, queue_linked, queue_unlinked, once_linked, once_unlinked}

abbrev pub all_words : Schedule → Member → List Predecessor
all_words s m = predecessors s m (frames 10)

period_of : (q : QueueHead) → is_queue q ≡ true → is_period q.period ≡ true
period_of q h = (and_parts (is_period q.period) (nat_lt q.phase (frame_period q.period)) h).0

-- the own link is a link to the next
own_link : (list : ℕ) (s : Schedule) (m : Member) (before : ℕ → ℕ) → IsKept s → IsSpread list s → before (address_of list (After m)) ≡ link_to (successor s m (frame_of m)) → links_by list s before (After m) ≡ successor s m (frame_of m)
own_link list s m before k sp own = ap (λ n. decoded s n) own ∙ decoded_link list s (successor s m (frame_of m)) k sp (successor_in s m (frame_of m) k)

old_in : (s : Schedule) (m : Member) (f : ℕ) → IsKept s → AllByRecursion (IsIn s) (chain (without_member s m) f)
old_in s m f k = weaken (IsIn (without_member s m)) (IsIn s) (λ x h. fewer_in s m x h) (chain (without_member s m) f) (chain_in (without_member s m) f (keeps_without s m k))

one_next : (s : Schedule) (q : QueueHead) (f : ℕ) → IsKept s → (at : IsAt (is_named q.id) q s.queues) → is_queue q ≡ true → is_active f q ≡ true → successor s (Each q) q.phase ≡ successor s (Each q) f
one_next s q f k at i a =
    subst (λ (x : Schedule). successor x (Each q) q.phase ≡ successor x (Each q) f) (sym (queue_put s q at))
    (one_link s.descriptors at.front at.back q q.phase f (queue_named s q k at) (period_of q i) (own_frame q i) a)

pub linked_half : (list : ℕ) (s : Schedule) (m : Member) (before : ℕ → ℕ) (n f : ℕ) → IsKept s → IsSpread list s → IsMember m → IsIn s m → f < 1024 → AllLead list before (without_member s m)
    → before (address_of list (After m)) ≡ link_to (successor s m (frame_of m))
    → Leads list (set_all list (take n (all_words s m)) (id_of m) before) (Element f) (half_linked (without_member s m) s m (take n (all_words s m)) f)
linked_half list s (Each q) before n f k sp i h l stood own =
    let at = queue_at s q k h in
    let o = without_member s (Each q) in
    let inside = old_in s (Each q) f k in
    let c = queue_linked s o s.descriptors at.front at.back q (queue_put s q at) (queue_out s q at) (links_by list s before) n f (queue_named s q k at) (period_of q i)
    (linked_by list s before (Element f) (chain o f) k sp inside (stood f l))
    (λ a. own_link list s (Each q) before k sp own ∙ one_next s q f k at i a) in
    to_words list s before (take n (all_words s (Each q))) (Some (Each q)) f (half_linked o s (Each q) (take n (all_words s (Each q))) f) k sp h
    (first_ones (IsWordOf s) n (all_words s (Each q)) (words_in s (Each q) k)) l
    (half_in s (chain s f) (chain o f) (is_made s (Each q) (take n (all_words s (Each q))) f) (chain_in s f k) inside) c
linked_half list s (Once d) before n f k sp i h l stood own =
    let at = descriptor_at s d k h in
    let o = without_member s (Once d) in
    let inside = old_in s (Once d) f k in
    let c = once_linked s o at.front at.back d s.queues (descriptor_put s d at) (descriptor_out s d at) (links_by list s before) n f (descriptor_named s d k at)
    (linked_by list s before (Element f) (chain o f) k sp inside (stood f l))
    (λ a. own_link list s (Once d) before k sp own ∙ ap (λ g. successor s (Once d) g) (eqb-true d.frame f a)) in
    to_words list s before (take n (all_words s (Once d))) (Some (Once d)) f (half_linked o s (Once d) (take n (all_words s (Once d))) f) k sp h
    (first_ones (IsWordOf s) n (all_words s (Once d)) (words_in s (Once d) k)) l
    (half_in s (chain s f) (chain o f) (is_made s (Once d) (take n (all_words s (Once d))) f) (chain_in s f k) inside) c

pub unlinked_half : (list : ℕ) (s : Schedule) (m : Member) (before : ℕ → ℕ) (n f : ℕ) → IsKept s → IsSpread list s → IsMember m → IsIn s m → f < 1024 → AllLead list before s
    → before (address_of list (After m)) ≡ link_to (successor s m (frame_of m))
    → Leads list (set_all list (take n (all_words s m)) (link_to (successor s m (frame_of m))) before) (Element f) (half_unlinked s (without_member s m) m (take n (all_words s m)) f)
unlinked_half list s (Each q) before n f k sp i h l stood own =
    let at = queue_at s q k h in
    let o = without_member s (Each q) in
    let ps = take n (all_words s (Each q)) in
    let c = queue_unlinked s o s.descriptors at.front at.back q (queue_put s q at) (queue_out s q at) (links_by list s before) n f (queue_named s q k at) (period_of q i)
    (linked_by list s before (Element f) (chain s f) k sp (chain_in s f k) (stood f l)) in
    to_words list s before ps (successor s (Each q) q.phase) f (half_unlinked s o (Each q) ps f) k sp (successor_in s (Each q) q.phase k)
    (first_ones (IsWordOf s) n (all_words s (Each q)) (words_in s (Each q) k)) l
    (half_in s (chain o f) (chain s f) (is_made s (Each q) ps f) (old_in s (Each q) f k) (chain_in s f k))
    (subst (λ (x : Option Member). IsChain (stored (links_by list s before) ps x) (Element f) (half_unlinked s o (Each q) ps f)) (own_link list s (Each q) before k sp own) c)
unlinked_half list s (Once d) before n f k sp i h l stood own =
    let at = descriptor_at s d k h in
    let o = without_member s (Once d) in
    let ps = take n (all_words s (Once d)) in
    let c = once_unlinked s o at.front at.back d s.queues (descriptor_put s d at) (descriptor_out s d at) (links_by list s before) n f (descriptor_named s d k at)
    (linked_by list s before (Element f) (chain s f) k sp (chain_in s f k) (stood f l)) in
    to_words list s before ps (successor s (Once d) d.frame) f (half_unlinked s o (Once d) ps f) k sp (successor_in s (Once d) d.frame k)
    (first_ones (IsWordOf s) n (all_words s (Once d)) (words_in s (Once d) k)) l
    (half_in s (chain o f) (chain s f) (is_made s (Once d) ps f) (old_in s (Once d) f k) (chain_in s f k))
    (subst (λ (x : Option Member). IsChain (stored (links_by list s before) ps x) (Element f) (half_unlinked s o (Once d) ps f)) (own_link list s (Once d) before k sp own) c)

-- once all stores are made
made_or_idle : (s o : Schedule) (m : Member) (f : ℕ) (b : Bool) → stands_in f m ≡ b → (b ≡ true → is_made s m (all_words s m) f ≡ true) → (b ≡ false → chain s f ≡ chain o f)
    → ((if is_made s m (all_words s m) f then chain s f else chain o f) ≡ chain s f) × ((if is_made s m (all_words s m) f then chain o f else chain s f) ≡ chain o f)
made_or_idle s o m f true e h k = (ap (λ b. if b then chain s f else chain o f) (h refl), ap (λ b. if b then chain o f else chain s f) (h refl))
made_or_idle s o m f false e h k =
    let n : is_made s m (all_words s m) f ≡ false = ap (λ b. b && is_among (all_words s m) (predecessor s m f)) e in
    (ap (λ b. if b then chain s f else chain o f) n ∙ sym (k refl), ap (λ b. if b then chain o f else chain s f) n ∙ k refl)

queue_made : (s : Schedule) (q : QueueHead) (f : ℕ) → IsKept s → (at : IsAt (is_named q.id) q s.queues) → is_queue q ≡ true → f < 1024 → is_active f q ≡ true → is_made s (Each q) (all_words s (Each q)) f ≡ true
queue_made s q f k at i l a =
    let low : f < 2 ^ 10 = omega (arith, l) in
    subst (λ (x : Schedule). is_made x (Each q) (all_words x (Each q)) f ≡ true) (sym (queue_put s q at)) (all_made s.descriptors at.front at.back q 10 f (queue_named s q k at) (period_of q i) low a)

queue_idle : (s : Schedule) (q : QueueHead) (f : ℕ) → (at : IsAt (is_named q.id) q s.queues) → is_active f q ≡ false → chain s f ≡ chain (without_member s (Each q)) f
queue_idle s q f at a = ap (λ x. chain x f) (queue_put s q at) ∙ idle_chain s.descriptors at.front at.back q f a ∙ ap (λ x. chain x f) (sym (queue_out s q at))

once_made : (s : Schedule) (d : Descriptor) (f : ℕ) → IsKept s → (at : IsAt (is_called d.id) d s.descriptors) → f < 1024 → nat_eq d.frame f ≡ true → is_made s (Once d) (all_words s (Once d)) f ≡ true
once_made s d f k at l a =
    let low : f < 2 ^ 10 = omega (arith, l) in
    subst (λ (x : Schedule). is_made x (Once d) (all_words x (Once d)) f ≡ true) (sym (descriptor_put s d at)) (all_made_once at.front at.back d s.queues 10 f (descriptor_named s d k at) low a)

once_idle : (s : Schedule) (d : Descriptor) (f : ℕ) → (at : IsAt (is_called d.id) d s.descriptors) → nat_eq d.frame f ≡ false → chain s f ≡ chain (without_member s (Once d)) f
once_idle s d f at a =
    ap (λ x. chain x f) (descriptor_put s d at) ∙ ap (λ ds. map Once ds ++ map Each (flat_map (queues_in s f) periods)) (without (λ x. nat_eq x.frame f) at.front at.back d a) ∙ ap (λ x. chain x f) (sym (descriptor_out s d at))

pub all_done : (s : Schedule) (m : Member) (f : ℕ) → IsKept s → IsMember m → IsIn s m → f < 1024
    → (half_linked (without_member s m) s m (all_words s m) f ≡ chain s f) × (half_unlinked s (without_member s m) m (all_words s m) f ≡ chain (without_member s m) f)
all_done s (Each q) f k i h l = let at = queue_at s q k h in made_or_idle s (without_member s (Each q)) (Each q) f (is_active f q) refl (λ a. queue_made s q f k at i l a) (λ a. queue_idle s q f at a)
all_done s (Once d) f k i h l = let at = descriptor_at s d k h in made_or_idle s (without_member s (Once d)) (Once d) f (nat_eq d.frame f) refl (λ a. once_made s d f k at l a) (λ a. once_idle s d f at a)
