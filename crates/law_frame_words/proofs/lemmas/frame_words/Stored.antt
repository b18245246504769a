-- The words while a member is linked or unlinked: each frame's lead to the new chain where its store is made, else to the old one.
use Rattle.std.proofs.Common.{◌≡◌, ℕ, ◌<◌, Bool, true, false, List, ◌∷◌, ◌++◌, take, cond, nat_eq, Some, Option, refl, ap, sym, ◌∙◌, subst}
use Rattle.std.specs.Prelude.{filter, not}
use Rattle.std.specs.List.{AllByRecursion}
use Rattle.std.proofs.lemmas.Bool.{eq-eqb}
use Rattle.std.proofs.lemmas.List.Elements.{filter-append}
use Rattle.drv_chains.specs.declared.members.Descriptor.{Descriptor}
use Rattle.drv_chains.specs.declared.members.QueueHead.{QueueHead}
use Rattle.drv_chains.specs.declared.members.Member.{Member}
use Rattle.drv_chains.specs.declared.members.Member.TheVariants.{Once, Each}
use Rattle.drv_chains.specs.declared.members.Predecessor.{Predecessor}
use Rattle.drv_chains.specs.declared.members.Predecessor.TheVariants.{Element, After}
use Rattle.drv_chains.specs.Order.{frames}
use Rattle.drv_chains.specs.Chains.{Schedule, of_lists, is_period, is_active, has_name, chain, predecessors, successor}
use Rattle.drv_chains.specs.Stores.{IsChain, stored, half_linked, half_unlinked}
use Rattle.drv_chains.proofs.Beside.{each_map}
use Rattle.drv_chains.proofs.Links.{Links, led}
use Rattle.drv_chains.proofs.Linking.{weaken, linking, unlinking}
use Rattle.drv_chains.proofs.Descriptors.{linking_once, unlinking_once}
use Rattle.drv_members.specs.Ranks.{is_named, is_called}
use Rattle.drv_members.specs.Members.{IsKept, without_member}
use Rattle.drv_members.proofs.Sorted.{all_pass}
use Rattle.drv_members.proofs.Splits.{IsAt}
use Rattle.drv_periodic.specs.Periodic.{link_to}
use Rattle.claims_driver.specs.FrameWords.{Leads, set_all}
use Rattle.law_frame_words.specs.frame_words.InWords.{IsSpread}
use Rattle.law_frame_words.proofs.lemmas.frame_words.Decoded.{IsIn, IsInOr, IsWordOf, links_by, leads_by, same_links}

-- from the links that are stored to the words
pub to_words : (list : ℕ) (s : Schedule) (before : ℕ → ℕ) (ps : List Predecessor) (o : Option Member) (f : ℕ) (ms : List Member) → IsKept s → IsSpread list s → IsInOr s o → AllByRecursion (IsWordOf s) ps → f < 1024 → AllByRecursion (IsIn s) ms
    → IsChain (stored (links_by list s before) ps o) (Element f) ms → Leads list (set_all list ps (link_to o) before) (Element f) ms
to_words list s before ps o f ms k sp i a l h c =
    leads_by list s (set_all list ps (link_to o) before) (Element f) ms
    (led (stored (links_by list s before) ps o) (links_by list s (set_all list ps (link_to o) before)) (Element f) (Element f) ms c (same_links list s before ps o (Element f) k sp i a l)
    (each_map (λ w. links_by list s (set_all list ps (link_to o) before) w ≡ stored (links_by list s before) ps o w) After ms
    (weaken (IsIn s) (λ m. links_by list s (set_all list ps (link_to o) before) (After m) ≡ stored (links_by list s before) ps o (After m)) (λ m b. same_links list s before ps o (After m) k sp i a b) ms h)))

-- the schedule without a member, by where it stands
not_one : (b : Bool) → b ≡ false → not b ≡ true
not_one b e = ap not e

all_others : {X : Type 0} (named : X → Bool) (xs : List X) → AllByRecursion (λ x. named x ≡ false) xs → filter (λ x. not (named x)) xs ≡ xs
all_others named xs h = all_pass (λ x. not (named x)) xs (weaken (λ x. named x ≡ false) (λ x. not (named x) ≡ true) (λ x e. not_one (named x) e) xs h)

the_others : {X : Type 0} (named : X → Bool) (q : X) (xs : List X) → (at : IsAt named q xs) → named q ≡ true → filter (λ x. not (named x)) xs ≡ at.front ++ at.back
the_others named q xs at e =
    ap (λ ys. filter (λ x. not (named x)) ys) at.is ∙ filter-append (λ x. not (named x)) at.front (q ∷ at.back)
    ∙ ap (λ ys. ys ++ filter (λ x. not (named x)) (q ∷ at.back)) (all_others named at.front at.before)
    ∙ ap (λ b. at.front ++ cond (not b) (q ∷ filter (λ x. not (named x)) at.back) (filter (λ x. not (named x)) at.back)) e
    ∙ ap (λ ys. at.front ++ ys) (all_others named at.back at.behind)

pub queue_out : (s : Schedule) (q : QueueHead) → (at : IsAt (is_named q.id) q s.queues) → without_member s (Each q) ≡ of_lists s.descriptors (at.front ++ at.back)
queue_out s q at = ap (λ qs. of_lists s.descriptors qs) (the_others (is_named q.id) q s.queues at (eq-eqb q.id q.id refl))

pub descriptor_out : (s : Schedule) (d : Descriptor) → (at : IsAt (is_called d.id) d s.descriptors) → without_member s (Once d) ≡ of_lists (at.front ++ at.back) s.queues
descriptor_out s d at = ap (λ ds. of_lists ds s.queues) (the_others (is_called d.id) d s.descriptors at (eq-eqb d.id d.id refl))

pub queue_put : (s : Schedule) (q : QueueHead) → (at : IsAt (is_named q.id) q s.queues) → s ≡ of_lists s.descriptors (at.front ++ q ∷ at.back)
queue_put s q at = ap (λ qs. of_lists s.descriptors qs) at.is

pub descriptor_put : (s : Schedule) (d : Descriptor) → (at : IsAt (is_called d.id) d s.descriptors) → s ≡ of_lists (at.front ++ d ∷ at.back) s.queues
descriptor_put s d at = ap (λ ds. of_lists ds s.queues) at.is

-- the laws of links, at any schedule that is these lists
pub queue_linked : (s o : Schedule) (ds : List Descriptor) (xs ys : List QueueHead) (q : QueueHead) → s ≡ of_lists ds (xs ++ q ∷ ys) → o ≡ of_lists ds (xs ++ ys) → (links : Links) (n f : ℕ) → has_name (of_lists ds (xs ++ ys)) q.id ≡ false → is_period q.period ≡ true
    → IsChain links (Element f) (chain o f) → (is_active f q ≡ true → links (After (Each q)) ≡ successor s (Each q) f)
    → IsChain (stored links (take n (predecessors s (Each q) (frames 10))) (Some (Each q))) (Element f) (half_linked o s (Each q) (take n (predecessors s (Each q) (frames 10))) f)
queue_linked s o ds xs ys q es eo links n f named period =
    subst (λ (x : Schedule). IsChain links (Element f) (chain o f) → (is_active f q ≡ true → links (After (Each q)) ≡ successor x (Each q) f)
    → IsChain (stored links (take n (predecessors x (Each q) (frames 10))) (Some (Each q))) (Element f) (half_linked o x (Each q) (take n (predecessors x (Each q) (frames 10))) f)) (sym es)
    (subst (λ (y : Schedule). IsChain links (Element f) (chain y f) → (is_active f q ≡ true → links (After (Each q)) ≡ successor (of_lists ds (xs ++ q ∷ ys)) (Each q) f)
    → IsChain (stored links (take n (predecessors (of_lists ds (xs ++ q ∷ ys)) (Each q) (frames 10))) (Some (Each q))) (Element f) (half_linked y (of_lists ds (xs ++ q ∷ ys)) (Each q) (take n (predecessors (of_lists ds (xs ++ q ∷ ys)) (Each q) (frames 10))) f)) (sym eo)
    (linking ds xs ys q links (frames 10) n f named period))

pub queue_unlinked : (s o : Schedule) (ds : List Descriptor) (xs ys : List QueueHead) (q : QueueHead) → s ≡ of_lists ds (xs ++ q ∷ ys) → o ≡ of_lists ds (xs ++ ys) → (links : Links) (n f : ℕ) → has_name (of_lists ds (xs ++ ys)) q.id ≡ false → is_period q.period ≡ true
    → IsChain links (Element f) (chain s f)
    → IsChain (stored links (take n (predecessors s (Each q) (frames 10))) (links (After (Each q)))) (Element f) (half_unlinked s o (Each q) (take n (predecessors s (Each q) (frames 10))) f)
queue_unlinked s o ds xs ys q es eo links n f named period =
    subst (λ (x : Schedule). IsChain links (Element f) (chain x f)
    → IsChain (stored links (take n (predecessors x (Each q) (frames 10))) (links (After (Each q)))) (Element f) (half_unlinked x o (Each q) (take n (predecessors x (Each q) (frames 10))) f)) (sym es)
    (subst (λ (y : Schedule). IsChain links (Element f) (chain (of_lists ds (xs ++ q ∷ ys)) f)
    → IsChain (stored links (take n (predecessors (of_lists ds (xs ++ q ∷ ys)) (Each q) (frames 10))) (links (After (Each q)))) (Element f) (half_unlinked (of_lists ds (xs ++ q ∷ ys)) y (Each q) (take n (predecessors (of_lists ds (xs ++ q ∷ ys)) (Each q) (frames 10))) f)) (sym eo)
    (unlinking ds xs ys q links (frames 10) n f named period))

pub once_linked : (s o : Schedule) (xs ys : List Descriptor) (d : Descriptor) (qs : List QueueHead) → s ≡ of_lists (xs ++ d ∷ ys) qs → o ≡ of_lists (xs ++ ys) qs → (links : Links) (n f : ℕ) → has_name (of_lists (xs ++ ys) qs) d.id ≡ false
    → IsChain links (Element f) (chain o f) → (nat_eq d.frame f ≡ true → links (After (Once d)) ≡ successor s (Once d) f)
    → IsChain (stored links (take n (predecessors s (Once d) (frames 10))) (Some (Once d))) (Element f) (half_linked o s (Once d) (take n (predecessors s (Once d) (frames 10))) f)
once_linked s o xs ys d qs es eo links n f named =
    subst (λ (x : Schedule). IsChain links (Element f) (chain o f) → (nat_eq d.frame f ≡ true → links (After (Once d)) ≡ successor x (Once d) f)
    → IsChain (stored links (take n (predecessors x (Once d) (frames 10))) (Some (Once d))) (Element f) (half_linked o x (Once d) (take n (predecessors x (Once d) (frames 10))) f)) (sym es)
    (subst (λ (y : Schedule). IsChain links (Element f) (chain y f) → (nat_eq d.frame f ≡ true → links (After (Once d)) ≡ successor (of_lists (xs ++ d ∷ ys) qs) (Once d) f)
    → IsChain (stored links (take n (predecessors (of_lists (xs ++ d ∷ ys) qs) (Once d) (frames 10))) (Some (Once d))) (Element f) (half_linked y (of_lists (xs ++ d ∷ ys) qs) (Once d) (take n (predecessors (of_lists (xs ++ d ∷ ys) qs) (Once d) (frames 10))) f)) (sym eo)
    (linking_once xs ys d qs links (frames 10) n f named))

pub once_unlinked : (s o : Schedule) (xs ys : List Descriptor) (d : Descriptor) (qs : List QueueHead) → s ≡ of_lists (xs ++ d ∷ ys) qs → o ≡ of_lists (xs ++ ys) qs → (links : Links) (n f : ℕ) → has_name (of_lists (xs ++ ys) qs) d.id ≡ false
    → IsChain links (Element f) (chain s f)
    → IsChain (stored links (take n (predecessors s (Once d) (frames 10))) (links (After (Once d)))) (Element f) (half_unlinked s o (Once d) (take n (predecessors s (Once d) (frames 10))) f)
once_unlinked s o xs ys d qs es eo links n f named =
    subst (λ (x : Schedule). IsChain links (Element f) (chain x f)
    → IsChain (stored links (take n (predecessors x (Once d) (frames 10))) (links (After (Once d)))) (Element f) (half_unlinked x o (Once d) (take n (predecessors x (Once d) (frames 10))) f)) (sym es)
    (subst (λ (y : Schedule). IsChain links (Element f) (chain (of_lists (xs ++ d ∷ ys) qs) f)
    → IsChain (stored links (take n (predecessors (of_lists (xs ++ d ∷ ys) qs) (Once d) (frames 10))) (links (After (Once d)))) (Element f) (half_unlinked (of_lists (xs ++ d ∷ ys) qs) y (Once d) (take n (predecessors (of_lists (xs ++ d ∷ ys) qs) (Once d) (frames 10))) f)) (sym eo)
    (unlinking_once xs ys d qs links (frames 10) n f named))
