-- A new descriptor stands first in its frame, before what stood there first, and other frames are as before.
use Rattle.std.proofs.Common.{◌≡◌, ℕ, Bool, true, false, cond, if◌then◌else◌, List, [], ◌∷◌, ◌++◌, map, nat_eq, ap, refl, sym, subst, ◌∙◌}
use Rattle.std.specs.Prelude.{is_none, filter}
use Rattle.std.specs.List.{AllByRecursion, flat_map}
use Rattle.std.proofs.lemmas.Bool.{eq-eqb}
use Rattle.drv_chains.specs.declared.members.Descriptor.{Descriptor}
use Rattle.drv_chains.specs.declared.members.QueueHead.{QueueHead as Queue}
use Rattle.drv_chains.specs.declared.members.Member.{Member}
use Rattle.drv_chains.specs.declared.members.Member.TheVariants.{Once, Each}
use Rattle.drv_chains.specs.declared.members.Predecessor.TheVariants.{After}
use Rattle.drv_chains.specs.Chains.{Schedule, of_lists, queues_in, periods, chain, first_of, behind_the, successor}
use Rattle.drv_members.specs.Members.{with_member, frame_of}
use Rattle.law_frame_words.proofs.lemmas.frame_words.Opening.{newest_first}
use Rattle.drv_periodic.specs.Periodic.{Periodic, link_to, address_of, inserting}
use Rattle.drv_periodic_table.specs.Periodic.{PeriodicContent}
use Rattle.drv_periodic_table.specs.Linking.{may_link, linking, with_first, begun_next}
use Rattle.law_frame_list.specs.list_driver.Keeping.{LeadsOn}

added_first : (ds : List Descriptor) (k : Descriptor) (qs : List Queue) → chain (of_lists (k ∷ ds) qs) k.frame ≡ Once k ∷ chain (of_lists ds qs) k.frame
added_first ds k qs =
    ap (λ (b : Bool). map Once (cond b (k ∷ filter (λ (d : Descriptor). nat_eq d.frame k.frame) ds) (filter (λ (d : Descriptor). nat_eq d.frame k.frame) ds)) ++ map Each (flat_map (queues_in (of_lists ds qs) k.frame) periods)) (eq-eqb k.frame k.frame refl)

added_elsewhere : (ds : List Descriptor) (k : Descriptor) (qs : List Queue) (f : ℕ) → nat_eq k.frame f ≡ false → chain (of_lists (k ∷ ds) qs) f ≡ chain (of_lists ds qs) f
added_elsewhere ds k qs f other =
    ap (λ (b : Bool). map Once (cond b (k ∷ filter (λ (d : Descriptor). nat_eq d.frame f) ds) (filter (λ (d : Descriptor). nat_eq d.frame f) ds)) ++ map Each (flat_map (queues_in (of_lists ds qs) f) periods)) other

pub other_chain : (s : Schedule) (k : Descriptor) (f : ℕ) → nat_eq k.frame f ≡ false → chain (with_member s (Once k)) f ≡ chain s f
other_chain s k f other = newest_first s.descriptors k s.queues f ∙ added_elsewhere s.descriptors k s.queues f other

pub new_next : (s : Schedule) (k : Descriptor) → successor (with_member s (Once k)) (Once k) k.frame ≡ first_of (chain s k.frame)
unfolding behind_the
new_next s k =
    ap (λ (ms : List Member). first_of (behind_the (Once k) ms)) (newest_first s.descriptors k s.queues k.frame ∙ added_first s.descriptors k s.queues)
    ∙ ap (λ (b : Bool). first_of (cond b (chain s k.frame) (behind_the (Once k) (chain s k.frame)))) (eq-eqb k.id k.id refl)

-- ---- those that are still to be linked

-- no two have one frame
abbrev pub FramesApart : List Member → Type 0
FramesApart [] = Unit {0}
FramesApart (x ∷ xs) = AllByRecursion (λ y. nat_eq (frame_of x) (frame_of y) ≡ false) xs × FramesApart xs

-- each is a descriptor
abbrev pub AreOnces : List Member → Type 0
AreOnces [] = Unit {0}
AreOnces (x ∷ xs) = ((k : Descriptor) × (Once k ≡ x)) × AreOnces xs

-- the link that a new member wants
abbrev pub Leads : (ℕ → ℕ) → Periodic → Member → Type 0
Leads word p x = may_link p x ≡ true → word (address_of p.list (After x)) ≡ link_to (successor (with_member p.members.schedule x) x (frame_of x))

pub leads_by : (word : ℕ → ℕ) (p : Periodic) (x : Member) → ((k : Descriptor) × (Once k ≡ x)) → LeadsOn word p x → Leads word p x
leads_by word p x k own =
    subst (λ (y : Member). LeadsOn word p y → Leads word p y) k.1 (λ on may. on ∙ ap link_to (sym (new_next p.members.schedule k.0))) own

begun_leads : (word : ℕ → ℕ) (p : Periodic) (k : Descriptor) (xs : List Member) → AllByRecursion (λ y. nat_eq k.frame (frame_of y) ≡ false) xs → AllByRecursion (LeadsOn word p) xs → AllByRecursion (LeadsOn word (linking p (Once k))) xs
begun_leads word p k [] apart on = tt
begun_leads word p k (y ∷ ys) apart on = (by (may_link p (Once k)), begun_leads word p k ys apart.1 on.1)
  where
    by : (b : Bool) → LeadsOn word (if b then inserting p (Once k) else p) y
    by true = on.0 ∙ ap (λ (ms : List Member). link_to (first_of ms)) (sym (other_chain p.members.schedule k (frame_of y) apart.0))
    by false = on.0

pub next_leads : (word : ℕ → ℕ) (q : PeriodicContent) → FramesApart q.queued → AreOnces q.queued → AllByRecursion (LeadsOn word q.list) q.queued → AllByRecursion (LeadsOn word (begun_next false q).list) (begun_next false q).queued
next_leads word q apart onces on = by (is_none q.list.work) q.queued refl apart onces on
  where
    by : (b : Bool) (ms : List Member) → q.queued ≡ ms → FramesApart ms → AreOnces ms → AllByRecursion (LeadsOn word q.list) ms → AllByRecursion (LeadsOn word (if b then with_first false q ms else q).list) (if b then with_first false q ms else q).queued
    by false ms is apart onces on = subst (AllByRecursion (LeadsOn word q.list)) (sym is) on
    by true [] is apart onces on = subst (AllByRecursion (LeadsOn word q.list)) (sym is) tt
    by true (x ∷ xs) is apart onces on =
        subst (λ (y : Member). AllByRecursion (λ z. nat_eq (frame_of y) (frame_of z) ≡ false) xs → AllByRecursion (LeadsOn word (linking q.list y)) xs) onces.0.1 (λ others. begun_leads word q.list onces.0.0 xs others on.1) apart.0
