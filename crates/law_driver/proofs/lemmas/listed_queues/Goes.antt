-- The unfinished command goes on.
use Rattle.std.proofs.Common.{◌≡◌, ◌≢◌, ℕ, suc, ◌≤◌, Bool, true, false, not, ◌&&◌, cond, nat_lt, nat_eq, List, [], ◌∷◌, length, filter, slice_get, Option, Some, ap, sym, subst, ◌∙◌, ⊎_elim, refl, arith}
use Rattle.std.specs.Prelude.{is_none}
use Rattle.std.specs.List.{AllByRecursion, list_any}
use Rattle.std.proofs.lemmas.Bool.{cases_Bool, eqb-true, and_parts}
use Rattle.std.proofs.lemmas.List.Filters.{length-filter_both}
use Rattle.law_common.proofs.Lists.{all_more}
use Rattle.law_driver.proofs.Common.{same_endpoint}
use Rattle.bandwidth.specs.declared.placements.Placement.{Placement}
use Rattle.drv_chains.specs.declared.members.Descriptor.{Descriptor}
use Rattle.drv_chains.specs.declared.members.QueueHead.{QueueHead as Queue}
use Rattle.drv_chains.specs.declared.members.Member.{Member}
use Rattle.drv_chains.specs.declared.members.Member.TheVariants.{Once, Each}
use Rattle.drv_members.specs.Ranks.{is_named}
use Rattle.drv_members.specs.Members.{Members, is_this, without_member}
use Rattle.drv_periodic.specs.Periodic.{Periodic, inserting, removing, is_more, after_store}
use Rattle.drv_periodic_table.specs.Periodic.{PeriodicContent, queue_name, queue_member}
use Rattle.drv_periodic_table.specs.Linking.{may_link, linking, may_unlink, unlinking, with_first, begun_next}
use Rattle.drv_table.specs.declared.content.Endpoint.{Endpoint}
use Rattle.drv_table.specs.declared.content.Command.{Command}
use Rattle.drv_table.specs.declared.content.Command.TheVariants as unfinished
use Rattle.drv_table.specs.DriverContent.{DriverContent}
use Rattle.drv_table.specs.Commands.{no_command, finished, list_after, or_finished, linked_on, advanced_by}
use Rattle.claims_driver.specs.FrameListMembers.{Framed, framed_in, is_chained}
use Rattle.law_driver.specs.listed_members.Members.{Links, IsWaitingOf, IsDescribing, IsUnchaining, IsUnderWay, IsListed}
use Rattle.law_driver.specs.listed_queues.Queues.{queue_of, is_in_queues, HasQueues}
use Rattle.law_driver.proofs.lemmas.listed_members.Schedules.{any_left, name_differs}
use Rattle.law_driver.proofs.lemmas.listed_members.Standing.{Owns}
use Rattle.law_driver.proofs.lemmas.listed_members.Stores.{KeepsMembers, list_kept, begun_none}
use Rattle.law_driver.proofs.lemmas.listed_members.Calm.{is_calm, goes_quiet}
use Rattle.law_driver.proofs.lemmas.listed_members.Leaving.{last_store, next_made, not_before, store_is}
use Rattle.law_driver.proofs.lemmas.listed_queues.Same.{SameQueues, same_queues, quiet_same, HasOthers, others, left_queues}

-- the queue heads of the list stay
pub record KeepsHeads (p q : Periodic) : Type 0 where
  pub queues : q.members.schedule.queues ≡ p.members.schedule.queues
  pub most : q.members.queue_room ≡ p.members.queue_room

pub heads : (p : Periodic) → KeepsHeads p p
heads p = record { queues = refl; most = refl }

pub kept_heads : (p q : Periodic) → KeepsMembers p q → KeepsHeads p q
kept_heads p q k = record { queues = ap (λ (m : Members). m.schedule.queues) k.members; most = ap (λ (m : Members). m.queue_room) k.members }

pub both_heads : (p q r : Periodic) → KeepsHeads p q → KeepsHeads q r → KeepsHeads p r
both_heads p q r one two = record { queues = two.queues ∙ one.queues; most = two.most ∙ one.most }

-- a descriptor is begun
once_begun : (p : Periodic) (k : Descriptor) → KeepsHeads p (linking p (Once k))
once_begun p k = at (may_link p (Once k))
  where
    at : (b : Bool) → KeepsHeads p (cond b (inserting p (Once k)) p)
    at true = record { queues = refl; most = refl }
    at false = heads p

pub away_begun : (p : Periodic) (m : Member) → KeepsHeads p (unlinking p m)
away_begun p m = at (may_unlink p m)
  where
    at : (b : Bool) → KeepsHeads p (cond b (removing p m) p)
    at true = record { queues = refl; most = refl }
    at false = heads p

abbrev pub AreDescriptors : List Member → Type 0
AreDescriptors ms = AllByRecursion (λ (m : Member). (k : Descriptor) × (m ≡ Once k)) ms

pub next_linked : (q : PeriodicContent) → AreDescriptors q.queued → KeepsHeads q.list (begun_next false q).list
next_linked q all = at (is_none q.list.work)
  where
    first : (ms : List Member) → AreDescriptors ms → KeepsHeads q.list (with_first false q ms).list
    first [] all = heads q.list
    first (m ∷ ms) all = subst (λ (r : Member). KeepsHeads q.list (linking q.list r)) (sym all.0.1) (once_begun q.list all.0.0)

    at : (b : Bool) → KeepsHeads q.list (cond b (with_first false q q.queued) q).list
    at true = first q.queued all
    at false = heads q.list

pub next_unlinked : (q : PeriodicContent) → KeepsHeads q.list (begun_next true q).list
next_unlinked q = at (is_none q.list.work)
  where
    first : (ms : List Member) → KeepsHeads q.list (with_first true q ms).list
    first [] = heads q.list
    first (m ∷ ms) = away_begun q.list m

    at : (b : Bool) → KeepsHeads q.list (cond b (with_first true q q.queued) q).list
    at true = first q.queued
    at false = heads q.list

pub either_same : (d x y : DriverContent) (b : Bool) → SameQueues d x → SameQueues d y → SameQueues d (cond b x y)
either_same d x y true one two = one
either_same d x y false one two = two

with_list : (d : DriverContent) (n : ℕ) (q : PeriodicContent) → KeepsHeads d.periodic.list q.list → SameQueues d (record d { made = n; periodic = q })
with_list d n q k = record { queues = k.queues; most = k.most; framed = λ i. refl; many = refl; room = refl; goes = λ i is. is }

without_command : (d : DriverContent) (n : ℕ) (q : PeriodicContent) → KeepsHeads d.periodic.list q.list → SameQueues d (no_command (record d { made = n; periodic = q }))
without_command d n q k = record { queues = k.queues; most = k.most; framed = λ i. refl; many = refl; room = refl; goes = λ i is. absurd (cc) }

-- ---- linking

chain_same : (d : DriverContent) → d.command ≡ Some unfinished.Chain → IsListed d → SameQueues d (advanced_by d (Some unfinished.Chain))
chain_same d is old = at (nat_lt (suc d.made) 1)
  where
    way : Links d.periodic × (d.periodic.queued ≡ [])
    way = subst (λ (c : Option Command). IsUnderWay d c) is old.way

    q : PeriodicContent
    q = record d.periodic { list = list_after d unfinished.Chain }

    keeps : KeepsHeads d.periodic.list (begun_next false q).list
    keeps =
        both_heads d.periodic.list q.list (begun_next false q).list (kept_heads d.periodic.list q.list (list_kept d unfinished.Chain way.0))
        (next_linked q (subst AreDescriptors (sym way.1) tt))

    at : (b : Bool) → SameQueues d (cond b (record d { made = suc d.made }) (linked_on d unfinished.Chain))
    at true = with_list d (suc d.made) d.periodic (heads d.periodic.list)
    at false =
        let g = record d { made = 1; periodic = begun_next false q } in
        either_same d (no_command g) g (is_none (begun_next false q).list.work) (without_command d 1 (begun_next false q) keeps) (with_list d 1 (begun_next false q) keeps)

iso_same : (d : DriverContent) (e first count : ℕ) → d.command ≡ Some (unfinished.Iso e first count) → IsListed d → SameQueues d (advanced_by d (Some (unfinished.Iso e first count)))
iso_same d e first count is old = at (nat_lt (suc d.made) 2)
  where
    c : Command
    c = unfinished.Iso e first count

    way : IsDescribing d e first count
    way = subst (λ (c : Option Command). IsUnderWay d c) is old.way

    q : PeriodicContent
    q = record d.periodic { list = list_after d c }

    once : AreDescriptors d.periodic.queued
    once = all_more (IsWaitingOf d e first) (λ (m : Member). (k : Descriptor) × (m ≡ Once k)) d.periodic.queued (λ m w. (_, sym w.is)) way.members

    keeps : KeepsHeads d.periodic.list (begun_next false q).list
    keeps = both_heads d.periodic.list q.list (begun_next false q).list (kept_heads d.periodic.list q.list (list_kept d c way.links)) (next_linked q once)

    at : (b : Bool) → SameQueues d (cond b (record d { made = suc d.made }) (linked_on d c))
    at true = with_list d (suc d.made) d.periodic (heads d.periodic.list)
    at false =
        let g = record d { made = 2; periodic = begun_next false q } in
        either_same d (no_command g) g (is_none (begun_next false q).list.work) (without_command d 2 (begun_next false q) keeps) (with_list d 2 (begun_next false q) keeps)

-- ---- unlinking

pub done_queues : (g : DriverContent) (e : ℕ) (z : Endpoint) → slice_get g.endpoints e ≡ Some z → HasQueues g → HasQueues (or_finished g (unfinished.Unchain e))
done_queues g e z here old = at (is_none g.periodic.list.work)
  where
    at : (b : Bool) → HasQueues (cond b (finished g (unfinished.Unchain e)) g)
    at true = left_queues g e z here (others g e old)
    at false = old

fewer : {X : Type 0} (f : X → Bool) (xs : List X) → length (filter f xs) ≤ length xs
fewer f xs = let b = length-filter_both f (λ x. not (f x)) (λ x. refl) xs in omega (arith, b)

this_id : (k y : Queue) → is_this k y ≡ true → nat_eq y.id k.id ≡ true
this_id k y on = (and_parts (nat_eq y.id k.id) (nat_eq y.period k.period && nat_eq y.phase k.phase) on).0

queue_gone : (d : DriverContent) (e : ℕ) → Owns d → d.command ≡ Some (unfinished.Unchain e) → (way : IsUnchaining d e) → way.framed.isochronous ≡ false → HasQueues d → HasQueues (or_finished (record d { made = 0; periodic = begun_next true (record d.periodic { list = last_store d way.work }) }) (unfinished.Unchain e))
queue_gone d e owns is way iso old =
    subst (λ (p : PeriodicContent). HasQueues (or_finished (record d { made = 0; periodic = p }) (unfinished.Unchain e))) (sym (begun_none true g.periodic none_queued)) (left_queues g e way.endpoint way.here left)
  where
    q : PeriodicContent
    q = d.periodic

    x : Framed
    x = way.framed

    leaving : (p : Placement) × ((x.placement ≡ Some p) × (way.work.member ∷ q.queued ≡ queue_member x.queue p ∷ []))
    leaving = way.leaving.queue iso

    r : Queue
    r = record { id = queue_name x.queue; period = leaving.0.period; phase = leaving.0.phase }

    head_is : way.work.member ≡ Each r
    head_is = let e : way.work.member ∷ q.queued ≡ Each r ∷ [] = leaving.1.1 in cc

    none_queued : q.queued ≡ []
    none_queued = let e : way.work.member ∷ q.queued ≡ Each r ∷ [] = leaving.1.1 in cc

    g : DriverContent
    g = record d { made = 0; periodic = record q { list = last_store d way.work } }

    chained : x.chained ≡ true
    chained = ap is_chained (sym way.at) ∙ old.leaving e is

    -- no other endpoint's queue head has its name
    apart : (i : ℕ) (w : Framed) → i ≢ e → framed_in d.endpoints i ≡ Some w → w.chained ≡ true → w.isochronous ≡ false → queue_name w.queue ≢ queue_name x.queue
    apart i w differs here on queued same =
        let blocks : w.queue ≡ x.queue = omega (arith, same) in
        differs (same_endpoint i e (sym (owns.queues i w here on queued) ∙ ap owns.owner blocks ∙ owns.queues e x way.at chained iso))

    there : (i : ℕ) (w : Framed) (p : Placement) → i ≢ e → framed_in d.endpoints i ≡ Some w → w.chained ≡ true → w.isochronous ≡ false → w.placement ≡ Some p → list_any (is_this (queue_of w p)) (filter (λ y. not (is_named r.id y)) q.list.members.schedule.queues) ≡ true
    there i w p differs here on queued placed =
        any_left (is_this (queue_of w p)) (is_named r.id) q.list.members.schedule.queues
        (λ y this. name_differs y.id r.id (λ same. apart i w differs here on queued (sym (named y this) ∙ same))) (old.each i w p here on queued placed)
      where
        named : (y : Queue) → is_this (queue_of w p) y ≡ true → y.id ≡ queue_name w.queue
        named y this = eqb-true y.id (queue_name w.queue) (this_id (queue_of w p) y this)

    left : HasOthers g e
    left = record {
      each = λ i w p differs here on queued placed. subst (λ (m : Member). is_in_queues (without_member q.list.members.schedule m) w p ≡ true) (sym head_is) (there i w p differs here on queued placed);
      many =
          let n : length (without_member q.list.members.schedule way.work.member).queues ≤ length q.list.members.schedule.queues =
          subst (λ (m : Member). length (without_member q.list.members.schedule m).queues ≤ length q.list.members.schedule.queues) (sym head_is) (fewer (λ y. not (is_named r.id y)) q.list.members.schedule.queues) in
          omega (arith, n, old.many);
      room = old.room;
    }

unchain_queues : (d : DriverContent) (e : ℕ) → Owns d → d.command ≡ Some (unfinished.Unchain e) → IsListed d → HasQueues d → HasQueues (advanced_by d (Some (unfinished.Unchain e)))
unchain_queues d e owns is listed old =
    subst (λ b. HasQueues (cond b (record d { made = suc d.made }) (linked_on d c))) (sym (not_before (suc d.made)))
    (subst (λ b. HasQueues (goes (cond b d.periodic.list (after_store d.periodic.list)))) (sym (not_before d.made))
    (subst (λ (l : Periodic). HasQueues (goes l)) (sym (store_is d way.work way.begun way.removes)) (by (is_more d.periodic.list.members.schedule way.work))))
  where
    c : Command
    c = unfinished.Unchain e

    way : IsUnchaining d e
    way = subst (λ (o : Option Command). IsUnderWay d o) is listed.way

    goes : Periodic → DriverContent
    goes l = or_finished (record d { made = 0; periodic = begun_next true (record d.periodic { list = l }) }) c

    stays : (l : Periodic) → KeepsHeads d.periodic.list l → HasQueues (goes l)
    stays l keeps =
        let q : PeriodicContent = record d.periodic { list = l } in
        let p = begun_next true q in
        done_queues (record d { made = 0; periodic = p }) e way.endpoint way.here
        (same_queues d (record d { made = 0; periodic = p }) (with_list d 0 p (both_heads d.periodic.list l p.list keeps (next_unlinked q))) old)

    iso_last : way.framed.isochronous ≡ true → KeepsHeads d.periodic.list (last_store d way.work)
    iso_last iso =
        let w = (way.leaving.descriptors iso).0.0 in
        subst (λ (m : Member). KeepsHeads d.periodic.list (last_store d (record way.work { member = m }))) w.is (record { queues = refl; most = refl })

    by : (b : Bool) → HasQueues (goes (cond b (next_made d way.work) (last_store d way.work)))
    by true = stays (next_made d way.work) (record { queues = refl; most = refl })
    by false =
        ⊎_elim (λ (iso : way.framed.isochronous ≡ true). stays (last_store d way.work) (iso_last iso)) (λ (queue : way.framed.isochronous ≡ false). queue_gone d e owns is way queue old)
        (cases_Bool way.framed.isochronous)

-- ---- any command

pub command_queues : (d : DriverContent) (c : Command) → d.command ≡ Some c → Owns d → IsListed d → HasQueues d → HasQueues (advanced_by d (Some c))
command_queues d (unfinished.Open queue) is own listed old = same_queues d _ (quiet_same d _ (goes_quiet d (unfinished.Open queue) refl) (ap is_calm is)) old
command_queues d (unfinished.Publish b words) is own listed old = same_queues d _ (quiet_same d _ (goes_quiet d (unfinished.Publish b words) refl) (ap is_calm is)) old
command_queues d (unfinished.Unlink e b link) is own listed old = same_queues d _ (quiet_same d _ (goes_quiet d (unfinished.Unlink e b link) refl) (ap is_calm is)) old
command_queues d unfinished.Chain is own listed old = same_queues d _ (chain_same d is listed) old
command_queues d (unfinished.Iso e first count) is own listed old = same_queues d _ (iso_same d e first count is listed) old
command_queues d (unfinished.Unchain e) is own listed old = unchain_queues d e own is listed old
