-- The list stays in order, and what is under way has its member in it.
use Rattle.std.proofs.Common.{◌≡◌, ℕ, ◌+◌, Bool, true, false, [], ◌∷◌, Some, None, Option, if◌then◌else◌, refl}
use Rattle.std.specs.Prelude.{filter, not}
use Rattle.std.specs.List.{list_any}
use Rattle.law_common.proofs.Booleans.{left_or}
use Rattle.law_frame_words.proofs.Common.{that_itself, this_itself}
use Rattle.drv_chains.specs.declared.members.Member.{Member}
use Rattle.drv_chains.specs.declared.members.Member.TheVariants.{Once, Each}
use Rattle.drv_chains.specs.Chains.{Schedule, has_name, id_of}
use Rattle.drv_members.specs.Ranks.{rank_of}
use Rattle.drv_members.specs.Members.{Members, IsKept, IsMember, is_this, is_that, is_linked, is_up_to, is_below, with_member, without_member, with_schedule}
use Rattle.drv_members.proofs.Keeping.{keeps_with, keeps_without, kept_at_first}
use Rattle.drv_periodic.specs.declared.work.Work.{Work}
use Rattle.drv_periodic.specs.Periodic.{Periodic, new_list, is_more, inserting, removing, members_after, after_work, after_store}
use Rattle.claims_driver.specs.FrameWords.{HasMember, IsInOrder}
use Rattle.law_frame_words.proofs.lemmas.frame_words.Begins.{any_right}

new_linked : (s : Schedule) (m : Member) → is_linked (with_member s m) m ≡ true
new_linked s (Once d) = any_right (is_that d) (filter (is_below d.frame) s.descriptors) (d ∷ filter (λ x. not (is_below d.frame x)) s.descriptors) (left_or (is_that d d) (list_any (is_that d) (filter (λ x. not (is_below d.frame x)) s.descriptors)) (that_itself d))
new_linked s (Each q) = any_right (is_this q) (filter (is_up_to (rank_of q)) s.queues) (q ∷ filter (λ x. not (is_up_to (rank_of q) x)) s.queues) (left_or (is_this q q) (list_any (is_this q) (filter (λ x. not (is_up_to (rank_of q) x)) s.queues)) (this_itself q))

pub empty_in_order : (list q d : ℕ) → IsInOrder (new_list list q d)
empty_in_order list q d = record { kept = kept_at_first [] [] refl refl; member = tt }

pub insert_in_order : (p : Periodic) (m : Member) → IsInOrder p → IsMember m → has_name p.members.schedule (id_of m) ≡ false → IsInOrder (inserting p m)
insert_in_order p m o i n = record { kept = keeps_with p.members.schedule m o.kept i n; member = (i, new_linked p.members.schedule m) }

pub remove_in_order : (p : Periodic) (m : Member) → IsInOrder p → IsMember m → is_linked p.members.schedule m ≡ true → IsInOrder (removing p m)
remove_in_order p m o i h = record { kept = o.kept; member = (i, h) }

kept_after : (m : Members) (w : Work) (b : Bool) → IsKept m.schedule → IsKept (if b then with_schedule m (without_member m.schedule w.member) else m).schedule
kept_after m w true k = keeps_without m.schedule w.member k
kept_after m w false k = k

by_more : (list : ℕ) (m : Members) (w : Work) (b : Bool) → IsKept m.schedule → HasMember m.schedule (Some w)
    → IsInOrder (if b then record { list = list; members = m; work = Some (record w { made = w.made + 1 }) } else record { list = list; members = members_after m w; work = None })
by_more list m w true k h = record { kept = k; member = h }
by_more list m w false k h = record { kept = kept_after m w w.removes k; member = tt }

by_work : (list : ℕ) (m : Members) (o : Option Work) → IsKept m.schedule → HasMember m.schedule o → IsInOrder (after_work (record { list = list; members = m; work = o }) o)
by_work list m None k h = record { kept = k; member = h }
by_work list m (Some w) k h = by_more list m w (is_more m.schedule w) k h

pub store_in_order : (p : Periodic) → IsInOrder p → IsInOrder (after_store p)
store_in_order p o = by_work p.list p.members p.work o.kept o.member
