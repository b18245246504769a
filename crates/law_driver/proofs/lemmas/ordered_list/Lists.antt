-- What a list that is in order is left as, where a member is linked or unlinked.
use Rattle.std.proofs.Common.{◌≡◌, ◌+◌, Bool, true, false, List, [], ◌∷◌, Option, Some, None, refl}
use Rattle.std.specs.Prelude.{is_none, not, ◌&&◌}
use Rattle.std.proofs.lemmas.Bool.{and_parts}
use Rattle.law_common.proofs.Booleans.{not_on, either_if}
use Rattle.law_driver.proofs.Common.{is_one}
use Rattle.drv_chains.specs.declared.members.Member.{Member}
use Rattle.drv_chains.specs.Chains.{has_name, id_of}
use Rattle.drv_members.specs.Members.{IsKept, is_member, has_room, takes}
use Rattle.drv_members.proofs.Keeping.{keeps_with, keeps_without}
use Rattle.drv_periodic.specs.declared.work.Work.{Work}
use Rattle.drv_periodic.specs.Periodic.{Periodic, inserting, removing, is_more, members_after, after_work, after_store}
use Rattle.drv_periodic_table.specs.Periodic.{PeriodicContent}
use Rattle.drv_periodic_table.specs.Linking.{may_link, may_unlink, linking, unlinking, begun, with_first, begun_next}

abbrev pub Ordered : Periodic → Type 0
Ordered p = IsKept p.members.schedule

pub linking_kept : (p : Periodic) (m : Member) → Ordered p → Ordered (linking p m)
linking_kept p m h =
    either_if Ordered (may_link p m) (inserting p m) p
    (λ e.
    let test = (and_parts (is_none p.work) (takes p.members m) e).1 in
    let one = and_parts (is_member m) (not (has_name p.members.schedule (id_of m)) && has_room p.members m) test in
    let new = and_parts (not (has_name p.members.schedule (id_of m))) (has_room p.members m) one.1 in
    keeps_with p.members.schedule m h (is_one m one.0) (not_on (has_name p.members.schedule (id_of m)) new.0))
    (λ e. h)

pub unlinking_kept : (p : Periodic) (m : Member) → Ordered p → Ordered (unlinking p m)
unlinking_kept p m h = either_if Ordered (may_unlink p m) (removing p m) p (λ e. h) (λ e. h)

done_kept : (b : Bool) (p : Periodic) (w : Work) → w.removes ≡ b → Ordered p → IsKept (members_after p.members w).schedule
done_kept true p w e h = rw e (keeps_without p.members.schedule w.member h)
done_kept false p w e h = rw e h

work_kept : (p : Periodic) (w : Option Work) → Ordered p → Ordered (after_work p w)
work_kept p None h = h
work_kept p (Some w) h =
    either_if Ordered (is_more p.members.schedule w) (record p { work = Some (record w { made = w.made + 1 }) })
    (record { list = p.list; members = members_after p.members w; work = None })
    (λ e. h) (λ e. done_kept w.removes p w refl h)

pub store_kept : (p : Periodic) → Ordered p → Ordered (after_store p)
store_kept p h = work_kept p p.work h

begun_kept : (removes : Bool) (p : Periodic) (m : Member) → Ordered p → Ordered (begun removes p m)
begun_kept true p m h = unlinking_kept p m h
begun_kept false p m h = linking_kept p m h

first_kept : (removes : Bool) (q : PeriodicContent) (ms : List Member) → Ordered q.list → Ordered (with_first removes q ms).list
first_kept removes q [] h = h
first_kept removes q (m ∷ ms) h = begun_kept removes q.list m h

pub next_kept : (removes : Bool) (q : PeriodicContent) → Ordered q.list → Ordered (begun_next removes q).list
next_kept removes q h =
    either_if (λ (x : PeriodicContent). Ordered x.list) (is_none q.list.work) (with_first removes q q.queued) q
    (λ e. first_kept removes q q.queued h) (λ e. h)
