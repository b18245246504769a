-- Behind the events of an unfinished command that links or unlinks in the frame list something is under way in it.
use Rattle.std.proofs.Common.{◌≡◌, ℕ, suc, ◌+◌, ◌<◌, Bool, true, false, cond, nat_lt, List, [], ◌∷◌, ◌++◌, length, take, drop, set, slice_get, Option, Some, None, inl, inr, ap, sym, subst, ◌∙◌, refl, arith}
use Rattle.std.specs.Prelude.{is_none}
use Rattle.std.proofs.lemmas.Bool.{false≢true}
use Rattle.std.proofs.lemmas.Bool.Decides.{nat_tests}
use Rattle.std.proofs.lemmas.Option.{same_Some}
use Rattle.law_resting.proofs.Common.{no_work_is}
use Rattle.word_mem.specs.Memory.{Mem}
use Rattle.mem_runs.specs.Book.{holding, lend_taken}
use Rattle.drv_chains.specs.declared.members.Member.{Member}
use Rattle.drv_periodic.specs.declared.work.Work.{Work}
use Rattle.drv_periodic.specs.Periodic.{Periodic, begun as fresh_work, is_more, members_after, inserting, removing, after_work, after_store}
use Rattle.drv_periodic_table.specs.declared.content.Removed.TheVariants as removed
use Rattle.drv_periodic_table.specs.Linking.{may_link, may_unlink, linking, begun, with_first, begun_next}
use Rattle.drv_periodic_table.specs.Periodic.{PeriodicContent, queue_member}
use Rattle.drv_table.specs.declared.content.Command.{Command}
use Rattle.drv_table.specs.declared.content.Command.TheVariants as unfinished
use Rattle.drv_table.specs.declared.content.Endpoint.{Endpoint}
use Rattle.drv_table.specs.declared.content.Transfer.{Transfer}
use Rattle.drv_table.specs.declared.rows.DriverRow.{DriverRow}
use Rattle.drv_table.specs.declared.rows.DriverRow.TheVariants as rows
use Rattle.drv_table.specs.Accepting.{Offered}
use Rattle.drv_table.specs.CancelOffers.{with_cancel, endpoint_members}
use Rattle.drv_table.specs.Commands.{events_of, links, removes_members, leave_ring, leave_frames, no_command, removal_of, finished, list_after, or_finished, linked_on, advanced_by, advance}
use Rattle.drv_table.specs.DriverContent.{DriverContent}
use Rattle.drv_table.specs.FrameChoice.{framed_notes, with_notes, placement_at, framed_by, linked_by}
use Rattle.drv_table.specs.Parts.{Parts}
use Rattle.drv_table.specs.Removals.{descriptor_leaving, after_unlink}
use Rattle.drv_table.specs.Rows.{driver_row, after_driver_row}
use Rattle.law_driver.specs.run_owners.Accepts.{Accepts, opens, chains, places, transfers, describes, cancels, unchains}
use Rattle.law_driver.specs.run_owners.Due.{IsDue}
use Rattle.law_driver.proofs.lemmas.run_owners.Commands.{each_command_has_its_reason}
use Rattle.law_driver.proofs.lemmas.run_owners.Reasons.{each_event_is_due, stays_idle}
use Rattle.law_footprints.proofs.Fields.{list_stays}
use Rattle.law_resting.specs.Storing.{IsLeft, IsWorking, IsStoringAt, IsStoring, NewDriverIsStoring, EventsKeepStoring, CommandsKeepStoring}
use Rattle.law_resting.proofs.Making.{finished_none}

-- ---- the list

working_after : (p : Periodic) (o : Option Work) → p.work ≡ o → IsWorking (after_work p o)
working_after p None none = λ w is. absurd (no_work_is w (sym none ∙ is))
working_after p (Some v) some = at (is_more p.members.schedule v) refl
  where
    at : (b : Bool) → is_more p.members.schedule v ≡ b
        → IsWorking (cond b (record p { work = Some (record v { made = v.made + 1 }) })
        (record { list = p.list; members = members_after p.members v; work = None }))
    at true more = λ w is.
        subst (IsLeft p.members.schedule) (same_Some (record v { made = v.made + 1 }) w is) (inr (grind (arith, nat_tests)))
    at false last = λ w is. absurd (no_work_is w is)

begun_working : (removes : Bool) (p : Periodic) (m : Member) → IsWorking p → IsWorking (begun removes p m)
begun_working true p m old = at (may_unlink p m)
  where
    at : (b : Bool) → IsWorking (cond b (removing p m) p)
    at true = λ w is. subst (IsLeft p.members.schedule) (same_Some (fresh_work m true) w is) (inl refl)
    at false = old
begun_working false p m old = at (may_link p m)
  where
    at : (b : Bool) → IsWorking (cond b (inserting p m) p)
    at true = λ w is. subst (IsLeft (inserting p m).members.schedule) (same_Some (fresh_work m false) w is) (inl refl)
    at false = old

first_working : (removes : Bool) (q : PeriodicContent) (ms : List Member) → IsWorking q.list → IsWorking (with_first removes q ms).list
first_working removes q [] old = old
first_working removes q (m ∷ ms) old = begun_working removes q.list m old

next_working : (removes : Bool) (q : PeriodicContent) → IsWorking q.list → IsWorking (begun_next removes q).list
next_working removes q old = at (is_none q.list.work)
  where
    at : (b : Bool) → IsWorking (cond b (with_first removes q q.queued) q).list
    at true = first_working removes q q.queued old
    at false = old

list_working : (d : DriverContent) (c : Command) → IsWorking d.periodic.list → IsWorking (list_after d c)
list_working d c old = at (nat_lt d.made (length (events_of c)))
  where
    at : (b : Bool) → IsWorking (cond b d.periodic.list (after_store d.periodic.list))
    at true = old
    at false = working_after d.periodic.list d.periodic.list.work refl

-- ---- the end of a command

left_list : (d : DriverContent) (e : ℕ) (o : Option Endpoint) → (leave_ring (no_command d) e o).periodic.list ≡ d.periodic.list
left_list d e None = refl
left_list d e (Some x) =
    elim x.linked as (λ (b : Bool).
    (cond b (record (no_command d) { waiting = d.waiting ++ e ∷ []; endpoints = set d.endpoints e (record x { linked = false }) })
    (no_command d)).periodic.list ≡ d.periodic.list) [ true ↦ refl | false ↦ refl ]

frames_list : (d : DriverContent) (e : ℕ) (o : Option Endpoint) → (leave_frames (no_command d) e o).periodic.list ≡ d.periodic.list
frames_list d e None = refl
frames_list d e (Some x) =
    elim x.chained as (λ (b : Bool).
    (cond b (record (no_command d) {
      endpoints = set d.endpoints e (record x { chained = false });
      periodic = record d.periodic
          { removals = d.periodic.removals ++ removal_of (removed.Endpoint e) ∷ [] };
    }) (no_command d)).periodic.list ≡ d.periodic.list)
    [ true ↦ refl | false ↦ refl ]

finished_list : (d : DriverContent) (c : Command) → (finished d c).periodic.list ≡ d.periodic.list
finished_list d (unfinished.Open queue) = refl
finished_list d (unfinished.Publish b words) = refl
finished_list d (unfinished.Unlink e b link) = left_list d e (slice_get d.endpoints e)
finished_list d unfinished.Chain = refl
finished_list d (unfinished.Iso e t count) = refl
finished_list d (unfinished.Unchain e) = frames_list d e (slice_get d.endpoints e)

none_storing : (o : Option Command) (n : ℕ) (p : Periodic) → o ≡ None → IsWorking p → IsStoringAt o n p
none_storing o n p idle stores = (λ c is on. absurd (none_some c (sym idle ∙ is)), stores)
  where
    none_some : (c : Command) → ◌≡◌ {A = Option Command} None (Some c) → ⊥
    none_some c w = cc

finished_storing : (d : DriverContent) (c : Command) → IsWorking d.periodic.list → IsStoring (finished d c)
finished_storing d c stores =
    none_storing (finished d c).command (finished d c).made (finished d c).periodic.list (finished_none d c)
    (subst IsWorking (sym (finished_list d c)) stores)

or_storing : (d : DriverContent) (c : Command) → IsWorking d.periodic.list → IsStoring (or_finished d c)
or_storing d c stores = at (is_none d.periodic.list.work) refl
  where
    at : (b : Bool) → is_none d.periodic.list.work ≡ b → IsStoring (cond b (finished d c) d)
    at true none = finished_storing d c stores
    at false some = (λ other is on. inr some, stores)

-- ---- rows

went_on : (d : DriverContent) (o : Option Command) → d.command ≡ o → IsStoring d → IsStoring (advanced_by d o)
went_on d None is old = old
went_on d (Some c) is old = at (nat_lt (suc d.made) (length (events_of c))) (links c) refl
  where
    at : (b l : Bool) → nat_lt (suc d.made) (length (events_of c)) ≡ b
        → IsStoring (cond b (record d { made = suc d.made }) (cond l (linked_on d c) (finished d c)))
    at true l more = (
      λ other other_is on.
          inl (subst (λ (k : Command). suc d.made < length (events_of k)) (same_Some c other (sym is ∙ other_is))
          (grind (arith, nat_tests))),
      old.1,
    )
    at false true last =
        or_storing (record d {
          made = length (events_of c);
          periodic = begun_next (removes_members c)
              (record d.periodic { list = list_after d c });
        }) c (next_working (removes_members c) (record d.periodic { list = list_after d c }) (list_working d c old.1))
    at false false last = finished_storing d c old.1

advance_storing : (d : DriverContent) → IsStoring d → IsStoring (advance d)
advance_storing d old = went_on d d.command refl old

framed_storing : (d : DriverContent) (n : ℕ) (o : Option Command) → IsStoring d → IsStoring (framed_by d n o)
framed_storing d n (Some (unfinished.Iso e t count)) old =
    advance_storing (with_notes d n (take count (drop t d.transfers)) (framed_notes d n e t count (placement_at d e))) old
framed_storing d n _ old = old

unlink_storing : (p : Parts) (t : ℕ) (o : Option Transfer) → p.driver.command ≡ None → IsStoring p.driver
    → IsStoring (after_unlink p t o).driver
unlink_storing p t None idle old = old
unlink_storing p t (Some x) idle old =
    none_storing p.driver.command p.driver.made (after_store (descriptor_leaving p.driver x)) idle
    (working_after (descriptor_leaving p.driver x) (descriptor_leaving p.driver x).work refl)

due_storing : (row : DriverRow) (p : Parts) → IsDue p row → IsStoring p.driver → IsStoring (after_driver_row row p).driver
due_storing rows.Lend p due old = advance_storing (record p.driver { book = (lend_taken (holding p.driver.book p.memory)).book }) old
due_storing (rows.Store b at v) p due old = advance_storing p.driver old
due_storing rows.Frames p due old = framed_storing p.driver p.registers.frame_index p.driver.command old
due_storing rows.LendDescriptors p due old =
    advance_storing (record p.driver { book = (lend_taken (holding p.driver.book (linked_by p.driver p.memory p.driver.command))).book })
    old
due_storing (rows.Unlink t) p due old = unlink_storing p t (slice_get p.driver.transfers t) due.idle old
due_storing rows.Rest p due old = old
due_storing row p due old =
    none_storing (after_driver_row row p).driver.command (after_driver_row row p).driver.made (after_driver_row row p).driver.periodic.list
    (stays_idle row p due refl refl) (subst IsWorking (sym (list_stays row p p.driver.command refl refl)) old.1)

pub events_keep_storing : EventsKeepStoring
events_keep_storing p old = due_storing (driver_row p) p (each_event_is_due p) old

-- ---- commands

off_list : (c : Command) (n : ℕ) (p : Periodic) → links c ≡ false → IsWorking p → IsStoringAt (Some c) n p
off_list c n p off stores =
    (λ other other_is on. absurd (false≢true (sym off ∙ ap links (same_Some c other other_is) ∙ on)), stores)

-- nothing of it is made yet
fresh : (c : Command) (p : Periodic) → 0 < length (events_of c) → IsWorking p → IsStoringAt (Some c) 0 p
fresh c p some stores =
    (λ other other_is on. inl (subst (λ (k : Command). 0 < length (events_of k)) (same_Some c other other_is) some), stores)

accepted_storing : (d : DriverContent) (m : Mem) (o : Offered) → IsStoring d → Accepts d m o → IsStoring o.driver
accepted_storing d m o old (opens why) =
    subst (λ (f : Offered). IsStoring f.driver) (sym why.is) (off_list (unfinished.Open _) 0 d.periodic.list refl old.1)
accepted_storing d m o old (chains why) =
    subst (λ (f : Offered). IsStoring f.driver) (sym why.is)
    (fresh unfinished.Chain (linking d.periodic.list (queue_member _ why.placement)) (omega arith)
    (begun_working false d.periodic.list (queue_member _ why.placement) old.1))
accepted_storing d m o old (places why) =
    subst (λ (f : Offered). IsStoring f.driver) (sym why.is) (none_storing d.command d.made d.periodic.list why.idle old.1)
accepted_storing d m o old (transfers why) =
    subst (λ (f : Offered). IsStoring f.driver) (sym why.is) (off_list (unfinished.Publish _ _) 0 d.periodic.list refl old.1)
accepted_storing d m o old (describes why) =
    subst (λ (f : Offered). IsStoring f.driver) (sym why.is)
    (fresh (unfinished.Iso why.number (length d.transfers) why.count) d.periodic.list (omega arith) old.1)
accepted_storing d m o old (cancels why) =
    subst (λ (f : Offered). IsStoring f.driver) (sym why.is) (off_list (unfinished.Unlink _ _ _) 0 d.periodic.list refl old.1)
accepted_storing d m o old (unchains why) =
    subst (λ (f : Offered). IsStoring f.driver) (sym why.is)
    (or_storing (with_cancel d why.number why.endpoint (endpoint_members d why.number why.endpoint why.placement))
    (unfinished.Unchain why.number)
    (next_working true (record d.periodic { queued = endpoint_members d why.number why.endpoint why.placement }) old.1))

pub commands_keep_storing : CommandsKeepStoring
commands_keep_storing d m cmd o old is = accepted_storing d m o old (each_command_has_its_reason d m cmd o is)

pub a_new_driver_is_storing : NewDriverIsStoring
a_new_driver_is_storing n room = (λ c is on. absurd (none_some c is), λ w is. absurd (no_work_is w is))
  where
    none_some : (c : Command) → ◌≡◌ {A = Option Command} None (Some c) → ⊥
    none_some c w = cc
