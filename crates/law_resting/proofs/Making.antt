-- Of an unfinished command that links nothing in the frame list an event is left.
use Rattle.std.proofs.Common.{◌≡◌, ℕ, suc, ◌<◌, Bool, true, false, cond, nat_lt, [], ◌∷◌, ◌++◌, length, take, drop, set, slice_get, Option, Some, None, ap, sym, subst, ◌∙◌, refl, arith}
use Rattle.std.specs.Prelude.{is_none}
use Rattle.std.proofs.lemmas.Bool.{false≢true}
use Rattle.std.proofs.lemmas.Bool.Decides.{nat_tests}
use Rattle.std.proofs.lemmas.Option.{same_Some}
use Rattle.law_resting.proofs.Common.{unchained_command}
use Rattle.word_mem.specs.Memory.{Mem}
use Rattle.mem_runs.specs.Book.{holding, lend_taken}
use Rattle.drv_periodic_table.specs.Linking.{begun_next}
use Rattle.drv_table.specs.declared.content.Command.{Command}
use Rattle.drv_table.specs.declared.content.Command.TheVariants as unfinished
use Rattle.drv_table.specs.declared.content.Endpoint.{Endpoint}
use Rattle.drv_table.specs.declared.rows.DriverRow.{DriverRow}
use Rattle.drv_table.specs.declared.rows.DriverRow.TheVariants as rows
use Rattle.drv_table.specs.Accepting.{Offered}
use Rattle.drv_table.specs.CancelOffers.{with_cancel, endpoint_members}
use Rattle.drv_table.specs.Commands.{events_of, links, removes_members, leave_ring, no_command, finished, list_after, or_finished, linked_on, advanced_by, advance}
use Rattle.drv_table.specs.DriverContent.{DriverContent}
use Rattle.drv_table.specs.FrameChoice.{framed_notes, with_notes, placement_at, framed_by, linked_by}
use Rattle.drv_table.specs.Parts.{Parts}
use Rattle.drv_table.specs.Rows.{driver_row, after_driver_row}
use Rattle.law_driver.specs.run_owners.Accepts.{Accepts, opens, chains, places, transfers, describes, cancels, unchains}
use Rattle.law_driver.specs.run_owners.Due.{IsDue}
use Rattle.law_driver.proofs.lemmas.run_owners.Commands.{each_command_has_its_reason}
use Rattle.law_driver.proofs.lemmas.run_owners.Reasons.{each_event_is_due, stays_idle}
use Rattle.law_resting.specs.Making.{IsMaking, IsMakingAt, NewDriverIsMaking, EventsKeepMaking, CommandsKeepMaking}

-- where no command is unfinished, or it is one of the frame list
none_making : (d : DriverContent) → d.command ≡ None → IsMaking d
none_making d idle c is off = absurd (none_some (sym idle ∙ is))
  where
    none_some : ◌≡◌ {A = Option Command} None (Some c) → ⊥
    none_some w = cc

links_making : (d : DriverContent) (c : Command) → d.command ≡ Some c → links c ≡ true → IsMaking d
links_making d c is on other other_is off =
    absurd (false≢true (sym off ∙ ap links (same_Some other c (sym other_is ∙ is)) ∙ on))

left_none : (d : DriverContent) (e : ℕ) (o : Option Endpoint) → (leave_ring (no_command d) e o).command ≡ None
left_none d e None = refl
left_none d e (Some x) =
    elim x.linked as (λ (b : Bool).
    (cond b (record (no_command d) { waiting = d.waiting ++ e ∷ []; endpoints = set d.endpoints e (record x { linked = false }) })
    (no_command d)).command ≡ None) [ true ↦ refl | false ↦ refl ]

pub finished_none : (d : DriverContent) (c : Command) → (finished d c).command ≡ None
finished_none d (unfinished.Open queue) = refl
finished_none d (unfinished.Publish b words) = refl
finished_none d (unfinished.Unlink e b link) = left_none d e (slice_get d.endpoints e)
finished_none d unfinished.Chain = refl
finished_none d (unfinished.Iso e t count) = refl
finished_none d (unfinished.Unchain e) = unchained_command d e (slice_get d.endpoints e)

or_making : (d : DriverContent) (c : Command) → d.command ≡ Some c → links c ≡ true → IsMaking (or_finished d c)
or_making d c is on = at (is_none d.periodic.list.work)
  where
    at : (b : Bool) → IsMaking (cond b (finished d c) d)
    at true = none_making (finished d c) (finished_none d c)
    at false = links_making d c is on

went_on : (d : DriverContent) (o : Option Command) → d.command ≡ o → IsMaking d → IsMaking (advanced_by d o)
went_on d None is old = old
went_on d (Some c) is old = at (nat_lt (suc d.made) (length (events_of c))) (links c) refl refl
  where
    at : (b l : Bool) → nat_lt (suc d.made) (length (events_of c)) ≡ b → links c ≡ l
        → IsMaking (cond b (record d { made = suc d.made }) (cond l (linked_on d c) (finished d c)))
    at true l more on = λ other other_is off.
        subst (λ (k : Command). suc d.made < length (events_of k)) (same_Some c other (sym is ∙ other_is)) (grind (arith, nat_tests))
    at false true last on =
        or_making (record d {
          made = length (events_of c);
          periodic = begun_next (removes_members c)
              (record d.periodic { list = list_after d c });
        }) c is on
    at false false last off = none_making (finished d c) (finished_none d c)

advance_making : (d : DriverContent) → IsMaking d → IsMaking (advance d)
advance_making d old = went_on d d.command refl old

framed_making : (d : DriverContent) (n : ℕ) (o : Option Command) → IsMaking d → IsMaking (framed_by d n o)
framed_making d n (Some (unfinished.Iso e t count)) old =
    advance_making (with_notes d n (take count (drop t d.transfers)) (framed_notes d n e t count (placement_at d e))) old
framed_making d n _ old = old

due_making : (row : DriverRow) (p : Parts) → IsDue p row → IsMaking p.driver → IsMaking (after_driver_row row p).driver
due_making rows.Lend p due old = advance_making (record p.driver { book = (lend_taken (holding p.driver.book p.memory)).book }) old
due_making (rows.Store b at v) p due old = advance_making p.driver old
due_making rows.Frames p due old = framed_making p.driver p.registers.frame_index p.driver.command old
due_making rows.LendDescriptors p due old =
    advance_making (record p.driver { book = (lend_taken (holding p.driver.book (linked_by p.driver p.memory p.driver.command))).book }) old
due_making rows.Rest p due old = old
due_making row p due old = none_making (after_driver_row row p).driver (stays_idle row p due refl refl)

pub events_keep_making : EventsKeepMaking
events_keep_making p old = due_making (driver_row p) p (each_event_is_due p) old

-- ---- commands

-- nothing of it is made yet
fresh : (c : Command) → 0 < length (events_of c) → IsMakingAt (Some c) 0
fresh c some other other_is off = subst (λ (k : Command). 0 < length (events_of k)) (same_Some c other other_is) some

of_list : (c : Command) (n : ℕ) → links c ≡ true → IsMakingAt (Some c) n
of_list c n on other other_is off = absurd (false≢true (sym off ∙ ap links (sym (same_Some c other other_is)) ∙ on))

idle_at : (o : Option Command) (n : ℕ) → o ≡ None → IsMakingAt o n
idle_at o n idle c is off = absurd (none_some (sym idle ∙ is))
  where
    none_some : ◌≡◌ {A = Option Command} None (Some c) → ⊥
    none_some w = cc

accepted_making : (d : DriverContent) (m : Mem) (o : Offered) → Accepts d m o → IsMaking o.driver
accepted_making d m o (opens why) = subst (λ (f : Offered). IsMaking f.driver) (sym why.is) (fresh (unfinished.Open _) (omega arith))
accepted_making d m o (chains why) = subst (λ (f : Offered). IsMaking f.driver) (sym why.is) (of_list unfinished.Chain 0 refl)
accepted_making d m o (places why) = subst (λ (f : Offered). IsMaking f.driver) (sym why.is) (idle_at d.command d.made why.idle)
accepted_making d m o (transfers why) =
    subst (λ (f : Offered). IsMaking f.driver) (sym why.is) (fresh (unfinished.Publish _ _) (omega arith))
accepted_making d m o (describes why) =
    subst (λ (f : Offered). IsMaking f.driver) (sym why.is) (of_list (unfinished.Iso why.number (length d.transfers) why.count) 0 refl)
accepted_making d m o (cancels why) =
    subst (λ (f : Offered). IsMaking f.driver) (sym why.is) (fresh (unfinished.Unlink _ _ _) (omega arith))
accepted_making d m o (unchains why) =
    subst (λ (f : Offered). IsMaking f.driver) (sym why.is)
    (or_making (with_cancel d why.number why.endpoint (endpoint_members d why.number why.endpoint why.placement))
    (unfinished.Unchain why.number) refl refl)

pub commands_keep_making : CommandsKeepMaking
commands_keep_making d m cmd o is = accepted_making d m o (each_command_has_its_reason d m cmd o is)

pub new_driver_is_making : NewDriverIsMaking
new_driver_is_making n room c is off = absurd (cc)
