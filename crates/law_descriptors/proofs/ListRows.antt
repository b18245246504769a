-- A command's stores of the frame list, beside both walks.
use Rattle.std.proofs.Common.{◌≡◌, ℕ, suc, Bool, true, false, inr, List, [], ◌∷◌, length, slice_get, Option, Some, None, ap, refl, sym, subst, ◌∙◌}
use Rattle.std.specs.Prelude.{is_none, not, ◌&&◌, nat_lt}
use Rattle.std.proofs.lemmas.Bool.{and_parts}
use Rattle.law_common.proofs.Booleans.{not_on, either_if}
use Rattle.law_driver.proofs.Common.{no_work}
use Rattle.word_mem.specs.Memory.{Mem, IsShaped, with_word}
use Rattle.mem_runs.specs.Book.{Book, holding, store, Stands}
use Rattle.drv_chains.specs.declared.members.Member.{Member}
use Rattle.drv_chains.specs.Chains.{has_name, id_of}
use Rattle.drv_members.specs.Members.{IsKept, is_member, is_linked, has_room, takes}
use Rattle.claims_driver.specs.FrameWords.{IsInOrder, ListStands}
use Rattle.law_frame_words.proofs.lemmas.frame_words.Begins.{out_again}
use Rattle.law_frame_words.proofs.lemmas.frame_words.Order.{store_in_order}
use Rattle.drv_periodic.specs.declared.work.Store.{Store}
use Rattle.drv_periodic.specs.Periodic.{Periodic, inserting, removing, after_store}
use Rattle.drv_periodic_table.specs.Periodic.{PeriodicContent}
use Rattle.drv_periodic_table.specs.Linking.{may_link, may_unlink, linking, unlinking, begun, with_first, begun_next}
use Rattle.drv_table.specs.declared.content.Endpoint.{Endpoint}
use Rattle.drv_table.specs.declared.content.Command.{Command}
use Rattle.drv_table.specs.declared.content.Command.TheVariants as unfinished
use Rattle.drv_table.specs.declared.rows.DriverRow.{DriverRow}
use Rattle.drv_table.specs.declared.rows.DriverRow.TheVariants as rows
use Rattle.drv_table.specs.DriverContent.{DriverContent}
use Rattle.drv_table.specs.Parts.{Parts}
use Rattle.drv_table.specs.Commands.{removes_members, events_of, links, advance, advanced_by, linked_on, or_finished, finished, no_command, leave_ring, leave_frames, list_after}
use Rattle.claims_driver.specs.Leaving.{HasOwners}
use Rattle.law_driver.specs.run_owners.Due.{IsLinkOf}
use Rattle.law_driver.proofs.lemmas.run_owners.Rows.{due_owned, due_orderly}
use Rattle.law_driver.specs.listed_members.Members.{IsListed}
use Rattle.law_driver.proofs.lemmas.listed_members.Events.{row_listed}
use Rattle.law_frame_list.proofs.lemmas.list_spread.Spreading.{members_share_no_block}
use Rattle.law_frame_list.proofs.lemmas.list_stores.Making.{store_written, each_store_of_the_list_is_made}
use Rattle.law_frame_list.specs.list_steps.Steps.{IsLinkingStep, NextLeads}
use Rattle.law_frame_list.proofs.lemmas.list_steps.Stepping.{goes_on_list, stored_stands}
use Rattle.hc_core.specs.Controller.{Content}
use Rattle.law_frames.specs.Met.{Kind}
use Rattle.claims_driver.specs.Unlinked.{led_by, led_in, led}
use Rattle.law_descriptors.specs.Recent.{parts_of, driver_after, content_after}
use Rattle.law_descriptors.specs.RowLaws.{HasFrames}
use Rattle.law_descriptors.specs.ListRows.{leaves_now, recent_with, ListStored, StoresNext, LinkRowsLeaveBoth}
use Rattle.law_descriptors.proofs.ListRowsStoring.{next_store_leaves_both}

-- ---- one that is begun next has no store yet

pub idle_led : (p : Periodic) → p.work ≡ None → led_in p ≡ p.members.schedule
idle_led p none = ap (led_by p.members.schedule) none

linking_led : (p : Periodic) (x : Member) → IsKept p.members.schedule → led_in (linking p x) ≡ led_in p
linking_led p x kept =
    either_if (λ (r : Periodic). led_in r ≡ led_in p) (may_link p x) (inserting p x) p
    (λ e.
    let both = and_parts (is_none p.work) (takes p.members x) e in
    let one = and_parts (is_member x) (not (has_name p.members.schedule (id_of x)) && has_room p.members x) both.1 in
    let new = and_parts (not (has_name p.members.schedule (id_of x))) (has_room p.members x) one.1 in
    out_again p.members.schedule x kept (not_on (has_name p.members.schedule (id_of x)) new.0) ∙ sym (idle_led p (no_work p.work both.0)))
    (λ e. refl)

pub unlinking_led : (p : Periodic) (x : Member) → led_in (unlinking p x) ≡ led_in p
unlinking_led p x =
    either_if (λ (r : Periodic). led_in r ≡ led_in p) (may_unlink p x) (removing p x) p
    (λ e. sym (idle_led p (no_work p.work (and_parts (is_none p.work) (is_member x && is_linked p.members.schedule x) e).0)))
    (λ e. refl)

begun_led : (removes : Bool) (p : Periodic) (x : Member) → IsKept p.members.schedule → led_in (begun removes p x) ≡ led_in p
begun_led true p x kept = unlinking_led p x
begun_led false p x kept = linking_led p x kept

first_led : (removes : Bool) (q : PeriodicContent) (ms : List Member) → IsKept q.list.members.schedule → led_in (with_first removes q ms).list ≡ led_in q.list
first_led removes q [] kept = refl
first_led removes q (x ∷ xs) kept = begun_led removes q.list x kept

next_led : (removes : Bool) (q : PeriodicContent) → IsKept q.list.members.schedule → led_in (begun_next removes q).list ≡ led_in q.list
next_led removes q kept =
    either_if (λ (r : PeriodicContent). led_in r.list ≡ led_in q.list) (is_none q.list.work) (with_first removes q q.queued) q (λ e. first_led removes q q.queued kept) (λ e. refl)

-- ---- what a step leaves

pub record Stays (d new : DriverContent) : Type 0 where
  pub book : new.book ≡ d.book
  pub notes : new.periodic.notes ≡ d.periodic.notes

same : (d : DriverContent) → Stays d d
same d = record { book = refl; notes = refl }

then_stays : (d e f : DriverContent) → Stays d e → Stays e f → Stays d f
then_stays d e f one two = record { book = two.book ∙ one.book; notes = two.notes ∙ one.notes }

first_notes : (removes : Bool) (q : PeriodicContent) (ms : List Member) → (with_first removes q ms).notes ≡ q.notes
first_notes removes q [] = refl
first_notes removes q (x ∷ xs) = refl

next_notes : (removes : Bool) (q : PeriodicContent) → (begun_next removes q).notes ≡ q.notes
next_notes removes q = either_if (λ (r : PeriodicContent). r.notes ≡ q.notes) (is_none q.list.work) (with_first removes q q.queued) q (λ e. first_notes removes q q.queued) (λ e. refl)

ring_stays : (d : DriverContent) (e : ℕ) (o : Option Endpoint) → Stays d (leave_ring d e o)
ring_stays d e None = same d
ring_stays d e (Some x) = either_if (λ (f : DriverContent). Stays d f) x.linked _ d (λ on. record { book = refl; notes = refl }) (λ on. same d)

frames_stay : (d : DriverContent) (e : ℕ) (o : Option Endpoint) → Stays d (leave_frames d e o)
frames_stay d e None = same d
frames_stay d e (Some x) = either_if (λ (f : DriverContent). Stays d f) x.chained _ d (λ on. record { book = refl; notes = refl }) (λ on. same d)

ended : (d : DriverContent) → Stays d (no_command d)
ended d = record { book = refl; notes = refl }

finished_stays : (d : DriverContent) (c : Command) → Stays d (finished d c)
finished_stays d (unfinished.Unlink e b link) = then_stays d (no_command d) (leave_ring (no_command d) e (slice_get d.endpoints e)) (ended d) (ring_stays (no_command d) e (slice_get d.endpoints e))
finished_stays d (unfinished.Unchain e) = then_stays d (no_command d) (leave_frames (no_command d) e (slice_get d.endpoints e)) (ended d) (frames_stay (no_command d) e (slice_get d.endpoints e))
finished_stays d _ = ended d

or_stays : (d : DriverContent) (c : Command) → Stays d (or_finished d c)
or_stays d c = either_if (λ (f : DriverContent). Stays d f) (is_none d.periodic.list.work) (finished d c) d (λ e. finished_stays d c) (λ e. same d)

linked_stays : (d : DriverContent) (c : Command) → Stays d (linked_on d c)
linked_stays d c =
    let e : DriverContent = record d { made = length (events_of c); periodic = begun_next (removes_members c) (record d.periodic { list = list_after d c }) } in
    then_stays d e (or_finished e c) (record { book = refl; notes = next_notes (removes_members c) (record d.periodic { list = list_after d c }) }) (or_stays e c)

step_by : (d : DriverContent) (o : Option Command) → Stays d (advanced_by d o)
step_by d None = same d
step_by d (Some c) =
    either_if (λ (f : DriverContent). Stays d f) (nat_lt (suc d.made) (length (events_of c))) _ _ (λ e. record { book = refl; notes = refl })
    (λ e. either_if (λ (f : DriverContent). Stays d f) (links c) (linked_on d c) (finished d c) (λ on. linked_stays d c) (λ on. finished_stays d c))

pub step_stays : (d : DriverContent) → Stays d (advance d)
step_stays d = step_by d d.command

-- ---- a step

linking_step : (p : Parts) (row : DriverRow) → (why : IsLinkOf p row) → IsLinkingStep p why.command
linking_step p row why = record { unfinished = why.unfinished; links = why.links; late = why.late }

step_led : (p : Parts) (row : DriverRow) → (why : IsLinkOf p row) → IsKept (after_store p.driver.periodic.list).members.schedule → led (advance p.driver) ≡ led_in (after_store p.driver.periodic.list)
step_led p row why kept =
    ap led_in (goes_on_list p.driver why.command why.unfinished why.links why.late)
    ∙ next_led (removes_members why.command) (record p.driver.periodic { list = after_store p.driver.periodic.list }) kept

store_of_row : (p : Parts) (row : DriverRow) → (why : IsLinkOf p row) → IsLinkOf p (rows.Store why.store.block why.store.at why.store.value)
store_of_row p row why = record { command = why.command; unfinished = why.unfinished; links = why.links; late = why.late; store = why.store; next = why.next; is = refl }

pub step_owned : (p : Parts) (row : DriverRow) → (why : IsLinkOf p row) → HasOwners p.driver → HasOwners (advance p.driver)
step_owned p row why has =
    let st : DriverRow = rows.Store why.store.block why.store.at why.store.value in
    record {
      owner = has.owner;
      owned = due_owned st p has.owner (inr (store_of_row p row why)) has.orderly has.owned;
      orderly = due_orderly st p (inr (store_of_row p row why)) has.orderly;
    }

step_next : (c : Content) (d : DriverContent) (row : DriverRow) → HasFrames c.memory d → Stands (holding d.book c.memory) → IsShaped c.memory → HasOwners d → (why : IsLinkOf (parts_of c d) row)
    → (removes_members why.command ≡ false → NextLeads (parts_of c d)) → store d.book c.memory why.store.block why.store.at why.store.value ≡ with_word c.memory why.store.at why.store.value
    → StoresNext c.memory d (advance d) d.periodic.list why.store
step_next c d row frames stands shape has why leads written =
    let p : Parts = parts_of c d in
    let st : Store = why.store in
    let new : DriverContent = advance d in
    let s : Stays d new = step_stays d in
    let listed : IsListed new = row_listed (rows.Store st.block st.at st.value) p (inr (store_of_row p row why)) has frames.listed in
    let after : IsInOrder (after_store d.periodic.list) = store_in_order d.periodic.list frames.list.order in
    let list : ListStands (store d.book c.memory st.block st.at st.value) new
    = stored_stands p why.command st (linking_step p row why) (each_store_of_the_list_is_made d c.memory st stands shape has frames.listed frames.list why.next) why.next leads in
    let zero_then : new.periodic.list.list ≡ 0 = listed.list.list in
    record {
      list = refl;
      members = refl;
      order = frames.list.order;
      before = refl;
      after = step_led p row why after.kept;
      next = why.next;
      start = zero_then ∙ sym frames.listed.list.list;
      notes = s.notes;
      frames = frames;
      frames_after = record {
        list = subst (λ (m : Mem). ListStands m new) written list;
        spread = members_share_no_block new c.memory (subst (λ (b : Book). Stands (holding b c.memory)) (sym s.book) stands) (step_owned p row why has) listed;
        listed = listed;
      };
    }

pub link_rows_leave_both : LinkRowsLeaveBoth
link_rows_leave_both base member recent parts hand frame c d row runs is frames apart stands shape has why leads coming =
    let st : Store = why.store in
    let later : ℕ → Option Kind = recent_with d.periodic (leaves_now d.periodic.list) recent in
    let written : store d.book c.memory st.block st.at st.value ≡ with_word c.memory st.at st.value
    = store_written d c.memory d.periodic.list.work st stands shape has frames.listed frames.list.order.kept why.next in
    let next : StoresNext c.memory d (advance d) d.periodic.list st = step_next c d row frames stands shape has why leads written in
    subst (λ (r : DriverRow). ListStored base member later parts hand frame st (driver_after r c d) (content_after r c d)) (sym why.is)
    (subst (λ (m : Mem). ListStored base member later parts hand frame st (advance d) (record c { memory = m })) (sym written)
    (next_store_leaves_both base member recent parts hand frame c d (advance d) d.periodic.list st runs is next apart coming))
