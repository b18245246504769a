-- The events of the frame list, of isochronous descriptors and of isochronous endpoints: the queues stay. A queue head that is linked in frames is opened as one of the ring.
use Rattle.std.proofs.Common.{◌≡◌, ◌≢◌, ℕ, zero, suc, ◌-◌, ◌≤◌, Bool, true, false, ◌||◌, cond, nat_lt, List, [], ◌∷◌, ◌++◌, length, map, set, take, drop, slice_get, Option, Some, None, ap, ap₂, sym, subst, ◌∙◌, refl, arith}
use Rattle.std.specs.Prelude.{is_none}
use Rattle.std.proofs.lemmas.Bool.{false≢true}
use Rattle.std.proofs.lemmas.Option.{same_Some}
use Rattle.law_driver.proofs.Common.{none_made, of_none}
use Rattle.law_common.proofs.Lists.{map_set_same}
use Rattle.usb_base.specs.declared.reports.What.TheVariants as lines
use Rattle.word_mem.specs.Memory.{Mem}
use Rattle.mem_runs.specs.Book.{Book, Holding, holding, lend_taken}
use Rattle.drv_periodic_table.specs.declared.content.DescriptorNote.{DescriptorNote}
use Rattle.drv_periodic_table.specs.declared.content.Removed.TheVariants as removed
use Rattle.drv_periodic_table.specs.Periodic.{PeriodicContent, note_at as periodic_note}
use Rattle.drv_periodic_table.specs.Linking.{begun_next}
use Rattle.drv_periodic_table.specs.Descriptors.{is_served, errors_in}
use Rattle.drv_table.specs.declared.content.Endpoint.{Endpoint}
use Rattle.drv_table.specs.declared.content.Transfer.{Transfer}
use Rattle.drv_table.specs.declared.content.Sort.{Sort}
use Rattle.drv_table.specs.declared.content.Sort.TheVariants as sorts
use Rattle.drv_table.specs.declared.content.Command.{Command}
use Rattle.drv_table.specs.declared.content.Command.TheVariants as unfinished
use Rattle.drv_table.specs.declared.rows.DriverRow.{DriverRow}
use Rattle.drv_table.specs.declared.rows.DriverRow.TheVariants as rows
use Rattle.drv_table.specs.declared.rows.Found.{Found}
use Rattle.drv_table.specs.declared.rows.Found.TheVariants as founds
use Rattle.drv_table.specs.DriverContent.{DriverContent, waits_for, next_after}
use Rattle.drv_table.specs.Harvests.{reported}
use Rattle.drv_table.specs.Kinds.{is_iso}
use Rattle.drv_table.specs.Parts.{Parts}
use Rattle.drv_table.specs.Commands.{events_of, links, removes_members, no_command, removal_of, leave_frames, list_after, advanced_by, advance}
use Rattle.drv_table.specs.FrameChoice.{framed_notes, with_notes, placement_at, framed_by, linked_by}
use Rattle.drv_table.specs.Removals.{after_unlink, after_descriptor, let_go_waiting, let_go_placed, free_placed, removed_with, after_placed}
use Rattle.drv_table.specs.Releases.{cancelled_bytes, is_told}
use Rattle.drv_table.specs.Harvesting.{found_of, descriptor_found, served, harvested_as, after_harvest}
use Rattle.drv_table.specs.Rows.{after_driver_row}
use Rattle.claims_driver.specs.Owners.{is_descriptor}
use Rattle.claims_driver.specs.Leaving.{IsOrderly, HasOwners}
use Rattle.law_driver.specs.run_owners.Due.{IsLinkOf, IsDue}
use Rattle.law_driver.proofs.lemmas.run_owners.Harvest.{waits_is}
use Rattle.law_driver.proofs.lemmas.run_owners.Orders.{one_same, removed_first}
use Rattle.law_driver.specs.queued_drivers.Queued.{without_queue, queued_endpoint, queued_transfer, queue_of, queued_command, queued_made, queued, QueuesTakeTurns}
use Rattle.law_driver.specs.queued_drivers.Rows.{QueuesAlike, TellsAlike, FinishesChain, LinksOn, IsLentAlike, IsFinishedAlike, IsOfFrames, LeavesQueues}
use Rattle.law_driver.proofs.lemmas.queued_drivers.RowLists.{descriptor_told, returned_descriptor, transfers_stay, command_stays, map_same, map_both}

-- ---- contents that tell the same

pub record AllAlike (d f : DriverContent) : Type 0 where
  pub queues : QueuesAlike (queued d) (queued f)
  pub tells : TellsAlike (queued d) (queued f)
  pub book : f.book ≡ d.book

pub queues_same : (d : DriverContent) → QueuesAlike d d
queues_same d = record { endpoints = refl; transfers = refl; notes = refl; command = refl; made = refl; mends = refl; harvested = refl; waiting = refl; rung = refl; cleared = refl; bell = refl }

-- what the queues don't tell may change: the runs, the turn and the report
pub aside : (d f : DriverContent) → QueuesAlike (queued d) (queued (record d { book = f.book; turn = f.turn; place = f.place; reports = f.reports; store = f.store; room = f.room; periodic = f.periodic }))
aside d f = record { endpoints = refl; transfers = refl; notes = refl; command = refl; made = refl; mends = refl; harvested = refl; waiting = refl; rung = refl; cleared = refl; bell = refl }

pub all_same : (d : DriverContent) → AllAlike d d
all_same d = record { queues = queues_same (queued d); tells = record { reports = refl; store = refl }; book = refl }

-- the command has gone on, in the frame list alone
gone_on : (d : DriverContent) (c : Option Command) (n : ℕ) (q : PeriodicContent) → queued_command d.endpoints c ≡ queued_command d.endpoints d.command → queued_made c n ≡ queued_made d.command d.made
    → AllAlike d (record d { command = c; made = n; periodic = q })
gone_on d c n q command made = record {
  queues = record { endpoints = refl; transfers = refl; notes = refl; command = command; made = made; mends = refl; harvested = refl; waiting = refl; rung = refl; cleared = refl; bell = refl };
  tells = record { reports = refl; store = refl };
  book = refl;
}

made_same : (d : DriverContent) (c : Command) (k n : ℕ) → d.command ≡ Some c → queued_made (Some c) k ≡ queued_made (Some c) n → queued_made d.command k ≡ queued_made d.command n
made_same d c k n command same = ap (λ (o : Option Command). queued_made o k) command ∙ same ∙ sym (ap (λ (o : Option Command). queued_made o n) command)

-- ---- descriptors are linked

iso_goes_on : (d : DriverContent) (e t count : ℕ) → d.command ≡ Some (unfinished.Iso e t count) → AllAlike d (advance d)
iso_goes_on d e t count command =
    let c = unfinished.Iso e t count in
    let q = begun_next (removes_members c) (record d.periodic { list = list_after d c }) in
    subst (λ (o : Option Command). AllAlike d (advanced_by d o)) (sym command) (by q (nat_lt (suc d.made) 2) (is_none q.list.work))
  where
    by : (q : PeriodicContent) (a b : Bool) → AllAlike d (cond a (record d { made = suc d.made }) (cond b (no_command (record d { made = 2; periodic = q })) (record d { made = 2; periodic = q })))
    by q true b = gone_on d d.command (suc d.made) d.periodic refl (made_same d (unfinished.Iso e t count) (suc d.made) d.made command refl)
    by q false true = gone_on d None 0 q (sym (ap (queued_command d.endpoints) command)) (sym (ap (λ (o : Option Command). queued_made o d.made) command))
    by q false false = gone_on d d.command 2 q refl (made_same d (unfinished.Iso e t count) 2 d.made command refl)

-- ---- members are unlinked

frames_left : (d : DriverContent) (e : ℕ) (q : PeriodicContent) (o : Option Endpoint) → d.command ≡ Some (unfinished.Unchain e) → slice_get d.endpoints e ≡ o → AllAlike d (leave_frames (no_command (record d { made = 0; periodic = q })) e o)
frames_left d e q None command here = gone_on d None 0 q (sym (ap (queued_command d.endpoints) command)) (sym (ap (λ (o : Option Command). queued_made o d.made) command))
frames_left d e q (Some x) command here = by x.chained
  where
    by : (b : Bool) → AllAlike d (cond b (record (no_command (record d { made = 0; periodic = q })) { endpoints = set d.endpoints e (record x { chained = false }); periodic = record q { removals = q.removals ++ removal_of (removed.Endpoint e) ∷ [] } }) (no_command (record d { made = 0; periodic = q })))
    by true =
        let z : Endpoint = record x { chained = false } in
        record {
          queues = record {
            endpoints = map_set_same queued_endpoint d.endpoints e x z here refl;
            transfers = transfers_stay d.endpoints e x z here refl d.transfers;
            notes = refl;
            command = sym (ap (queued_command d.endpoints) command);
            made = sym (ap (λ (o : Option Command). queued_made o d.made) command);
            mends = refl;
            harvested = refl;
            waiting = refl;
            rung = refl;
            cleared = refl;
            bell = refl;
          };
          tells = record { reports = refl; store = refl };
          book = refl;
        }
    by false = gone_on d None 0 q (sym (ap (queued_command d.endpoints) command)) (sym (ap (λ (o : Option Command). queued_made o d.made) command))

unchain_goes_on : (d : DriverContent) (e : ℕ) → d.command ≡ Some (unfinished.Unchain e) → AllAlike d (advance d)
unchain_goes_on d e command =
    let c = unfinished.Unchain e in
    let q = begun_next (removes_members c) (record d.periodic { list = list_after d c }) in
    subst (λ (o : Option Command). AllAlike d (advanced_by d o)) (sym command) (by q (nat_lt (suc d.made) 0) (is_none q.list.work))
  where
    by : (q : PeriodicContent) (a b : Bool) → AllAlike d (cond a (record d { made = suc d.made }) (cond b (leave_frames (no_command (record d { made = 0; periodic = q })) e (slice_get d.endpoints e)) (record d { made = 0; periodic = q })))
    by q true b = gone_on d d.command (suc d.made) d.periodic refl (made_same d (unfinished.Unchain e) (suc d.made) d.made command refl)
    by q false true = frames_left d e q (slice_get d.endpoints e) command refl
    by q false false = gone_on d d.command 0 q refl (made_same d (unfinished.Unchain e) 0 d.made command refl)

-- ---- a queue head is linked

-- one event more was made, or its own events are over, and the command goes on or is finished
chain_either : (P : DriverContent → Type 0) (d : DriverContent) → d.command ≡ Some unfinished.Chain → P (record d { made = suc d.made }) → ((q : PeriodicContent) → P (record d { made = 1; periodic = q }))
    → ((q : PeriodicContent) → P (no_command (record d { made = 1; periodic = q }))) → P (advance d)
chain_either P d command more on over =
    let q = begun_next (removes_members unfinished.Chain) (record d.periodic { list = list_after d unfinished.Chain }) in
    subst (λ (o : Option Command). P (advanced_by d o)) (sym command) (by q (nat_lt (suc d.made) 1) (is_none q.list.work))
  where
    by : (q : PeriodicContent) (a b : Bool) → P (cond a (record d { made = suc d.made }) (cond b (no_command (record d { made = 1; periodic = q })) (record d { made = 1; periodic = q })))
    by q true b = more
    by q false true = over q
    by q false false = on q

pub busy_idle : (d : DriverContent) (c : Command) → d.command ≡ Some c → d.command ≡ None → ⊥
busy_idle d c command idle = let e : ◌≡◌ {A = Option Command} None (Some c) = sym idle ∙ command in cc

some_made : (n : ℕ) → 1 ≤ n → queued_made (Some unfinished.Chain) n ≡ 1
some_made zero some = absurd (omega (arith, some))
some_made (suc n) some = refl

pub chain_lends_agree : (p : Parts) → IsDue p rows.Lend → LinksOn p rows.Lend → IsLentAlike p
chain_lends_agree p due on = record {
  due = record { command = unfinished.Open q; unfinished = opens; next = ap (λ (n : ℕ). slice_get (events_of (unfinished.Open q)) n) begins };
  queues = subst (λ (f : DriverContent). QueuesAlike f (queued (advance lending))) (sym lent) (later on.unfinished).0;
  tells = subst (λ (f : DriverContent). TellsAlike f (queued (advance lending))) (sym lent) (later on.unfinished).1;
  book = (later on.unfinished).2 ∙ sym (ap (λ (f : DriverContent). f.book) lent);
  memory = refl;
}
  where
    d : DriverContent
    d = p.driver

    h : Holding
    h = lend_taken (holding p.driver.book p.memory)

    lending : DriverContent
    lending = record p.driver { book = (lend_taken (holding p.driver.book p.memory)).book }

    q : ℕ
    q = queue_of (slice_get p.driver.endpoints (length p.driver.endpoints - 1))

    opens : queued_command p.driver.endpoints p.driver.command ≡ Some (unfinished.Open (queue_of (slice_get p.driver.endpoints (length p.driver.endpoints - 1))))
    opens = ap (queued_command p.driver.endpoints) on.chain

    next : slice_get (events_of unfinished.Chain) p.driver.made ≡ Some rows.Lend
    next = ap (λ (c : Command). slice_get (events_of c) p.driver.made) (same_Some unfinished.Chain due.command (sym on.chain ∙ due.unfinished)) ∙ due.next

    begins : queued_made p.driver.command p.driver.made ≡ 0
    begins = ap (λ (o : Option Command). queued_made o p.driver.made) on.chain ∙ ap (queued_made (Some unfinished.Chain)) (none_made p.driver.made next)

    counts_one : (n : ℕ) → queued_made p.driver.command (suc n) ≡ 1
    counts_one n = ap (λ (o : Option Command). queued_made o (suc n)) on.chain

    lent : advance (queued lending) ≡ record (queued lending) { made = 1 }
    lent =
        ap (advanced_by (queued lending)) opens
        ∙ ap (λ (n : ℕ). cond (nat_lt (suc n) 2) (record (queued lending) { made = suc n }) (no_command (queued lending))) begins

    Goes : DriverContent → Type 0
    Goes f = f.command ≢ None → QueuesAlike (record (queued lending) { made = 1 }) (queued f) × TellsAlike (record (queued lending) { made = 1 }) (queued f) × (f.book ≡ lending.book)

    same : (f : DriverContent) → queued_made p.driver.command f.made ≡ 1 → QueuesAlike (record (queued lending) { made = 1 }) (queued (record lending { made = f.made; periodic = f.periodic }))
    same f one = record { endpoints = refl; transfers = refl; notes = refl; command = refl; made = one; mends = refl; harvested = refl; waiting = refl; rung = refl; cleared = refl; bell = refl }

    later : Goes (advance lending)
    later = chain_either Goes lending on.chain
        (λ busy. (same (record d { made = suc d.made }) (counts_one d.made), record { reports = refl; store = refl }, refl))
        (λ r busy. (same (record d { made = 1; periodic = r }) (counts_one 0), record { reports = refl; store = refl }, refl))
        (λ r busy. absurd (busy refl))

-- all but the command is as it was
record HasEnded (f g : DriverContent) : Type 0 where
  endpoints : (queued g).endpoints ≡ (queued f).endpoints
  transfers : (queued g).transfers ≡ (queued f).transfers
  notes : g.notes ≡ f.notes
  command : (queued g).command ≡ None
  made : (queued g).made ≡ 0
  mends : g.mends ≡ f.mends
  harvested : g.harvested ≡ f.harvested
  waiting : g.waiting ≡ f.waiting
  rung : g.rung ≡ f.rung
  cleared : g.cleared ≡ f.cleared
  bell : g.bell ≡ f.bell
  reports : g.reports ≡ f.reports
  store : g.store ≡ f.store

-- with the last of its events it is finished
chain_over : (p : Parts) (row : DriverRow) (f : DriverContent) → (after_driver_row row p).driver ≡ advance f → QueuesAlike (queued p.driver) (queued f) → TellsAlike (queued p.driver) (queued f) → f.command ≡ Some unfinished.Chain → FinishesChain p row → IsFinishedAlike p row
chain_over p row f is queues tells command over =
    let k = chain_either Ends f command (λ none. absurd (busy_idle f unfinished.Chain command none)) (λ q none. absurd (busy_idle f unfinished.Chain command none))
    (λ q none. record { endpoints = refl; transfers = refl; notes = refl; command = refl; made = refl; mends = refl; harvested = refl; waiting = refl; rung = refl; cleared = refl; bell = refl; reports = refl; store = refl })
    (ap (λ (g : DriverContent). g.command) (sym is) ∙ over.finished) in
    let now : QueuesAlike (no_command (queued p.driver)) (queued (advance f)) = record {
      endpoints = k.endpoints ∙ queues.endpoints;
      transfers = k.transfers ∙ queues.transfers;
      notes = k.notes ∙ queues.notes;
      command = k.command;
      made = k.made;
      mends = k.mends ∙ queues.mends;
      harvested = k.harvested ∙ queues.harvested;
      waiting = k.waiting ∙ queues.waiting;
      rung = k.rung ∙ queues.rung;
      cleared = k.cleared ∙ queues.cleared;
      bell = k.bell ∙ queues.bell;
    } in
    let told : TellsAlike (queued p.driver) (queued (advance f)) = record { reports = k.reports ∙ tells.reports; store = k.store ∙ tells.store } in
    record {
      queues = subst (λ (g : DriverContent). QueuesAlike (no_command (queued p.driver)) (queued g)) (sym is) now;
      tells = subst (λ (g : DriverContent). TellsAlike (queued p.driver) (queued g)) (sym is) told;
    }
  where
    Ends : DriverContent → Type 0
    Ends g = g.command ≡ None → HasEnded f g

pub chains_finish : (p : Parts) (row : DriverRow) → IsDue p row → FinishesChain p row → IsFinishedAlike p row
chains_finish p rows.Lend due over =
    let f : DriverContent = record p.driver { book = (lend_taken (holding p.driver.book p.memory)).book } in
    chain_over p rows.Lend f refl (aside p.driver f) (record { reports = refl; store = refl }) over.chain over
chains_finish p (rows.Store b at v) due over = chain_over p (rows.Store b at v) p.driver refl (queues_same (queued p.driver)) (record { reports = refl; store = refl }) over.chain over
chains_finish p rows.LendDescriptors due over =
    let f : DriverContent = record p.driver { book = (lend_taken (holding p.driver.book (linked_by p.driver p.memory p.driver.command))).book } in
    chain_over p rows.LendDescriptors f refl (aside p.driver f) (record { reports = refl; store = refl }) over.chain over
chains_finish p rows.Frames due over =
    absurd (busy_idle p.driver unfinished.Chain over.chain (ap (λ (o : Option Command). (framed_by p.driver p.registers.frame_index o).command) (sym over.chain) ∙ over.finished))
chains_finish p (rows.Unlink t) due over = absurd (busy_idle p.driver unfinished.Chain over.chain due.idle)
chains_finish p (rows.ReleaseRemoved what) due over = absurd (busy_idle p.driver unfinished.Chain over.chain due.idle)
chains_finish p (rows.ReleaseTransfer t) due over = absurd (busy_idle p.driver unfinished.Chain over.chain due.idle)
chains_finish p (rows.ReleaseEndpoint e) due over = absurd (busy_idle p.driver unfinished.Chain over.chain due.idle)
chains_finish p (rows.Harvest e t found) due over = absurd (busy_idle p.driver unfinished.Chain over.chain due.idle)
chains_finish p rows.Rest due over = absurd (busy_idle p.driver unfinished.Chain over.chain over.finished)
chains_finish p _ due over = absurd (busy_idle p.driver unfinished.Chain over.chain due.0)

-- ---- stores of the frame list

list_store : (p : Parts) (row : DriverRow) → (after_driver_row row p).driver ≡ advance p.driver → (c : Command) → IsLinkOf p row → p.driver.command ≡ Some c → links c ≡ true → length (events_of c) ≤ p.driver.made
    → (p.driver.command ≡ Some unfinished.Chain → (after_driver_row row p).driver.command ≢ None) → AllAlike p.driver (advance p.driver)
list_store p row is unfinished.Chain link command links late goes_on =
    let d = p.driver in
    chain_either (λ f. f.command ≢ None → AllAlike d f) d command
    (λ busy. gone_on d d.command (suc d.made) d.periodic refl (made_same d unfinished.Chain (suc d.made) d.made command (sym (some_made d.made late))))
    (λ q busy. gone_on d d.command 1 q refl (made_same d unfinished.Chain 1 d.made command (sym (some_made d.made late))))
    (λ q busy. absurd (busy refl))
    (λ none. goes_on command (ap (λ (f : DriverContent). f.command) is ∙ none))
list_store p row is (unfinished.Iso e t count) link command links late goes_on = iso_goes_on p.driver e t count command
list_store p row is (unfinished.Unchain e) link command links late goes_on = unchain_goes_on p.driver e command
list_store p row is _ link command links late goes_on = absurd (false≢true links)

-- ---- the frames of descriptors, and their lend

pub record IsIsoOf (c : Command) : Type 0 where
  pub endpoint : ℕ
  pub first : ℕ
  pub count : ℕ
  pub is : c ≡ unfinished.Iso endpoint first count

lends_described : (c : Command) (i : ℕ) → slice_get (events_of c) i ≡ Some rows.LendDescriptors → IsIsoOf c
lends_described (unfinished.Open queue) zero next = absurd (cc)
lends_described (unfinished.Open queue) (suc zero) next = absurd (cc)
lends_described (unfinished.Open queue) (suc (suc i)) next = absurd (cc)
lends_described (unfinished.Publish b words) zero next = absurd (cc)
lends_described (unfinished.Publish b words) (suc zero) next = absurd (cc)
lends_described (unfinished.Publish b words) (suc (suc zero)) next = absurd (cc)
lends_described (unfinished.Publish b words) (suc (suc (suc zero))) next = absurd (cc)
lends_described (unfinished.Publish b words) (suc (suc (suc (suc zero)))) next = absurd (cc)
lends_described (unfinished.Publish b words) (suc (suc (suc (suc (suc zero))))) next = absurd (cc)
lends_described (unfinished.Publish b words) (suc (suc (suc (suc (suc (suc zero)))))) next = absurd (cc)
lends_described (unfinished.Publish b words) (suc (suc (suc (suc (suc (suc (suc zero))))))) next = absurd (cc)
lends_described (unfinished.Publish b words) (suc (suc (suc (suc (suc (suc (suc (suc zero)))))))) next = absurd (cc)
lends_described (unfinished.Publish b words) (suc (suc (suc (suc (suc (suc (suc (suc (suc i))))))))) next = absurd (cc)
lends_described (unfinished.Unlink e b link) zero next = absurd (cc)
lends_described (unfinished.Unlink e b link) (suc i) next = absurd (cc)
lends_described unfinished.Chain zero next = absurd (cc)
lends_described unfinished.Chain (suc i) next = absurd (cc)
lends_described (unfinished.Iso e t count) i next = record { endpoint = e; first = t; count = count; is = refl }
lends_described (unfinished.Unchain e) i next = absurd (cc)

frames_alike : (d : DriverContent) (n : ℕ) (o : Option Command) → d.command ≡ o → AllAlike d (framed_by d n o)
frames_alike d n (Some (unfinished.Iso e t count)) command =
    let a = iso_goes_on (with_notes d n (take count (drop t d.transfers)) (framed_notes d n e t count (placement_at d e))) e t count command in
    record { queues = record { endpoints = a.queues.endpoints; transfers = a.queues.transfers; notes = a.queues.notes; command = a.queues.command; made = a.queues.made; mends = a.queues.mends; harvested = a.queues.harvested; waiting = a.queues.waiting; rung = a.queues.rung; cleared = a.queues.cleared; bell = a.queues.bell }; tells = record { reports = a.tells.reports; store = a.tells.store }; book = a.book }
frames_alike d n _ command = all_same d

-- ---- what left the frame list

unlink_alike : (p : Parts) (t : ℕ) (o : Option Transfer) → AllAlike p.driver (after_unlink p t o).driver
unlink_alike p t None = all_same p.driver
unlink_alike p t (Some y) = record { queues = aside p.driver (after_unlink p t (Some y)).driver; tells = record { reports = refl; store = refl }; book = refl }

-- a descriptor was given back for the queues already
describes_same : (xs : List Endpoint) (y z : Transfer) → is_descriptor y.sort ≡ true → is_descriptor z.sort ≡ true → returned_descriptor xs z ≡ returned_descriptor xs y → queued_transfer xs z ≡ queued_transfer xs y
describes_same xs y z is also same = descriptor_told xs z also ∙ same ∙ sym (descriptor_told xs y is)

descriptor_alike : (p : Parts) (t : ℕ) (o : Option Transfer) → slice_get p.driver.transfers t ≡ o → ((y : Transfer) → o ≡ Some y → is_descriptor y.sort ≡ true)
    → QueuesAlike (queued p.driver) (queued (after_descriptor p t o).driver) × TellsAlike (queued p.driver) (queued (after_descriptor p t o).driver)
descriptor_alike p t None there is = (queues_same (queued p.driver), record { reports = refl; store = refl })
descriptor_alike p t (Some y) there is =
    let d = p.driver in
    let z : Transfer = record y { released = true } in (
      record {
        endpoints = refl;
        transfers = map_set_same (queued_transfer d.endpoints) d.transfers t y z there (describes_same d.endpoints y z (is y refl) (is y refl) refl);
        notes = refl;
        command = refl;
        made = refl;
        mends = refl;
        harvested = refl;
        waiting = refl;
        rung = refl;
        cleared = refl;
        bell = refl;
      },
      record { reports = refl; store = refl },
    )

-- ---- an isochronous endpoint is given back, or harvested

module _ (d : DriverContent) (e : ℕ) (x : Endpoint) (here : slice_get d.endpoints e ≡ Some x) (iso : is_iso x.desc.kind ≡ true) (order : IsOrderly d) where
  its_descriptor : (t : ℕ) (y : Transfer) → slice_get d.transfers t ≡ Some y → y.endpoint ≡ e → is_descriptor y.sort ≡ true
  its_descriptor t y there at = order.sorts t y x there (ap (slice_get d.endpoints) at ∙ here) ∙ iso

  waiting_go : (told : Bool) (t : ℕ) (y : Transfer) → slice_get d.transfers t ≡ Some y → queued_transfer d.endpoints (let_go_waiting e told y) ≡ queued_transfer d.endpoints y
  waiting_go told t y there = by (waits_for e y) refl
    where
      by : (b : Bool) → waits_for e y ≡ b → queued_transfer d.endpoints (cond b (record y { reported = y.reported || told; released = true }) y) ≡ queued_transfer d.endpoints y
      by true waits =
          let is = its_descriptor t y there (waits_is e y waits).endpoint in
          describes_same d.endpoints y (record y { reported = y.reported || told; released = true }) is is refl
      by false waits = refl

  iso_told : (z : Endpoint) → z.desc ≡ x.desc → without_queue z ≡ without_queue x → queued_endpoint z ≡ queued_endpoint x
  iso_told z same bare = of_none z (ap (λ k. is_iso k) (ap (λ r. r.kind) same) ∙ iso) ∙ bare ∙ sym (of_none x iso)

  all_go : (told : Bool) → map (queued_transfer (set d.endpoints e (record x { gone = true }))) (map (let_go_placed (is_iso x.desc.kind) e told) d.transfers) ≡ map (queued_transfer d.endpoints) d.transfers
  all_go told =
      transfers_stay d.endpoints e x (record x { gone = true }) here refl (map (let_go_placed (is_iso x.desc.kind) e told) d.transfers)
      ∙ map_both (queued_transfer d.endpoints) (let_go_placed (is_iso x.desc.kind) e told) d.transfers
      ∙ map_same (queued_transfer d.endpoints) (λ y. queued_transfer d.endpoints (let_go_placed (is_iso x.desc.kind) e told y)) d.transfers
      (λ t y there. ap (λ (b : Bool). queued_transfer d.endpoints (let_go_placed b e told y)) iso ∙ waiting_go told t y there)

  -- told with a line or without
  removed_alike : (f : DriverContent) (told : Bool) (book : Book) → f.endpoints ≡ d.endpoints → f.transfers ≡ d.transfers → QueuesAlike (queued d) (queued f) → f.command ≡ d.command → QueuesAlike (queued d) (queued (removed_with f e x told book))
  removed_alike f told book ends moves k command =
      let z : Endpoint = record x { gone = true } in
      record {
        endpoints = ap (λ (xs : List Endpoint). map queued_endpoint (set xs e z)) ends ∙ map_set_same queued_endpoint d.endpoints e x z here (iso_told z refl refl);
        transfers = ap₂ (λ (xs : List Endpoint) (ts : List Transfer). map (queued_transfer (set xs e z)) (map (let_go_placed (is_iso x.desc.kind) e told) ts)) ends moves ∙ all_go told;
        notes = k.notes;
        command = ap₂ (λ (xs : List Endpoint) (c : Option Command). queued_command (set xs e z) c) ends command ∙ command_stays d.endpoints e x z here refl d.command;
        made = k.made;
        mends = k.mends;
        harvested = k.harvested;
        waiting = k.waiting;
        rung = k.rung;
        cleared = k.cleared;
        bell = k.bell;
      }

  told_alike : (m : Mem) (found : Found) (t : ℕ) (y : Transfer) → slice_get d.transfers t ≡ Some y → is_descriptor y.sort ≡ true → found ≡ found_of d m y y.sort
      → QueuesAlike (queued d) (queued (after_harvest d m e t found (Some x) (Some y))) × ((after_harvest d m e t found (Some x) (Some y)).book ≡ d.book)
  told_alike m found t y there is tells =
      subst (λ (w : Found). QueuesAlike (queued d) (queued (after_harvest d m e t w (Some x) (Some y))) × ((after_harvest d m e t w (Some x) (Some y)).book ≡ d.book)) (sym (tells ∙ found_one y.sort is))
      (by (waits_for e y) (is_served note m y.first))
    where
      note : DescriptorNote
      note = periodic_note d.periodic.notes y.first

      found_one : (s : Sort) → is_descriptor s ≡ true → found_of d m y s ≡ descriptor_found (periodic_note d.periodic.notes y.first) m y.first
      found_one sorts.Descriptor one = refl
      found_one _ one = absurd (false≢true one)

      by : (a b : Bool) → QueuesAlike (queued d) (queued (cond a (served (harvested_as d m e t x y (cond b (founds.Served (errors_in note m y.first)) founds.Active)) e) d))
          × ((cond a (served (harvested_as d m e t x y (cond b (founds.Served (errors_in note m y.first)) founds.Active)) e) d).book ≡ d.book)
      by false b = (queues_same (queued d), refl)
      by true false = (aside d (served d e), refl)
      by true true =
          let z : Endpoint = record x { next = next_after d.transfers e t } in
          let w : Transfer = record y { reported = true } in (
            record {
              endpoints = map_set_same queued_endpoint d.endpoints e x z here (iso_told z refl refl);
              transfers = transfers_stay d.endpoints e x z here refl (set d.transfers t w) ∙ map_set_same (queued_transfer d.endpoints) d.transfers t y w there (describes_same d.endpoints y w is is refl);
              notes = refl;
              command = command_stays d.endpoints e x z here refl d.command;
              made = refl;
              mends = refl;
              harvested = refl;
              waiting = refl;
              rung = refl;
              cleared = refl;
              bell = refl;
            },
            refl,
          )

placed_alike : (p : Parts) (e : ℕ) (o : Option Endpoint) → slice_get p.driver.endpoints e ≡ o → ((x : Endpoint) → o ≡ Some x → is_iso x.desc.kind ≡ true) → IsOrderly p.driver → QueuesAlike (queued p.driver) (queued (after_placed p e o).driver)
placed_alike p e None here iso order = queues_same (queued p.driver)
placed_alike p e (Some x) here iso order = by (is_told x)
  where
    by : (b : Bool) → QueuesAlike (queued p.driver) (queued (removed_with (cond b (reported p.driver lines.Cancel x.desc.name (cancelled_bytes p.driver.notes p.memory e x.queue p.driver.transfers)) p.driver) e x (is_told x) (free_placed p.driver e x (holding p.driver.book p.memory)).book))
    by true = removed_alike p.driver e x here (iso x refl) order (reported p.driver lines.Cancel x.desc.name (cancelled_bytes p.driver.notes p.memory e x.queue p.driver.transfers)) (is_told x) (free_placed p.driver e x (holding p.driver.book p.memory)).book refl refl (aside p.driver (reported p.driver lines.Cancel x.desc.name (cancelled_bytes p.driver.notes p.memory e x.queue p.driver.transfers))) refl
    by false = removed_alike p.driver e x here (iso x refl) order p.driver (is_told x) (free_placed p.driver e x (holding p.driver.book p.memory)).book refl refl (queues_same (queued p.driver)) refl

-- ---- any event of frames

leaves_all : (p : Parts) (row : DriverRow) → AllAlike p.driver (after_driver_row row p).driver → LeavesQueues p row
leaves_all p row a = record { queues = a.queues; book = λ keeps. a.book; tells = λ nothing. a.tells }

pub frames_leave : (row : DriverRow) (p : Parts) → HasOwners p.driver → QueuesTakeTurns p.driver → IsDue p row → IsOfFrames p row → LeavesQueues p row
frames_leave rows.Lend p owners old due of_frames = absurd of_frames
frames_leave (rows.Store b at v) p owners old due of_frames =
    let l = of_frames.link in
    leaves_all p (rows.Store b at v) (list_store p (rows.Store b at v) refl l.command l l.unfinished l.links l.late of_frames.goes_on)
frames_leave (rows.Mend w) p owners old due of_frames = absurd of_frames
frames_leave rows.Frames p owners old due of_frames = leaves_all p rows.Frames (frames_alike p.driver p.registers.frame_index p.driver.command refl)
frames_leave rows.LendDescriptors p owners old due of_frames =
    let d = p.driver in
    let i = lends_described due.command d.made due.next in
    let f = record d { book = (lend_taken (holding d.book (linked_by d p.memory d.command))).book } in
    let a = iso_goes_on f i.endpoint i.first i.count (due.unfinished ∙ ap (λ (c : Command). Some c) i.is) in
    record { queues = lending_alike d f a.queues; book = λ keeps. absurd (false≢true keeps); tells = λ nothing. record { reports = a.tells.reports; store = a.tells.store } }
  where
    lending_alike : (d f : DriverContent) → QueuesAlike (queued (record d { book = f.book })) (queued (advance (record d { book = f.book }))) → QueuesAlike (queued d) (queued (advance (record d { book = f.book })))
    lending_alike d f k = record {
      endpoints = k.endpoints;
      transfers = k.transfers;
      notes = k.notes;
      command = k.command;
      made = k.made;
      mends = k.mends;
      harvested = k.harvested;
      waiting = k.waiting;
      rung = k.rung;
      cleared = k.cleared;
      bell = k.bell;
    }
frames_leave (rows.Unlink t) p owners old due of_frames = leaves_all p (rows.Unlink t) (unlink_alike p t (slice_get p.driver.transfers t))
frames_leave (rows.ReleaseRemoved (removed.Descriptor t)) p owners old due of_frames =
    let d = p.driver in
    let a = descriptor_alike p t (slice_get d.transfers t) refl
    (λ y there. owners.orderly.unlinked t y (let f = removed_first t t d.periodic.removals due.removal due.first due.is in let one = one_same t in omega (arith, f, one)) there) in
    record { queues = a.0; book = λ keeps. absurd (false≢true keeps); tells = λ nothing. a.1 }
frames_leave (rows.ReleaseRemoved (removed.Endpoint e)) p owners old due of_frames = record {
  queues = placed_alike p e (slice_get p.driver.endpoints e) refl of_frames owners.orderly;
  book = λ keeps. absurd (false≢true keeps);
  tells = λ nothing. absurd (false≢true nothing);
}
frames_leave (rows.ReadFrame n) p owners old due of_frames = record { queues = aside p.driver (after_driver_row (rows.ReadFrame n) p).driver; book = λ keeps. refl; tells = λ nothing. record { reports = refl; store = refl } }
frames_leave (rows.Harvest e t found) p owners old due of_frames =
    let d = p.driver in
    let y = due.transfer in
    let x = due.endpoint in
    let is = of_frames y due.there in
    let at = (waits_is e y due.waits).endpoint in
    let iso = sym (owners.orderly.sorts t y x due.there (ap (slice_get d.endpoints) at ∙ due.here)) ∙ is in
    let a = told_alike d e x due.here iso owners.orderly p.memory found t y due.there is due.tells in
    let same : (after_driver_row (rows.Harvest e t found) p).driver ≡ after_harvest d p.memory e t found (Some x) (Some y) = ap₂ (λ o q. after_harvest d p.memory e t found o q) due.here due.there in
    record {
      queues = subst (λ (f : DriverContent). QueuesAlike (queued d) (queued f)) (sym same) a.0;
      book = λ keeps. ap (λ (f : DriverContent). f.book) same ∙ a.1;
      tells = λ nothing. absurd (false≢true nothing);
    }
frames_leave _ p owners old due of_frames = absurd of_frames
