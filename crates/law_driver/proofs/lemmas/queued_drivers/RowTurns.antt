-- Each event of the driver leaves its queues in turn.
use Rattle.std.proofs.Common.{◌≡◌, ◌≢◌, ℕ, zero, suc, ◌-◌, ◌≤◌, ◌==◌, ◌⊎◌, inl, inr, Bool, true, false, cond, nat_lt, take, drop, List, [], ◌∷◌, ◌++◌, length, set, slice_get, Option, Some, None, ap, sym, subst, ◌∙◌, ⊎_elim, refl, arith}
use Rattle.std.specs.Prelude.{is_none}
use Rattle.std.proofs.lemmas.Bool.{cases_Bool}
use Rattle.std.proofs.lemmas.Option.{same_Some}
use Rattle.usb_base.specs.declared.endpoints.EpDesc.{EpDesc}
use Rattle.usb_base.specs.declared.endpoints.EndCause.{EndCause}
use Rattle.usb_base.specs.declared.reports.What.TheVariants as lines
use Rattle.word_mem.specs.Memory.{Mem}
use Rattle.mem_runs.specs.Book.{Holding, holding, lend_taken}
use Rattle.drv_periodic_table.specs.declared.content.Removed.TheVariants as removed
use Rattle.drv_periodic_table.specs.Periodic.{PeriodicContent, is_periodic}
use Rattle.drv_periodic_table.specs.Linking.{begun_next}
use Rattle.drv_table.specs.declared.content.Reserve.{Reserve}
use Rattle.drv_table.specs.declared.content.Endpoint.{Endpoint}
use Rattle.drv_table.specs.declared.content.Transfer.{Transfer}
use Rattle.drv_table.specs.declared.content.QtdNote.{QtdNote}
use Rattle.drv_table.specs.declared.content.Mend.{Mend}
use Rattle.drv_table.specs.declared.content.Bell.{Bell}
use Rattle.drv_table.specs.declared.content.Command.{Command}
use Rattle.drv_table.specs.declared.content.Command.TheVariants as unfinished
use Rattle.drv_table.specs.declared.rows.DriverRow.{DriverRow}
use Rattle.drv_table.specs.declared.rows.DriverRow.TheVariants as rows
use Rattle.drv_table.specs.declared.rows.Found.{Found}
use Rattle.drv_table.specs.declared.rows.Found.TheVariants as founds
use Rattle.drv_table.specs.DriverContent.{DriverContent, waits_for, next_after}
use Rattle.drv_table.specs.Opening.{opening}
use Rattle.drv_table.specs.Harvests.{end_of, is_stall, noted, reported}
use Rattle.drv_table.specs.Kinds.{is_iso}
use Rattle.drv_table.specs.Parts.{Parts}
use Rattle.drv_table.specs.Commands.{events_of, links, removes_members, no_command, leave_ring, leave_frames, removal_of, finished, list_after, advanced_by, advance}
use Rattle.drv_table.specs.FrameChoice.{framed_notes, with_notes, placement_at, framed_by, linked_by}
use Rattle.drv_table.specs.Releases.{after_transfer, freed_by, is_told, cancelled_bytes, gone_with, free_endpoint, after_endpoint}
use Rattle.drv_table.specs.Removals.{after_unlink, after_descriptor, free_placed, removed_with, after_placed}
use Rattle.drv_table.specs.Harvesting.{served, told_with, mends_of, after_end, harvested_as, after_harvest}
use Rattle.drv_table.specs.Rows.{driver_row, after_driver_row}
use Rattle.claims_driver.specs.Owners.{is_descriptor}
use Rattle.claims_driver.specs.Leaving.{times, owes, IsOrderly, HasOwners}
use Rattle.law_driver.specs.run_owners.Due.{IsDue}
use Rattle.law_driver.proofs.lemmas.run_owners.Orders.{one_same}
use Rattle.law_driver.proofs.lemmas.run_owners.Leaves.{no_command_orderly, first_removed}
use Rattle.law_driver.proofs.lemmas.run_owners.Reasons.{each_event_is_due}
use Rattle.law_driver.proofs.lemmas.run_owners.Rows.{due_orderly}
use Rattle.law_driver.specs.chained_transfers.AsynchronousTurns.{AsynchronousTakesTurns}
use Rattle.law_driver.proofs.lemmas.chained_transfers.Moves.{descs_same, moves_same}
use Rattle.law_driver.proofs.lemmas.chained_transfers.Stalled.{behind_tells}
use Rattle.law_driver.proofs.lemmas.chained_transfers.Rows.{set_which}
use Rattle.law_driver.proofs.lemmas.chained_transfers.Events.{due_leaves, new_driver_takes_asynchronous_turns}
use Rattle.law_driver.specs.queued_drivers.Queued.{queued, queued_parts, FitsKind, QueuesTakeTurns}
use Rattle.law_driver.specs.queued_drivers.Rows.{QueuesAlike, IsToldAlike, LeavesQueues, out_parts}
use Rattle.law_driver.proofs.lemmas.queued_drivers.RowLists.{descriptor_told, transfer_at}
use Rattle.law_driver.proofs.lemmas.queued_drivers.RowEvents.{row_told}
use Rattle.law_driver.proofs.lemmas.queued_drivers.RowOwners.{queued_orderly}
use Rattle.law_driver.proofs.lemmas.queued_drivers.RowFrames.{busy_idle, chain_lends_agree, chains_finish, frames_leave}
use Rattle.law_driver.proofs.lemmas.queued_drivers.RowRemovals.{goes_back}

-- ---- the same queues are in the same turn

-- f, with the queues of g
abbrev copied : DriverContent → DriverContent → DriverContent
copied f g = record f {
  endpoints = g.endpoints;
  transfers = g.transfers;
  notes = g.notes;
  command = g.command;
  made = g.made;
  mends = g.mends;
  harvested = g.harvested;
  waiting = g.waiting;
  rung = g.rung;
  cleared = g.cleared;
  bell = g.bell;
}

pub alike_subst : (P : DriverContent → Type 0) (g f : DriverContent) → QueuesAlike g f → P (copied f g) → P f
alike_subst P g f k at =
    let p1 = subst (λ (v : List Endpoint). P (record (copied f g) { endpoints = v })) (sym k.endpoints) at in
    let p2 = subst (λ (v : List Transfer). P (record (copied f g) { endpoints = f.endpoints; transfers = v })) (sym k.transfers) p1 in
    let p3 = subst (λ (v : List QtdNote). P (record (copied f g) { endpoints = f.endpoints; transfers = f.transfers; notes = v })) (sym k.notes) p2 in
    let p4 = subst (λ (v : Option Command). P (record (copied f g) { endpoints = f.endpoints; transfers = f.transfers; notes = f.notes; command = v })) (sym k.command) p3 in
    let p5 = subst (λ (v : ℕ). P (record (copied f g) { endpoints = f.endpoints; transfers = f.transfers; notes = f.notes; command = f.command; made = v })) (sym k.made) p4 in
    let p6 = subst (λ (v : List Mend). P (record f { mends = v; harvested = g.harvested; waiting = g.waiting; rung = g.rung; cleared = g.cleared; bell = g.bell })) (sym k.mends) p5 in
    let p7 = subst (λ (v : List ℕ). P (record f { harvested = v; waiting = g.waiting; rung = g.rung; cleared = g.cleared; bell = g.bell })) (sym k.harvested) p6 in
    let p8 = subst (λ (v : List ℕ). P (record f { waiting = v; rung = g.rung; cleared = g.cleared; bell = g.bell })) (sym k.waiting) p7 in
    let p9 = subst (λ (v : List ℕ). P (record f { rung = v; cleared = g.cleared; bell = g.bell })) (sym k.rung) p8 in
    let p10 = subst (λ (v : List ℕ). P (record f { cleared = v; bell = g.bell })) (sym k.cleared) p9 in
    subst (λ (v : Bell). P (record f { bell = v })) (sym k.bell) p10

pub turns_alike : (g d : DriverContent) → QueuesAlike g (queued d) → AsynchronousTakesTurns g → AsynchronousTakesTurns (queued d)
turns_alike g d k old =
    let r = old.asynchronous in
    let f = copied (queued d) g in
    alike_subst AsynchronousTakesTurns g (queued d) k (record {
      asynchronous = record { endpoints = r.endpoints; moves = moves_same g f (descs_same g.endpoints) r.moves; command = r.command; leaver = r.leaver; unlinks = refl; removals = refl };
      chained = record { some = old.chained.some; next = old.chained.next; last = old.chained.last };
      turns = record { places = old.turns.places; turns = old.turns.turns; returned = old.turns.returned };
    })

pub orderly_alike : (g d : DriverContent) → QueuesAlike g (queued d) → IsOrderly g → IsOrderly (queued d)
orderly_alike g d k old = alike_subst IsOrderly g (queued d) k (record {
  harvests = λ t. let h = old.harvests t in omega (arith, h);
  leaving = old.leaving;
  removed = λ e. omega arith;
  steady = old.steady;
  within = old.within;
  sorts = old.sorts;
  unlinked = λ t y some there. absurd (omega (arith, some));
  untold = old.untold;
  leaver = old.leaver;
})

-- ---- no event opens an endpoint otherwise, or cancels one; an endpoint leaves its frames by its command

record WasOne (d : DriverContent) (k : ℕ) (z : Endpoint) : Type 0 where
  one : Endpoint
  here : slice_get d.endpoints k ≡ Some one
  desc : z.desc ≡ one.desc
  cancelled : z.cancelled ≡ one.cancelled
  chained : z.chained ≡ false → (one.chained ≡ false) ⊎ (d.command ≡ Some (unfinished.Unchain k))

record Stays (d f : DriverContent) : Type 0 where
  ends : (k : ℕ) (z : Endpoint) → slice_get f.endpoints k ≡ Some z → WasOne d k z
  command : (f.command ≡ d.command) ⊎ (f.command ≡ None)

was_same : (d : DriverContent) (k : ℕ) (z : Endpoint) → slice_get d.endpoints k ≡ Some z → WasOne d k z
was_same d k z here = record { one = z; here = here; desc = refl; cancelled = refl; chained = λ out. inl out }

stays : (d f : DriverContent) → f.endpoints ≡ d.endpoints → (f.command ≡ d.command) ⊎ (f.command ≡ None) → Stays d f
stays d f ends command = record { ends = λ k z here. was_same d k z (ap (λ (xs : List Endpoint). slice_get xs k) (sym ends) ∙ here); command = command }

stays_set : (d f : DriverContent) (e : ℕ) (x z : Endpoint) → slice_get d.endpoints e ≡ Some x → f.endpoints ≡ set d.endpoints e z → z.desc ≡ x.desc → z.cancelled ≡ x.cancelled
    → (z.chained ≡ false → (x.chained ≡ false) ⊎ (d.command ≡ Some (unfinished.Unchain e))) → (f.command ≡ d.command) ⊎ (f.command ≡ None) → Stays d f
stays_set d f e x z here ends desc cancelled chained command = record {
  ends = λ k w at. ⊎_elim
      (λ (own : (k ≡ e) × (w ≡ z)). subst (λ (j : ℕ). WasOne d j w) (sym own.0) (subst (λ (v : Endpoint). WasOne d e v) (sym own.1) (record { one = x; here = here; desc = desc; cancelled = cancelled; chained = chained })))
      (λ (other : slice_get d.endpoints k ≡ Some w). was_same d k w other) (set_which d.endpoints e k x z w here (ap (λ (xs : List Endpoint). slice_get xs k) (sym ends) ∙ at));
  command = command;
}

-- ---- the command goes on

done_stays : (d : DriverContent) (n : ℕ) (q : PeriodicContent) (c : Command) → d.command ≡ Some c → Stays d (finished (record d { made = n; periodic = q }) c)
done_stays d n q (unfinished.Open queue) command = stays d _ refl (inr refl)
done_stays d n q (unfinished.Publish b words) command = stays d _ refl (inr refl)
done_stays d n q (unfinished.Unlink e b link) command = at (slice_get d.endpoints e) refl
  where
    at : (o : Option Endpoint) → slice_get d.endpoints e ≡ o → Stays d (leave_ring (no_command (record d { made = n; periodic = q })) e o)
    at None here = stays d _ refl (inr refl)
    at (Some x) here = by x.linked
      where
        by : (b : Bool) → Stays d (cond b (record (no_command (record d { made = n; periodic = q })) { waiting = d.waiting ++ e ∷ []; endpoints = set d.endpoints e (record x { linked = false }) }) (no_command (record d { made = n; periodic = q })))
        by true = stays_set d _ e x (record x { linked = false }) here refl refl refl (λ out. inl out) (inr refl)
        by false = stays d _ refl (inr refl)
done_stays d n q unfinished.Chain command = stays d _ refl (inr refl)
done_stays d n q (unfinished.Iso e t count) command = stays d _ refl (inr refl)
done_stays d n q (unfinished.Unchain e) command = at (slice_get d.endpoints e) refl
  where
    at : (o : Option Endpoint) → slice_get d.endpoints e ≡ o → Stays d (leave_frames (no_command (record d { made = n; periodic = q })) e o)
    at None here = stays d _ refl (inr refl)
    at (Some x) here = by x.chained
      where
        by : (b : Bool)
            → Stays d (cond b (record (no_command (record d { made = n; periodic = q })) { endpoints = set d.endpoints e (record x { chained = false }); periodic = record q { removals = q.removals ++ removal_of (removed.Endpoint e) ∷ [] } }) (no_command (record d { made = n; periodic = q })))
        by true = stays_set d _ e x (record x { chained = false }) here refl refl refl (λ out. inr command) (inr refl)
        by false = stays d _ refl (inr refl)

advanced_stays : (d : DriverContent) (o : Option Command) → d.command ≡ o → Stays d (advanced_by d o)
advanced_stays d None command = stays d d refl (inl refl)
advanced_stays d (Some c) command =
    let q = begun_next (removes_members c) (record d.periodic { list = list_after d c }) in
    by q (nat_lt (suc d.made) (length (events_of c))) (links c) (is_none q.list.work)
  where
    by : (q : PeriodicContent) (a b k : Bool) → Stays d (cond a (record d { made = suc d.made })
        (cond b (cond k (finished (record d { made = length (events_of c); periodic = q }) c) (record d { made = length (events_of c); periodic = q })) (finished d c)))
    by q true b k = stays d _ refl (inl refl)
    by q false true true = done_stays d (length (events_of c)) q c command
    by q false true false = stays d _ refl (inl refl)
    by q false false k = done_stays d d.made d.periodic c command

-- .. of a content with other runs, or other frames
advance_stays : (d g : DriverContent) → g.endpoints ≡ d.endpoints → g.command ≡ d.command → Stays d (advance g)
advance_stays d g ends command =
    let k = advanced_stays g g.command refl in
    record {
      ends = λ i z here. let w = k.ends i z here in record {
        one = w.one;
        here = ap (λ (xs : List Endpoint). slice_get xs i) (sym ends) ∙ w.here;
        desc = w.desc;
        cancelled = w.cancelled;
        chained = λ out. ⊎_elim (λ (off : w.one.chained ≡ false). inl off) (λ (its : g.command ≡ Some (unfinished.Unchain i)). inr (sym command ∙ its)) (w.chained out);
      };
      command = ⊎_elim (λ (same : (advance g).command ≡ g.command). inl (same ∙ command)) (λ (none : (advance g).command ≡ None). inr none) k.command;
    }

framed_stays : (d : DriverContent) (n : ℕ) (o : Option Command) → Stays d (framed_by d n o)
framed_stays d n (Some (unfinished.Iso e t count)) = advance_stays d (with_notes d n (take count (drop t d.transfers)) (framed_notes d n e t count (placement_at d e))) refl refl
framed_stays d n _ = stays d d refl (inl refl)

-- ---- what is given back, and what is harvested

transfer_stays : (p : Parts) (t : ℕ) (o : Option Transfer) (h : Holding) → Stays p.driver (after_transfer p t o h).driver
transfer_stays p t None h = stays p.driver _ refl (inl refl)
transfer_stays p t (Some y) h = stays p.driver _ refl (inl refl)

descriptor_stays : (p : Parts) (t : ℕ) (o : Option Transfer) → Stays p.driver (after_descriptor p t o).driver
descriptor_stays p t None = stays p.driver _ refl (inl refl)
descriptor_stays p t (Some y) = stays p.driver _ refl (inl refl)

unlink_stays : (p : Parts) (t : ℕ) (o : Option Transfer) → Stays p.driver (after_unlink p t o).driver
unlink_stays p t None = stays p.driver _ refl (inl refl)
unlink_stays p t (Some y) = stays p.driver _ refl (inl refl)

endpoint_stays : (p : Parts) (e : ℕ) (o : Option Endpoint) → slice_get p.driver.endpoints e ≡ o → Stays p.driver (after_endpoint p e o).driver
endpoint_stays p e None here = stays p.driver _ refl (inl refl)
endpoint_stays p e (Some x) here = by (is_told x)
  where
    by : (b : Bool) → Stays p.driver (gone_with (cond b (reported p.driver lines.Cancel x.desc.name (cancelled_bytes p.driver.notes p.memory e x.queue p.driver.transfers)) p.driver) e x (is_told x) (free_endpoint p.driver e x (holding p.driver.book p.memory)).book)
    by true = stays_set p.driver _ e x (record x { gone = true }) here refl refl refl (λ out. inl out) (inl refl)
    by false = stays_set p.driver _ e x (record x { gone = true }) here refl refl refl (λ out. inl out) (inl refl)

placed_stays : (p : Parts) (e : ℕ) (o : Option Endpoint) → slice_get p.driver.endpoints e ≡ o → Stays p.driver (after_placed p e o).driver
placed_stays p e None here = stays p.driver _ refl (inl refl)
placed_stays p e (Some x) here = by (is_told x)
  where
    by : (b : Bool) → Stays p.driver (removed_with (cond b (reported p.driver lines.Cancel x.desc.name (cancelled_bytes p.driver.notes p.memory e x.queue p.driver.transfers)) p.driver) e x (is_told x) (free_placed p.driver e x (holding p.driver.book p.memory)).book)
    by true = stays_set p.driver _ e x (record x { gone = true }) here refl refl refl (λ out. inl out) (inl refl)
    by false = stays_set p.driver _ e x (record x { gone = true }) here refl refl refl (λ out. inl out) (inl refl)

end_stays : (d f : DriverContent) (e t : ℕ) (x : Endpoint) (stall : Bool) (o : Option EndCause) → f.endpoints ≡ d.endpoints → f.command ≡ d.command → slice_get d.endpoints e ≡ Some x → Stays d (after_end f e t x stall o)
end_stays d f e t x stall (Some cause) ends command here = stays_set d _ e x (record x { ended = Some cause }) here (ap (λ (xs : List Endpoint). set xs e (record x { ended = Some cause })) ends) refl refl (λ out. inl out) (inl command)
end_stays d f e t x false None ends command here =
    let z : Endpoint = record x { next = next_after f.transfers e t } in
    stays_set d _ e x z here (ap (λ (xs : List Endpoint). set xs e z) ends) refl refl (λ out. inl out) (inl command)
end_stays d f e t x true None ends command here =
    let z : Endpoint = record x { next = None } in
    let begun : DriverContent = record f { harvested = f.harvested ++ t ∷ []; endpoints = set f.endpoints e z; mends = f.mends ++ mends_of x } in
    let each = behind_tells begun e x.desc.name (suc t) (length f.transfers - suc t) in
    stays_set d _ e x z here (each.endpoints ∙ ap (λ (xs : List Endpoint). set xs e z) ends) refl refl (λ out. inl out) (inl (each.command ∙ command))

harvest_stays : (d : DriverContent) (m : Mem) (e t : ℕ) (found : Found) (o : Option Endpoint) (q : Option Transfer) → slice_get d.endpoints e ≡ o → Stays d (after_harvest d m e t found o q)
harvest_stays d m e t found None q here = stays d d refl (inl refl)
harvest_stays d m e t found (Some x) None here = stays d d refl (inl refl)
harvest_stays d m e t found (Some x) (Some y) here = by (waits_for e y)
  where
    at : (f : Found) → Stays d (harvested_as d m e t x y f)
    at founds.Active = stays d _ refl (inl refl)
    at (founds.Moved n) = stays d _ refl (inl refl)
    at (founds.Served errors) = stays_set d _ e x (record x { next = next_after d.transfers e t }) here refl refl refl (λ out. inl out) (inl refl)
    at (founds.Ended n what) = end_stays d (told_with d m t y what x.desc.name (noted d.notes y.place n)) e t x (is_stall what) (end_of x.desc.kind what) refl refl here

    by : (b : Bool) → Stays d (cond b (served (harvested_as d m e t x y found) e) d)
    by true = let k = at found in record { ends = k.ends; command = k.command }
    by false = stays d d refl (inl refl)

row_stays : (row : DriverRow) (p : Parts) → Stays p.driver (after_driver_row row p).driver
row_stays rows.Lend p = advance_stays p.driver (record p.driver { book = (lend_taken (holding p.driver.book p.memory)).book }) refl refl
row_stays (rows.Store b at v) p = advance_stays p.driver p.driver refl refl
row_stays rows.Frames p = framed_stays p.driver p.registers.frame_index p.driver.command
row_stays rows.LendDescriptors p = advance_stays p.driver (record p.driver { book = (lend_taken (holding p.driver.book (linked_by p.driver p.memory p.driver.command))).book }) refl refl
row_stays (rows.Unlink t) p = unlink_stays p t (slice_get p.driver.transfers t)
row_stays (rows.ReleaseRemoved (removed.Descriptor t)) p = descriptor_stays p t (slice_get p.driver.transfers t)
row_stays (rows.ReleaseRemoved (removed.Endpoint e)) p = placed_stays p e (slice_get p.driver.endpoints e) refl
row_stays (rows.ReleaseTransfer t) p = transfer_stays p t (slice_get p.driver.transfers t) (freed_by p.driver (holding p.driver.book p.memory) (slice_get p.driver.transfers t))
row_stays (rows.ReleaseEndpoint e) p = endpoint_stays p e (slice_get p.driver.endpoints e) refl
row_stays (rows.Harvest e t found) p = harvest_stays p.driver p.memory e t found (slice_get p.driver.endpoints e) (slice_get p.driver.transfers t) refl
row_stays _ p = stays p.driver _ refl (inl refl)

-- ---- any event

-- whether the command is an open in frames
pub is_chain : (c : Command) → (c ≡ unfinished.Chain) ⊎ (c ≢ unfinished.Chain)
is_chain (unfinished.Open queue) = inr (λ e. cc)
is_chain (unfinished.Publish b words) = inr (λ e. cc)
is_chain (unfinished.Unlink e b link) = inr (λ e. cc)
is_chain unfinished.Chain = inl refl
is_chain (unfinished.Iso e t count) = inr (λ e. cc)
is_chain (unfinished.Unchain e) = inr (λ e. cc)

pub not_chain : (p : Parts) (c : Command) → p.driver.command ≡ Some c → c ≢ unfinished.Chain → p.driver.command ≢ Some unfinished.Chain
not_chain p c command other chain = other (same_Some c unfinished.Chain (sym command ∙ chain))

pub record KeepsTurns (f : DriverContent) : Type 0 where
  pub turns : AsynchronousTakesTurns (queued f)
  pub orderly : IsOrderly (queued f)

module _ (p : Parts) (owners : HasOwners p.driver) (old : QueuesTakeTurns p.driver) where
  orderly : IsOrderly (queued p.driver)
  orderly = queued_orderly p.driver old.harvested owners.orderly

  told_keeps : (row : DriverRow) → IsToldAlike p row → KeepsTurns (after_driver_row row p).driver
  told_keeps row told = record {
    turns = subst (λ (q : Parts). AsynchronousTakesTurns q.driver) (sym told.same) (due_leaves row (queued_parts p) told.due orderly old.turns).turns;
    orderly = subst (λ (q : Parts). IsOrderly q.driver) (sym told.same) (due_orderly row (queued_parts p) told.due orderly);
  }

  alike_keeps : (g f : DriverContent) → QueuesAlike g (queued f) → AsynchronousTakesTurns g → IsOrderly g → KeepsTurns f
  alike_keeps g f k turns order = record { turns = turns_alike g f k turns; orderly = orderly_alike g f k order }

  left_keeps : (row : DriverRow) → LeavesQueues p row → KeepsTurns (after_driver_row row p).driver
  left_keeps row k = alike_keeps (queued p.driver) (after_driver_row row p).driver k.queues old.turns orderly

  -- an open in frames
  over_keeps : (row : DriverRow) → IsDue p row → p.driver.command ≡ Some unfinished.Chain → (after_driver_row row p).driver.command ≡ None → KeepsTurns (after_driver_row row p).driver
  over_keeps row due chain none =
      let q = queued p.driver in
      let r = old.turns.asynchronous in
      let k = chains_finish p row due (record { chain = chain; finished = none }) in
      alike_keeps (no_command q) (after_driver_row row p).driver k.queues (record {
        asynchronous = record { endpoints = r.endpoints; moves = moves_same q (no_command q) (descs_same q.endpoints) r.moves; command = tt; leaver = λ e x is here. absurd (cc); unlinks = refl; removals = refl };
        chained = record { some = old.turns.chained.some; next = old.turns.chained.next; last = old.turns.chained.last };
        turns = record { places = old.turns.turns.places; turns = old.turns.turns.turns; returned = old.turns.turns.returned };
      }) (no_command_orderly orderly)

  lend_keeps : IsDue p rows.Lend → (c : Option Command) → (after_driver_row rows.Lend p).driver.command ≡ c → p.driver.command ≡ Some unfinished.Chain → KeepsTurns (after_driver_row rows.Lend p).driver
  lend_keeps due None is chain = over_keeps rows.Lend due chain is
  lend_keeps due (Some c) is chain =
      let k = chain_lends_agree p due (record { chain = chain; unfinished = λ none. let e : ◌≡◌ {A = Option Command} None (Some c) = sym none ∙ is in cc }) in
      alike_keeps (after_driver_row rows.Lend (queued_parts p)).driver (after_driver_row rows.Lend p).driver k.queues (due_leaves rows.Lend (queued_parts p) k.due orderly old.turns).turns (due_orderly rows.Lend (queued_parts p) k.due orderly)

  pub row_keeps : (row : DriverRow) → IsDue p row → KeepsTurns (after_driver_row row p).driver
  row_keeps rows.Lend due = ⊎_elim
      (λ (chain : due.command ≡ unfinished.Chain). lend_keeps due (after_driver_row rows.Lend p).driver.command refl (due.unfinished ∙ ap (λ (c : Command). Some c) chain))
      (λ (other : due.command ≢ unfinished.Chain). told_keeps rows.Lend (row_told rows.Lend p owners old due (not_chain p due.command due.unfinished other))) (is_chain due.command)
  row_keeps (rows.Store b at v) (inl next) = told_keeps (rows.Store b at v) (row_told (rows.Store b at v) p owners old (inl next) next)
  row_keeps (rows.Store b at v) (inr link) = by (advance p.driver).command refl
    where
      by : (o : Option Command) → (advance p.driver).command ≡ o → KeepsTurns (advance p.driver)
      by (Some c) is = left_keeps (rows.Store b at v) (frames_leave (rows.Store b at v) p owners old (inr link) (record { link = link; goes_on = λ chain none. let e : ◌≡◌ {A = Option Command} None (Some c) = sym none ∙ is in cc }))
      by None is = ⊎_elim
          (λ (chain : link.command ≡ unfinished.Chain). over_keeps (rows.Store b at v) (inr link) (link.unfinished ∙ ap (λ (c : Command). Some c) chain) is)
          (λ (other : link.command ≢ unfinished.Chain).
          left_keeps (rows.Store b at v) (frames_leave (rows.Store b at v) p owners old (inr link) (record { link = link; goes_on = λ chain none. absurd (not_chain p link.command link.unfinished other chain) })))
          (is_chain link.command)
  row_keeps rows.Frames due = left_keeps rows.Frames (frames_leave rows.Frames p owners old due tt)
  row_keeps rows.LendDescriptors due = left_keeps rows.LendDescriptors (frames_leave rows.LendDescriptors p owners old due tt)
  row_keeps (rows.Unlink t) due = left_keeps (rows.Unlink t) (frames_leave (rows.Unlink t) p owners old due tt)
  row_keeps (rows.ReleaseRemoved (removed.Descriptor t)) due = left_keeps (rows.ReleaseRemoved (removed.Descriptor t)) (frames_leave (rows.ReleaseRemoved (removed.Descriptor t)) p owners old due tt)
  row_keeps (rows.ReleaseRemoved (removed.Endpoint e)) due =
      let row = rows.ReleaseRemoved (removed.Endpoint e) in
      let l = first_removed e due.removal due.first due.is owners.orderly in
      ⊎_elim
      (λ (iso : is_iso l.endpoint.desc.kind ≡ true). left_keeps row (frames_leave row p owners old due (λ x here. ap (λ (z : Endpoint). is_iso z.desc.kind) (same_Some x l.endpoint (sym here ∙ l.here)) ∙ iso)))
      (λ (queue : is_iso l.endpoint.desc.kind ≡ false).
      let g = goes_back p e l.endpoint owners old due l.here queue in
      let release = rows.ReleaseEndpoint e in
      alike_keeps (after_driver_row release (out_parts p e)).driver (after_driver_row row p).driver g.queues (due_leaves release (out_parts p e) g.due g.owners.orderly g.turns).turns (due_orderly release (out_parts p e) g.due g.owners.orderly))
      (cases_Bool (is_iso l.endpoint.desc.kind))
  row_keeps (rows.ReadFrame n) due = left_keeps (rows.ReadFrame n) (frames_leave (rows.ReadFrame n) p owners old due tt)
  row_keeps (rows.Harvest e t found) due =
      let row = rows.Harvest e t found in
      let same = λ (y : Transfer) (there : slice_get p.driver.transfers t ≡ Some y). ap (λ (z : Transfer). is_descriptor z.sort) (same_Some y due.transfer (sym there ∙ due.there)) in
      ⊎_elim
      (λ (is : is_descriptor due.transfer.sort ≡ true). left_keeps row (frames_leave row p owners old due (λ y there. same y there ∙ is)))
      (λ (moves : is_descriptor due.transfer.sort ≡ false). told_keeps row (row_told row p owners old due (λ y there. same y there ∙ moves)))
      (cases_Bool (is_descriptor due.transfer.sort))
  row_keeps row due = told_keeps row (row_told row p owners old due tt)

some_times : (i n : ℕ) (ns : List ℕ) → slice_get ns i ≡ Some n → 1 ≤ times n ns
some_times i n [] at = absurd (cc)
some_times zero n (k ∷ ns) at = let is = ap (λ (j : ℕ). cond (j == n) 1 0) (same_Some k n at) ∙ one_same n in omega (arith, is)
some_times (suc i) n (k ∷ ns) at = let more = some_times i n ns at in omega (arith, more)

-- none of those that are to be given back is a descriptor: it was given back for the queues
none_harvested : (f : DriverContent) → IsOrderly (queued f) → (i t : ℕ) (y : Transfer) → slice_get f.harvested i ≡ Some t → slice_get f.transfers t ≡ Some y → is_descriptor y.sort ≡ false
none_harvested f order i t y at there = ⊎_elim
    (λ (is : is_descriptor y.sort ≡ true).
    let some = some_times i t f.harvested at in
    let few = order.harvests t in
    let none = ap owes (transfer_at f.endpoints f.transfers t y there) ∙ ap (λ (z : Transfer). owes (Some z)) (descriptor_told f.endpoints y is) in
    absurd (omega (arith, some, few, none)))
    (λ (moves : is_descriptor y.sort ≡ false). moves) (cases_Bool (is_descriptor y.sort))

pub row_keeps_queues : (row : DriverRow) (p : Parts) → HasOwners p.driver → QueuesTakeTurns p.driver → IsDue p row → QueuesTakeTurns (after_driver_row row p).driver
row_keeps_queues row p owners old due =
    let k = row_keeps p owners old row due in
    let s = row_stays row p in
    record {
      turns = k.turns;
      kinds_fit = λ e x here. let w = s.ends e x here in subst (λ (z : EpDesc). FitsKind z) (sym w.desc) (old.kinds_fit e w.one w.here);
      harvested = none_harvested (after_driver_row row p).driver k.orderly;
      cancelled = λ e x here frames out.
          let w = s.ends e x here in
          w.cancelled
          ∙ ⊎_elim
          (λ (off : w.one.chained ≡ false). old.cancelled e w.one w.here (ap (λ (z : EpDesc). is_periodic z.kind) (sym w.desc) ∙ frames) off)
          (λ (its : p.driver.command ≡ Some (unfinished.Unchain e)). old.leaver e w.one its w.here) (w.chained out);
      leaver = λ e x its here. let w = s.ends e x here in w.cancelled ∙ old.leaver e w.one (was (unfinished.Unchain e) its) w.here;
      ring = λ e b link x its here. let w = s.ends e x here in ap (λ (z : EpDesc). is_periodic z.kind) w.desc ∙ old.ring e b link w.one (was (unfinished.Unlink e b link) its) w.here;
    }
  where
    was : (c : Command) → (after_driver_row row p).driver.command ≡ Some c → p.driver.command ≡ Some c
    was c its = ⊎_elim
        (λ (same : (after_driver_row row p).driver.command ≡ p.driver.command). sym same ∙ its)
        (λ (none : (after_driver_row row p).driver.command ≡ None). absurd (busy_idle (after_driver_row row p).driver c its none)) (row_stays row p).command

pub rows_keep_queues : (p : Parts) → HasOwners p.driver → QueuesTakeTurns p.driver
    → QueuesTakeTurns (after_driver_row (driver_row p) p).driver
rows_keep_queues p owners old = row_keeps_queues (driver_row p) p owners old (each_event_is_due p)

-- ---- the opening

pub new_driver_queues : (n : ℕ) (room : Reserve) → QueuesTakeTurns (opening n room).driver
new_driver_queues n room = record {
  turns = turns_alike (opening n room).driver (opening n room).driver (record { endpoints = refl; transfers = refl; notes = refl; command = refl; made = refl; mends = refl; harvested = refl; waiting = refl; rung = refl; cleared = refl; bell = refl }) (new_driver_takes_asynchronous_turns n room);
  kinds_fit = λ e x here. absurd (cc);
  harvested = λ i t y at. absurd (cc);
  cancelled = λ e x here. absurd (cc);
  leaver = λ e x its. absurd (cc);
  ring = λ e b link x its. absurd (cc);
}
