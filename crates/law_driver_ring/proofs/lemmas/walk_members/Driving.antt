-- Each event of the driver leaves the walk among the queue heads that it may meet.
use Rattle.std.proofs.Common.{◌≡◌, ◌≢◌, ℕ, suc, Bool, true, false, cond, nat_lt, List, [], ◌∷◌, ◌++◌, length, take, drop, set, slice_get, Option, Some, None, ap, sym, subst, ◌∙◌, ⊎_elim, refl}
use Rattle.std.specs.Prelude.{is_none}
use Rattle.std.proofs.lemmas.Bool.{cases_eq, false≢true}
use Rattle.law_driver.proofs.Common.{among_later}
use Rattle.op_registers.specs.RegisterFile.{RegisterFile}
use Rattle.mem_runs.specs.Book.{holding, lend_taken}
use Rattle.async_walk.specs.Walk.{Walk}
use Rattle.async_walk.specs.Rows.{cursor_link}
use Rattle.async_walk.specs.declared.state.Cursor.{Cursor}
use Rattle.async_walk.specs.declared.state.Cursor.TheVariants as cursors
use Rattle.link_words.specs.declared.kinds.Link.TheVariants as links
use Rattle.drv_table.specs.declared.content.Endpoint.{Endpoint}
use Rattle.drv_table.specs.declared.content.Command.{Command}
use Rattle.drv_table.specs.declared.content.Command.TheVariants as unfinished
use Rattle.drv_table.specs.declared.rows.DriverRow.{DriverRow}
use Rattle.drv_table.specs.declared.rows.DriverRow.TheVariants as rows
use Rattle.drv_periodic_table.specs.declared.content.Removed.{Removed}
use Rattle.drv_periodic_table.specs.declared.content.Removed.TheVariants as removed
use Rattle.drv_periodic_table.specs.Linking.{begun_next}
use Rattle.drv_table.specs.DriverContent.{DriverContent}
use Rattle.drv_table.specs.Parts.{Parts}
use Rattle.drv_table.specs.Commands.{events_of, links, removes_members, leave_ring, leave_frames, removal_of, no_command, finished, list_after, or_finished, linked_on, advanced_by, advance}
use Rattle.drv_table.specs.FrameChoice.{framed_notes, with_notes, placement_at, framed_by, linked_by}
use Rattle.drv_table.specs.Rows.{driver_row, after_driver_row}
use Rattle.drv_table.specs.Releases.{after_transfer, after_endpoint, freed_by, cancel_told}
use Rattle.drv_table.specs.Removals.{after_descriptor, after_placed, after_removed, after_unlink}
use Rattle.drv_table.specs.declared.content.Transfer.{Transfer}
use Rattle.law_driver.specs.run_owners.Due.{IsDue}
use Rattle.law_driver.proofs.lemmas.run_owners.Released.{cancel_same}
use Rattle.law_driver.proofs.lemmas.run_owners.Reasons.{each_event_is_due}
use Rattle.claims_driver.specs.Ring.{IsQueueOf, IsAmong}
use Rattle.law_driver.proofs.lemmas.ring_members.Leaving.{GoOn, same_go_on, among_more, among_last, queue_still}
use Rattle.law_driver.proofs.lemmas.ring_members.Harvests.{endpoint_set, told_stays, harvest_stays}
use Rattle.law_driver.proofs.lemmas.ring_members.Events.{leaves_one}
use Rattle.claims_driver.specs.Walk.{IsReached, at_head, at_member, at_waiting, at_rung, IsWalkIn, IsBellIn}
use Rattle.law_driver_ring.proofs.lemmas.walk_members.Leading.{among_front}

-- ---- the walk, where what may be met is no less

abbrev pub Reaches : DriverContent → Bool → DriverContent → Bool → Type 0
Reaches d rings e now = (b : ℕ) → IsReached d rings b → IsReached e now b

pub walk_mapped : (d e : DriverContent) (r s : RegisterFile) (w : Walk) → s.async_list_address ≡ r.async_list_address → Reaches d r.doorbell e s.doorbell → IsWalkIn d r w → IsWalkIn e s w
walk_mapped d e r s w address more old = record {
  start = address ∙ old.start;
  cursor = record { block = old.cursor.block; is = same w.cursor ∙ old.cursor.is; reached = more old.cursor.block old.cursor.reached };
  copy = λ h there.
      let c = old.copy h there in
      record { block = c.block; at = c.at; reached = more c.block c.reached; next = record { block = c.next.block; is = c.next.is; reached = more c.next.block c.next.reached } };
}
  where
    same : (c : Cursor) → cursor_link s c ≡ cursor_link r c
    same cursors.Start = ap links.Qh address
    same (cursors.At link) = refl

-- ---- what may be met

-- endpoints that go on as they were
pub goes_reach : (d e : DriverContent) (rings : Bool) → GoOn d.endpoints e.endpoints → e.waiting ≡ d.waiting → e.rung ≡ d.rung → Reaches d rings e rings
goes_reach d e rings on ws rs = reach
  where
    queue : (f b : ℕ) (at : IsQueueOf d.endpoints f b) → IsQueueOf e.endpoints f b
    queue f b at = let g = on f at.endpoint at.here in record { endpoint = g.endpoint; here = g.here; queue = g.queue ∙ at.queue }

    reach : (b : ℕ) → IsReached d rings b → IsReached e rings b
    reach b (at_head h) = at_head h
    reach b (at_member f at l) = at_member f (queue f b at) ((on f at.endpoint at.here).linked l)
    reach b (at_waiting f at a) = at_waiting f (queue f b at) (subst (λ (vs : List ℕ). IsAmong f vs) (sym ws) a)
    reach b (at_rung f at a r) = at_rung f (queue f b at) (subst (λ (vs : List ℕ). IsAmong f vs) (sym rs) a) r

same_reach : (d e : DriverContent) (rings : Bool) → e.endpoints ≡ d.endpoints → e.waiting ≡ d.waiting → e.rung ≡ d.rung → Reaches d rings e rings
same_reach d e rings xs ws rs =
    goes_reach d e rings (λ f y here. record { endpoint = y; here = ap (λ (ys : List Endpoint). slice_get ys f) xs ∙ here; queue = refl; linked = λ l. l }) ws rs

-- one that leaves the ring waits
left_reach : (d : DriverContent) (rings : Bool) (e : ℕ) (o : Option Endpoint) → slice_get d.endpoints e ≡ o → Reaches d rings (leave_ring d e o) rings
left_reach d rings e None here = λ b r. r
left_reach d rings e (Some x) here = λ b. by b x.linked
  where
    left : (b : ℕ) → IsReached d rings b → IsReached (record d { waiting = d.waiting ++ e ∷ []; endpoints = set d.endpoints e (record x { linked = false }) }) rings b
    left b (at_head h) = at_head h
    left b (at_member f at l) =
        ⊎_elim
        (λ (same : f ≡ e). at_waiting e (subst (λ k. IsQueueOf (set d.endpoints e (record x { linked = false })) k b) same (queue_still d.endpoints (set d.endpoints e (record x { linked = false })) e f b (leaves_one d.endpoints e x here) at)) (among_last d.waiting e))
        (λ (differs : f ≢ e). at_member f (record { endpoint = at.endpoint; here = (leaves_one d.endpoints e x here).others f at.endpoint differs at.here; queue = at.queue }) l) (cases_eq f e)
    left b (at_waiting f at a) = at_waiting f (queue_still d.endpoints (set d.endpoints e (record x { linked = false })) e f b (leaves_one d.endpoints e x here) at) (among_more f d.waiting e a)
    left b (at_rung f at a r) = at_rung f (queue_still d.endpoints (set d.endpoints e (record x { linked = false })) e f b (leaves_one d.endpoints e x here) at) a r

    by : (b : ℕ) (l : Bool) → IsReached d rings b → IsReached (cond l (record d { waiting = d.waiting ++ e ∷ []; endpoints = set d.endpoints e (record x { linked = false }) }) d) rings b
    by b true r = left b r
    by b false r = r

through : (d e f : DriverContent) (rings : Bool) → Reaches d rings e rings → Reaches e rings f rings → Reaches d rings f rings
through d e f rings one two = λ b r. two b (one b r)

-- one that leaves its frames isn't in the ring
framed_reach : (d : DriverContent) (rings : Bool) (e : ℕ) (o : Option Endpoint) → slice_get d.endpoints e ≡ o → Reaches d rings (leave_frames d e o) rings
framed_reach d rings e None here = λ b r. r
framed_reach d rings e (Some x) here = λ b. by b x.chained
  where
    by : (b : ℕ) (l : Bool) → IsReached d rings b → IsReached (cond l (record d { endpoints = set d.endpoints e (record x { chained = false }); periodic = record d.periodic { removals = d.periodic.removals ++ removal_of (removed.Endpoint e) ∷ [] } }) d) rings b
    by b true r = goes_reach d (record d { endpoints = set d.endpoints e (record x { chained = false }); periodic = record d.periodic { removals = d.periodic.removals ++ removal_of (removed.Endpoint e) ∷ [] } }) rings (same_go_on d.endpoints (set d.endpoints e (record x { chained = false })) (endpoint_set d.endpoints e x (record x { chained = false }) here refl)) refl refl b r
    by b false r = r

done_reach : (d : DriverContent) (rings : Bool) (c : Command) → Reaches d rings (finished d c) rings
done_reach d rings (unfinished.Unlink e b link) =
    through d (no_command d) (leave_ring (no_command d) e (slice_get d.endpoints e)) rings (same_reach d (no_command d) rings refl refl refl) (left_reach (no_command d) rings e (slice_get d.endpoints e) refl)
done_reach d rings (unfinished.Unchain e) =
    through d (no_command d) (leave_frames (no_command d) e (slice_get d.endpoints e)) rings (same_reach d (no_command d) rings refl refl refl) (framed_reach (no_command d) rings e (slice_get d.endpoints e) refl)
done_reach d rings _ = same_reach d (no_command d) rings refl refl refl

either_reach : (d : DriverContent) (rings : Bool) (x y : DriverContent) (b : Bool) → Reaches d rings x rings → Reaches d rings y rings → Reaches d rings (cond b x y) rings
either_reach d rings x y true one two = one
either_reach d rings x y false one two = two

pub or_done_reach : (d : DriverContent) (rings : Bool) (c : Command) → Reaches d rings (or_finished d c) rings
or_done_reach d rings c = either_reach d rings (finished d c) d (is_none d.periodic.list.work) (done_reach d rings c) (λ b r. r)

linked_reach : (d : DriverContent) (rings : Bool) (c : Command) → Reaches d rings (linked_on d c) rings
linked_reach d rings c =
    let e = record d { made = length (events_of c); periodic = begun_next (removes_members c) (record d.periodic { list = list_after d c }) } in
    through d e (linked_on d c) rings (same_reach d e rings refl refl refl) (or_done_reach e rings c)

pub advance_reach : (d : DriverContent) (rings : Bool) → Reaches d rings (advance d) rings
advance_reach d rings = by d.command
  where
    by : (o : Option Command) → Reaches d rings (advanced_by d o) rings
    by None = λ b r. r
    by (Some c) =
        either_reach d rings (record d { made = suc d.made }) (cond (links c) (linked_on d c) (finished d c)) (nat_lt (suc d.made) (length (events_of c))) (same_reach d (record d { made = suc d.made }) rings refl refl refl)
        (either_reach d rings (linked_on d c) (finished d c) (links c) (linked_reach d rings c) (done_reach d rings c))

noted_reach : (d : DriverContent) (rings : Bool) (n : ℕ) (o : Option Command) → Reaches d rings (framed_by d n o) rings
noted_reach d rings n (Some (unfinished.Iso e t count)) =
    let f = with_notes d n (take count (drop t d.transfers)) (framed_notes d n e t count (placement_at d e)) in
    through d f (advance f) rings (same_reach d f rings refl refl refl) (advance_reach f rings)
noted_reach d rings n _ = λ b r. r

-- ---- each row

transfer_reach : (p : Parts) (t : ℕ) (o : Option Transfer) → Reaches p.driver p.registers.doorbell (after_transfer p t o (freed_by p.driver (holding p.driver.book p.memory) o)).driver (after_transfer p t o (freed_by p.driver (holding p.driver.book p.memory) o)).registers.doorbell
transfer_reach p t None = λ b r. r
transfer_reach p t (Some x) = same_reach p.driver _ p.registers.doorbell refl refl refl

endpoint_reach : (p : Parts) (e : ℕ) (o : Option Endpoint) → slice_get p.driver.endpoints e ≡ o → Reaches p.driver p.registers.doorbell (after_endpoint p e o).driver (after_endpoint p e o).registers.doorbell
endpoint_reach p e None here = λ b r. r
endpoint_reach p e (Some x) here =
    let d = p.driver in
    let told = cancel_told d p.memory e x in
    let s = told_stays d p.memory e x in
    let there : slice_get told.endpoints e ≡ Some x = ap (λ (xs : List Endpoint). slice_get xs e) (cancel_same d p.memory e x).endpoints ∙ here in
    goes_reach d _ p.registers.doorbell (same_go_on d.endpoints (set told.endpoints e (record x { gone = true })) (λ i. endpoint_set told.endpoints e x (record x { gone = true }) there refl i ∙ s.endpoints i)) s.waiting s.rung

descriptor_reach : (p : Parts) (t : ℕ) (o : Option Transfer) → Reaches p.driver p.registers.doorbell (after_descriptor p t o).driver (after_descriptor p t o).registers.doorbell
descriptor_reach p t None = λ b r. r
descriptor_reach p t (Some x) = same_reach p.driver _ p.registers.doorbell refl refl refl

placed_reach : (p : Parts) (e : ℕ) (o : Option Endpoint) → slice_get p.driver.endpoints e ≡ o → Reaches p.driver p.registers.doorbell (after_placed p e o).driver (after_placed p e o).registers.doorbell
placed_reach p e None here = λ b r. r
placed_reach p e (Some x) here =
    let d = p.driver in
    let told = cancel_told d p.memory e x in
    let s = told_stays d p.memory e x in
    let there : slice_get told.endpoints e ≡ Some x = ap (λ (xs : List Endpoint). slice_get xs e) (cancel_same d p.memory e x).endpoints ∙ here in
    goes_reach d _ p.registers.doorbell (same_go_on d.endpoints (set told.endpoints e (record x { gone = true })) (λ i. endpoint_set told.endpoints e x (record x { gone = true }) there refl i ∙ s.endpoints i)) s.waiting s.rung

removed_reach : (p : Parts) (what : Removed) → Reaches p.driver p.registers.doorbell (after_removed p what).driver (after_removed p what).registers.doorbell
removed_reach p (removed.Descriptor t) = descriptor_reach p t (slice_get p.driver.transfers t)
removed_reach p (removed.Endpoint e) = placed_reach p e (slice_get p.driver.endpoints e) refl

unlinked_reach : (p : Parts) (t : ℕ) (o : Option Transfer) → Reaches p.driver p.registers.doorbell (after_unlink p t o).driver (after_unlink p t o).registers.doorbell
unlinked_reach p t None = λ b r. r
unlinked_reach p t (Some x) = same_reach p.driver _ p.registers.doorbell refl refl refl

-- the doorbell is set: those that wait are rung
rung_reach : (d e : DriverContent) (rings : Bool) → e.endpoints ≡ d.endpoints → e.rung ≡ d.rung ++ d.waiting → Reaches d rings e true
rung_reach d e rings xs rs = reach
  where
    queue : (f b : ℕ) → IsQueueOf d.endpoints f b → IsQueueOf e.endpoints f b
    queue f b at = subst (λ (ys : List Endpoint). IsQueueOf ys f b) (sym xs) at

    member : (f b : ℕ) (ys : List Endpoint) → ys ≡ d.endpoints → (at : IsQueueOf d.endpoints f b) → at.endpoint.linked ≡ true → IsReached e true b
    member f b ys same at l = at_member f (record { endpoint = at.endpoint; here = ap (λ (zs : List Endpoint). slice_get zs f) xs ∙ at.here; queue = at.queue }) l

    reach : (b : ℕ) → IsReached d rings b → IsReached e true b
    reach b (at_head h) = at_head h
    reach b (at_member f at l) = member f b d.endpoints refl at l
    reach b (at_waiting f at a) = at_rung f (queue f b at) (subst (λ (vs : List ℕ). IsAmong f vs) (sym rs) (among_later f d.rung d.waiting a)) refl
    reach b (at_rung f at a r) = at_rung f (queue f b at) (subst (λ (vs : List ℕ). IsAmong f vs) (sym rs) (among_front f d.rung d.waiting a)) refl

-- Async Advance was read, and is cleared: those of the batch are met no more
cleared_reach : (d e : DriverContent) (rings : Bool) → rings ≡ false → e.endpoints ≡ d.endpoints → e.waiting ≡ d.waiting → Reaches d rings e rings
cleared_reach d e rings off xs ws = reach
  where
    queue : (f b : ℕ) → IsQueueOf d.endpoints f b → IsQueueOf e.endpoints f b
    queue f b at = subst (λ (ys : List Endpoint). IsQueueOf ys f b) (sym xs) at

    reach : (b : ℕ) → IsReached d rings b → IsReached e rings b
    reach b (at_head h) = at_head h
    reach b (at_member f at l) = at_member f (record { endpoint = at.endpoint; here = ap (λ (zs : List Endpoint). slice_get zs f) xs ∙ at.here; queue = at.queue }) l
    reach b (at_waiting f at a) = at_waiting f (queue f b at) (subst (λ (vs : List ℕ). IsAmong f vs) (sym ws) a)
    reach b (at_rung f at a r) = absurd (false≢true (sym off ∙ r))

pub row_reach : (row : DriverRow) (p : Parts) → IsDue p row → IsBellIn p.driver p.registers → Reaches p.driver p.registers.doorbell (after_driver_row row p).driver (after_driver_row row p).registers.doorbell
row_reach rows.Lend p due bell =
    let d = record p.driver { book = (lend_taken (holding p.driver.book p.memory)).book } in
    through p.driver d (advance d) p.registers.doorbell (same_reach p.driver d p.registers.doorbell refl refl refl) (advance_reach d p.registers.doorbell)
row_reach (rows.Store b at v) p due bell = advance_reach p.driver p.registers.doorbell
row_reach rows.Frames p due bell = noted_reach p.driver p.registers.doorbell p.registers.frame_index p.driver.command
row_reach rows.LendDescriptors p due bell =
    let d = record p.driver { book = (lend_taken (holding p.driver.book (linked_by p.driver p.memory p.driver.command))).book } in
    through p.driver d (advance d) p.registers.doorbell (same_reach p.driver d p.registers.doorbell refl refl refl) (advance_reach d p.registers.doorbell)
row_reach (rows.Unlink t) p due bell = unlinked_reach p t (slice_get p.driver.transfers t)
row_reach (rows.ReleaseRemoved what) p due bell = removed_reach p what
row_reach (rows.ReleaseTransfer t) p due bell = transfer_reach p t (slice_get p.driver.transfers t)
row_reach (rows.ReleaseEndpoint e) p due bell = endpoint_reach p e (slice_get p.driver.endpoints e) refl
row_reach rows.ClearAdvance p due bell = cleared_reach p.driver _ p.registers.doorbell (bell.heard due.1) refl refl
row_reach rows.RingBell p due bell = rung_reach p.driver _ p.registers.doorbell refl refl
row_reach (rows.Harvest e t found) p due bell =
    let s = harvest_stays p.driver p.memory e t found (slice_get p.driver.endpoints e) (slice_get p.driver.transfers t) refl in
    goes_reach p.driver _ p.registers.doorbell (same_go_on p.driver.endpoints _ s.endpoints) s.waiting s.rung
row_reach rows.Rest p due bell = λ b r. r
row_reach _ p due bell = same_reach p.driver _ p.registers.doorbell refl refl refl

-- no event of the driver writes the ring's address

transfer_address : (p : Parts) (t : ℕ) (o : Option Transfer) → (after_transfer p t o (freed_by p.driver (holding p.driver.book p.memory) o)).registers.async_list_address ≡ p.registers.async_list_address
transfer_address p t None = refl
transfer_address p t (Some x) = refl

endpoint_address : (p : Parts) (e : ℕ) (o : Option Endpoint) → (after_endpoint p e o).registers.async_list_address ≡ p.registers.async_list_address
endpoint_address p e None = refl
endpoint_address p e (Some x) = refl

removed_address : (p : Parts) (what : Removed) → (after_removed p what).registers.async_list_address ≡ p.registers.async_list_address
removed_address p (removed.Descriptor t) = at (slice_get p.driver.transfers t)
  where
    at : (o : Option Transfer) → (after_descriptor p t o).registers.async_list_address ≡ p.registers.async_list_address
    at None = refl
    at (Some x) = refl
removed_address p (removed.Endpoint e) = at (slice_get p.driver.endpoints e)
  where
    at : (o : Option Endpoint) → (after_placed p e o).registers.async_list_address ≡ p.registers.async_list_address
    at None = refl
    at (Some x) = refl

unlinked_address : (p : Parts) (t : ℕ) (o : Option Transfer) → (after_unlink p t o).registers.async_list_address ≡ p.registers.async_list_address
unlinked_address p t None = refl
unlinked_address p t (Some x) = refl

row_address : (row : DriverRow) (p : Parts) → (after_driver_row row p).registers.async_list_address ≡ p.registers.async_list_address
row_address (rows.Unlink t) p = unlinked_address p t (slice_get p.driver.transfers t)
row_address (rows.ReleaseRemoved what) p = removed_address p what
row_address (rows.ReleaseTransfer t) p = transfer_address p t (slice_get p.driver.transfers t)
row_address (rows.ReleaseEndpoint e) p = endpoint_address p e (slice_get p.driver.endpoints e)
row_address _ p = refl

pub the_driver_leaves_the_walk : (p : Parts) (w : Walk) → IsBellIn p.driver p.registers → IsWalkIn p.driver p.registers w → IsWalkIn (after_driver_row (driver_row p) p).driver (after_driver_row (driver_row p) p).registers w
the_driver_leaves_the_walk p w bell old =
    walk_mapped p.driver (after_driver_row (driver_row p) p).driver p.registers (after_driver_row (driver_row p) p).registers w (row_address (driver_row p) p) (row_reach (driver_row p) p (each_event_is_due p) bell) old
