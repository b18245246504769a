-- Each event of the driver keeps whose each run is, and the order of what is given back.
use Rattle.std.proofs.Common.{◌≡◌, ℕ, Bool, true, false, cond, nat_le, map, drop, set, slice_get, Option, Some, None, ap, sym, ◌∙◌, ⊎_elim, refl, arith}
use Rattle.std.proofs.lemmas.Bool.{cases_Bool, false≢true}
use Rattle.std.proofs.lemmas.Option.{same_Some}
use Rattle.law_driver.proofs.Common.{ring_queue}
use Rattle.mem_runs.specs.Book.{holding, lend_taken}
use Rattle.drv_table.specs.declared.content.Endpoint.{Endpoint}
use Rattle.drv_table.specs.declared.content.Transfer.{Transfer}
use Rattle.drv_table.specs.declared.rows.DriverRow.{DriverRow}
use Rattle.drv_table.specs.declared.rows.DriverRow.TheVariants as rows
use Rattle.qh_qtd.specs.declared.token.Token.{Token}
use Rattle.drv_periodic_table.specs.Periodic.{is_periodic}
use Rattle.drv_periodic_table.specs.declared.content.Removal.{Removal}
use Rattle.drv_periodic_table.specs.declared.content.Removed.{Removed}
use Rattle.drv_periodic_table.specs.declared.content.Removed.TheVariants as removed
use Rattle.drv_table.specs.declared.content.QtdNote.{QtdNote}
use Rattle.drv_table.specs.declared.content.Sort.{Sort}
use Rattle.drv_table.specs.declared.content.Sort.TheVariants as sorts
use Rattle.drv_table.specs.declared.rows.Found.TheVariants as founds
use Rattle.drv_table.specs.DriverContent.{DriverContent}
use Rattle.drv_table.specs.Parts.{Parts}
use Rattle.drv_table.specs.Rows.{driver_row, after_driver_row}
use Rattle.drv_table.specs.Releases.{after_transfer, after_endpoint, freed_by, free_endpoint, gone_with, let_go, cancelled_bytes, is_told}
use Rattle.drv_table.specs.Removals.{after_descriptor, after_placed, after_removed, after_unlink, free_placed, removed_with, let_go_placed}
use Rattle.drv_table.specs.Commands.{removal_of, advance}
use Rattle.drv_table.specs.Harvesting.{found_of}
use Rattle.drv_table.specs.FrameChoice.{linked_by}
use Rattle.drv_table.specs.Kinds.{is_iso}
use Rattle.drv_table.specs.Harvests.{note_at, token_in, moved_of, halt_of, done_of, ends_by, found_in, reported}
use Rattle.usb_base.specs.declared.reports.What.TheVariants as lines
use Rattle.word_mem.specs.Memory.{Mem}
use Rattle.claims_driver.specs.Owners.{Owner, is_descriptor, IsOwned}
use Rattle.claims_driver.specs.Leaving.{returns_of, leaver, AreOrderly, IsOrderly}
use Rattle.law_driver.specs.run_owners.Due.{IsDue, IsRemovalDue}
use Rattle.law_driver.proofs.lemmas.run_owners.Stays.{stays_same, stays_owned, advanced, framed, unlinks, lent, harvest_stays}
use Rattle.law_driver.proofs.lemmas.run_owners.Released.{transfer_owned, descriptor_owned, endpoint_owned, placed_owned}
use Rattle.law_driver.proofs.lemmas.run_owners.Orders.{times_first, removed_first, one_same, owed, IsLeft, IsRemoved, transfer_gone, descriptor_gone}
use Rattle.law_driver.proofs.lemmas.run_owners.Leaves.{rung_orderly, cleared_orderly, read_orderly, unlinked_orderly, first_left, first_removed, GoesBy, endpoint_gone, let_go_goes, let_waiting_goes, none_of, less_cleared, less_removed}
use Rattle.law_driver.proofs.lemmas.run_owners.Goes.{advance_orderly, framed_orderly}
use Rattle.law_driver.proofs.lemmas.run_owners.Harvest.{is_served_found, harvest_orderly}
use Rattle.law_driver.proofs.lemmas.run_owners.Reasons.{each_event_is_due}

-- ---- whose each run is

transfer_row_owned : (p : Parts) (t : ℕ) (owner : ℕ → Owner) (o : Option Transfer) → slice_get p.driver.transfers t ≡ o → ((x : Transfer) → o ≡ Some x → x.released ≡ false) → IsOwned p.driver owner → IsOwned (after_transfer p t o (freed_by p.driver (holding p.driver.book p.memory) o)).driver owner
transfer_row_owned p t owner None there on old = old
transfer_row_owned p t owner (Some x) there on old = transfer_owned p t owner x there (on x refl) old

endpoint_row_owned : (p : Parts) (e : ℕ) (owner : ℕ → Owner) (o : Option Endpoint) → slice_get p.driver.endpoints e ≡ o → ((x : Endpoint) → o ≡ Some x → (x.gone ≡ false) × (is_iso x.desc.kind ≡ false)) → IsOwned p.driver owner → IsOwned (after_endpoint p e o).driver owner
endpoint_row_owned p e owner None here on old = old
endpoint_row_owned p e owner (Some x) here on old = endpoint_owned p e owner x here (on x refl).0 (on x refl).1 old

descriptor_row_owned : (p : Parts) (t : ℕ) (owner : ℕ → Owner) (o : Option Transfer) → slice_get p.driver.transfers t ≡ o → ((x : Transfer) → o ≡ Some x → (is_descriptor x.sort ≡ true) × (x.released ≡ false)) → IsOwned p.driver owner → IsOwned (after_descriptor p t o).driver owner
descriptor_row_owned p t owner None there on old = old
descriptor_row_owned p t owner (Some x) there on old = descriptor_owned p t owner x there (on x refl).0 (on x refl).1 old

placed_row_owned : (p : Parts) (e : ℕ) (owner : ℕ → Owner) (o : Option Endpoint) → slice_get p.driver.endpoints e ≡ o → ((x : Endpoint) → o ≡ Some x → x.gone ≡ false) → IsOrderly p.driver → IsOwned p.driver owner → IsOwned (after_placed p e o).driver owner
placed_row_owned p e owner None here on order old = old
placed_row_owned p e owner (Some x) here on order old = placed_owned p e owner x here (on x refl) order old

first_owed : (d : DriverContent) (t : ℕ) (x : Transfer) → slice_get d.harvested 0 ≡ Some t → slice_get d.transfers t ≡ Some x → IsOrderly d → x.released ≡ false
first_owed d t x first there order =
    let o = owed d.transfers t (slice_get d.transfers t) refl (omega (arith, times_first t t d.harvested first, one_same t, order.harvests t)) in
    ap (λ (y : Transfer). y.released) (same_Some x o.transfer (sym there ∙ o.there)) ∙ o.released

first_alive : (d : DriverContent) (e : ℕ) (x : Endpoint) → slice_get d.cleared 0 ≡ Some e → slice_get d.endpoints e ≡ Some x → IsOrderly d → (x.gone ≡ false) × (is_iso x.desc.kind ≡ false)
first_alive d e x first here order =
    let l = first_left e first order in
    let same = same_Some x l.endpoint (sym here ∙ l.here) in
    (ap (λ (y : Endpoint). y.gone) same ∙ l.gone, ring_queue x.desc.kind (ap (λ (y : Endpoint). is_periodic y.desc.kind) same ∙ l.ring))

-- what was unlinked first is a descriptor, or a periodic endpoint, that wasn't given back
removed_owed : (d : DriverContent) (t : ℕ) (x : Transfer) (m : Removal) → slice_get d.periodic.removals 0 ≡ Some m → m.what ≡ removed.Descriptor t → slice_get d.transfers t ≡ Some x → IsOrderly d → (is_descriptor x.sort ≡ true) × (x.released ≡ false)
removed_owed d t x m first what there order =
    let f = removed_first t t d.periodic.removals m first what in
    let o = owed d.transfers t (slice_get d.transfers t) refl (omega (arith, f, one_same t, order.harvests t)) in
    (order.unlinked t x (omega (arith, f, one_same t)) there, ap (λ (y : Transfer). y.released) (same_Some x o.transfer (sym there ∙ o.there)) ∙ o.released)

removed_alive : (d : DriverContent) (e : ℕ) (x : Endpoint) (m : Removal) → slice_get d.periodic.removals 0 ≡ Some m → m.what ≡ removed.Endpoint e → slice_get d.endpoints e ≡ Some x → IsOrderly d → x.gone ≡ false
removed_alive d e x m first what here order =
    let l = first_removed e m first what order in
    ap (λ (y : Endpoint). y.gone) (same_Some x l.endpoint (sym here ∙ l.here)) ∙ l.gone

removed_row_owned : (p : Parts) (what : Removed) (owner : ℕ → Owner) → IsRemovalDue p what → IsOrderly p.driver → IsOwned p.driver owner → IsOwned (after_removed p what).driver owner
removed_row_owned p (removed.Descriptor t) owner due order old =
    descriptor_row_owned p t owner (slice_get p.driver.transfers t) refl (λ x is. removed_owed p.driver t x due.removal due.first due.is is order) old
removed_row_owned p (removed.Endpoint e) owner due order old =
    placed_row_owned p e owner (slice_get p.driver.endpoints e) refl (λ x is. removed_alive p.driver e x due.removal due.first due.is is order) order old

pub due_owned : (row : DriverRow) (p : Parts) (owner : ℕ → Owner) → IsDue p row → IsOrderly p.driver → IsOwned p.driver owner → IsOwned (after_driver_row row p).driver owner
due_owned rows.Lend p owner due order old =
    stays_owned p.driver (advance (record p.driver { book = (lend_taken (holding p.driver.book p.memory)).book })) owner (lent p.driver p.memory) old
due_owned (rows.Store b at v) p owner due order old = stays_owned p.driver (advance p.driver) owner (advanced p.driver) old
due_owned rows.Frames p owner due order old = stays_owned p.driver _ owner (framed p.driver p.registers.frame_index p.driver.command) old
due_owned rows.LendDescriptors p owner due order old =
    let m = linked_by p.driver p.memory p.driver.command in
    stays_owned p.driver (advance (record p.driver { book = (lend_taken (holding p.driver.book m)).book })) owner (lent p.driver m) old
due_owned (rows.Unlink t) p owner due order old = stays_owned p.driver _ owner (unlinks p t (slice_get p.driver.transfers t)) old
due_owned (rows.ReleaseRemoved what) p owner due order old = removed_row_owned p what owner due order old
due_owned (rows.ReleaseTransfer t) p owner due order old =
    transfer_row_owned p t owner (slice_get p.driver.transfers t) refl (λ x is. first_owed p.driver t x due.first is order) old
due_owned (rows.ReleaseEndpoint e) p owner due order old =
    endpoint_row_owned p e owner (slice_get p.driver.endpoints e) refl (λ x is. first_alive p.driver e x due.first is order) old
due_owned (rows.Harvest e t found) p owner due order old =
    stays_owned p.driver _ owner (harvest_stays p.driver p.memory e t found (slice_get p.driver.endpoints e) (slice_get p.driver.transfers t) refl refl) old
due_owned rows.Rest p owner due order old = old
due_owned _ p owner due order old = stays_owned p.driver _ owner (stays_same p.driver _ refl (λ i. refl) (λ i. refl) (λ c. refl) refl refl) old

pub row_owned : (p : Parts) (owner : ℕ → Owner) → IsOrderly p.driver → IsOwned p.driver owner → IsOwned (after_driver_row (driver_row p) p).driver owner
row_owned p owner order old = due_owned (driver_row p) p owner (each_event_is_due p) order old

-- ---- the order of what is given back

transfer_row_orderly : (p : Parts) (t : ℕ) (o : Option Transfer) → slice_get p.driver.transfers t ≡ o → slice_get p.driver.harvested 0 ≡ Some t → IsOrderly p.driver → IsOrderly (after_transfer p t o (freed_by p.driver (holding p.driver.book p.memory) o)).driver
transfer_row_orderly p t None there first old = old
transfer_row_orderly p t (Some x) there first old = transfer_gone t x there first old

endpoint_row_orderly : (p : Parts) (e : ℕ) (o : Option Endpoint) → slice_get p.driver.endpoints e ≡ o → slice_get p.driver.cleared 0 ≡ Some e → slice_get p.driver.harvested 0 ≡ None → IsOrderly p.driver → IsOrderly (after_endpoint p e o).driver
endpoint_row_orderly p e None here first none old = old
endpoint_row_orderly p e (Some x) here first none old = told_orderly (is_told x)
  where
    left : IsLeft p.driver.endpoints e
    left = first_left e first old

    same : left.endpoint ≡ x
    same = same_Some left.endpoint x (sym left.here ∙ here)

    ring : is_periodic x.desc.kind ≡ false
    ring = ap (λ (z : Endpoint). is_periodic z.desc.kind) (sym same) ∙ left.ring

    out : x.chained ≡ false
    out = ⊎_elim (λ (on : x.chained ≡ true). absurd (false≢true (sym ring ∙ (old.steady e x here).frames on))) (λ (off : x.chained ≡ false). off) (cases_Bool x.chained)

    now : (told : Bool) → AreOrderly (record (returns_of p.driver) { cleared = drop 1 p.driver.cleared }) (map (let_go e told) p.driver.transfers) (set p.driver.endpoints e (record x { gone = true })) (leaver p.driver.command)
    now told =
        endpoint_gone e x (let_go e told) here (ap (λ (z : Endpoint). z.linked) (sym same) ∙ left.linked) out (less_cleared e x here ring first old)
        (λ t y there. let_go_goes e told (returns_of p.driver) t y (none_of e x here (ring_queue x.desc.kind ring) none old t y there)) old

    told_orderly : (told : Bool) → IsOrderly (gone_with (cond told (reported p.driver lines.Cancel x.desc.name (cancelled_bytes p.driver.notes p.memory e x.queue p.driver.transfers)) p.driver) e x (is_told x) (free_endpoint p.driver e x (holding p.driver.book p.memory)).book)
    told_orderly true = now (is_told x)
    told_orderly false = now (is_told x)

descriptor_row_orderly : (p : Parts) (t : ℕ) (o : Option Transfer) (m : Removal) → slice_get p.driver.transfers t ≡ o → slice_get p.driver.periodic.removals 0 ≡ Some m → m.what ≡ removed.Descriptor t → IsOrderly p.driver → IsOrderly (after_descriptor p t o).driver
descriptor_row_orderly p t None m there first what old = old
descriptor_row_orderly p t (Some x) m there first what old = descriptor_gone t x m there first what old

placed_row_orderly : (p : Parts) (e : ℕ) (o : Option Endpoint) (m : Removal) → slice_get p.driver.endpoints e ≡ o → slice_get p.driver.periodic.removals 0 ≡ Some m → m.what ≡ removed.Endpoint e → slice_get p.driver.harvested 0 ≡ None → IsOrderly p.driver → IsOrderly (after_placed p e o).driver
placed_row_orderly p e None m here first what none old = old
placed_row_orderly p e (Some x) m here first what none old = told_orderly (is_told x)
  where
    left : IsRemoved p.driver.endpoints e
    left = first_removed e m first what old

    same : left.endpoint ≡ x
    same = same_Some left.endpoint x (sym left.here ∙ here)

    frames : is_periodic x.desc.kind ≡ true
    frames = ap (λ (z : Endpoint). is_periodic z.desc.kind) (sym same) ∙ left.frames

    off : x.linked ≡ false
    off = ⊎_elim (λ (on : x.linked ≡ true). absurd (false≢true (sym ((old.steady e x here).ring on) ∙ frames))) (λ (off : x.linked ≡ false). off) (cases_Bool x.linked)

    goes : (told : Bool) (iso : Bool) → is_iso x.desc.kind ≡ iso → (t : ℕ) (y : Transfer) → slice_get p.driver.transfers t ≡ Some y → GoesBy e (returns_of p.driver) t y (let_go_placed iso e told y)
    goes told true is t y there = let_waiting_goes e told t y there old
    goes told false is t y there = let_go_goes e told (returns_of p.driver) t y (none_of e x here is none old t y there)

    now : (told : Bool) → AreOrderly (record (returns_of p.driver) { removals = drop 1 p.driver.periodic.removals }) (map (let_go_placed (is_iso x.desc.kind) e told) p.driver.transfers) (set p.driver.endpoints e (record x { gone = true })) (leaver p.driver.command)
    now told =
        endpoint_gone e x (let_go_placed (is_iso x.desc.kind) e told) here off (ap (λ (z : Endpoint). z.chained) (sym same) ∙ left.chained) (less_removed e x m here frames first what old)
        (goes told (is_iso x.desc.kind) refl) old

    told_orderly : (told : Bool) → IsOrderly (removed_with (cond told (reported p.driver lines.Cancel x.desc.name (cancelled_bytes p.driver.notes p.memory e x.queue p.driver.transfers)) p.driver) e x (is_told x) (free_placed p.driver e x (holding p.driver.book p.memory)).book)
    told_orderly true = now (is_told x)
    told_orderly false = now (is_told x)

removed_row_orderly : (p : Parts) (what : Removed) → IsRemovalDue p what → IsOrderly p.driver → IsOrderly (after_removed p what).driver
removed_row_orderly p (removed.Descriptor t) due old = descriptor_row_orderly p t (slice_get p.driver.transfers t) due.removal refl due.first due.is old
removed_row_orderly p (removed.Endpoint e) due old = placed_row_orderly p e (slice_get p.driver.endpoints e) due.removal refl due.first due.is due.none_before old

unlink_row_orderly : (p : Parts) (t : ℕ) (o : Option Transfer) → slice_get p.driver.periodic.unlinks 0 ≡ Some t → IsOrderly p.driver → IsOrderly (after_unlink p t o).driver
unlink_row_orderly p t None first old = old
unlink_row_orderly p t (Some x) first old = unlinked_orderly t (removal_of (removed.Descriptor t)) first refl old

-- what is told of a descriptor is told of nothing else
unserved : (s : Sort) (last : Bool) (note : QtdNote) (t : Token) → is_served_found (found_in s last note t) ≡ true → ⊥
unserved s last note t is = at t.active t.halted (ends_by s last t.total) is
  where
    at : (a h e : Bool) → is_served_found (cond a founds.Active (cond h (founds.Ended (moved_of note.told t.total) (halt_of t)) (done_of e (moved_of note.told t.total)))) ≡ true → ⊥
    at true h e f = false≢true f
    at false true e f = false≢true f
    at false false true f = false≢true f
    at false false false f = false≢true f

pub served_is : (d : DriverContent) (m : Mem) (y : Transfer) (s : Sort) → is_served_found (found_of d m y s) ≡ true → is_descriptor s ≡ true
served_is d m y sorts.Descriptor is = refl
served_is d m y sorts.Get is = absurd (unserved sorts.Get (nat_le y.left 1) (note_at d.notes y.place) (token_in m y.place) is)
served_is d m y sorts.Put is = absurd (unserved sorts.Put (nat_le y.left 1) (note_at d.notes y.place) (token_in m y.place) is)
served_is d m y sorts.Request is = absurd (unserved sorts.Request (nat_le y.left 1) (note_at d.notes y.place) (token_in m y.place) is)

pub due_orderly : (row : DriverRow) (p : Parts) → IsDue p row → IsOrderly p.driver → IsOrderly (after_driver_row row p).driver
due_orderly rows.Lend p due old =
    let d = record p.driver { book = (lend_taken (holding p.driver.book p.memory)).book } in
    advance_orderly d old
due_orderly (rows.Store b at v) p due old = advance_orderly p.driver old
due_orderly rows.Frames p due old = framed_orderly p.driver p.registers.frame_index p.driver.command old
due_orderly rows.LendDescriptors p due old =
    let d = record p.driver { book = (lend_taken (holding p.driver.book (linked_by p.driver p.memory p.driver.command))).book } in
    advance_orderly d old
due_orderly (rows.Unlink t) p due old = unlink_row_orderly p t (slice_get p.driver.transfers t) due.first old
due_orderly (rows.ReleaseRemoved what) p due old = removed_row_orderly p what due old
due_orderly (rows.ReadFrame n) p due old = read_orderly n old
due_orderly (rows.ReleaseTransfer t) p due old = transfer_row_orderly p t (slice_get p.driver.transfers t) refl due.first old
due_orderly (rows.ReleaseEndpoint e) p due old = endpoint_row_orderly p e (slice_get p.driver.endpoints e) refl due.first due.none_before old
due_orderly rows.ClearAdvance p due old = cleared_orderly old
due_orderly rows.RingBell p due old = rung_orderly old
due_orderly (rows.Harvest e t found) p due old =
    harvest_orderly p.driver p.memory e t found (slice_get p.driver.endpoints e) (slice_get p.driver.transfers t) refl refl
    (λ x is. ap (λ (y : Endpoint). y.ended) (same_Some x due.endpoint (sym is ∙ due.here)) ∙ due.goes_on)
    (λ y is served.
    ap (λ (z : Transfer). is_descriptor z.sort) (same_Some y due.transfer (sym is ∙ due.there))
    ∙ served_is p.driver p.memory due.transfer due.transfer.sort (sym (ap is_served_found due.tells) ∙ served)) old
due_orderly _ p due old = old

pub row_orderly : (p : Parts) → IsOrderly p.driver → IsOrderly (after_driver_row (driver_row p) p).driver
row_orderly p old = due_orderly (driver_row p) p (each_event_is_due p) old
