-- Each event of the driver keeps what is to be given back, and what is next, counted.
use Rattle.std.proofs.Common.{◌≡◌, ℕ, suc, Bool, true, false, cond, nat_lt, ◌||◌, List, [], ◌∷◌, ◌++◌, length, map, take, drop, set, slice_get, Option, Some, None, ap, sym, subst, ◌∙◌, refl}
use Rattle.std.specs.Prelude.{is_some, is_none}
use Rattle.std.proofs.lemmas.Bool.{false≢true}
use Rattle.std.proofs.lemmas.Option.{same_Some}
use Rattle.law_driver.proofs.Common.{ring_queue}
use Rattle.usb_base.specs.declared.reports.What.TheVariants as lines
use Rattle.mem_runs.specs.Book.{Book, holding, lend_taken}
use Rattle.drv_chains.specs.declared.members.Member.{Member}
use Rattle.drv_periodic_table.specs.declared.content.Removal.{Removal}
use Rattle.drv_periodic_table.specs.declared.content.Removed.TheVariants as removed
use Rattle.drv_periodic_table.specs.Linking.{with_first, begun_next}
use Rattle.drv_periodic_table.specs.Periodic.{PeriodicContent, is_periodic}
use Rattle.drv_table.specs.declared.content.Bell.TheVariants as bells
use Rattle.drv_table.specs.declared.content.Command.{Command}
use Rattle.drv_table.specs.declared.content.Command.TheVariants as unfinished
use Rattle.drv_table.specs.declared.content.Endpoint.{Endpoint}
use Rattle.drv_table.specs.declared.content.Transfer.{Transfer}
use Rattle.drv_table.specs.declared.rows.DriverRow.{DriverRow}
use Rattle.drv_table.specs.declared.rows.DriverRow.TheVariants as rows
use Rattle.drv_table.specs.declared.rows.Found.{Found}
use Rattle.drv_table.specs.Commands.{events_of, links, removes_members, leave_ring, leave_frames, no_command, removal_of, finished, list_after, or_finished, linked_on, advanced_by, advance}
use Rattle.drv_table.specs.DriverContent.{DriverContent}
use Rattle.drv_table.specs.FrameChoice.{framed_notes, with_notes, placement_at, framed_by, linked_by}
use Rattle.drv_table.specs.Harvesting.{after_harvest}
use Rattle.drv_table.specs.Kinds.{is_iso}
use Rattle.drv_table.specs.Parts.{Parts}
use Rattle.drv_table.specs.Releases.{after_transfer, after_endpoint, freed_by, free_endpoint, gone_with, let_go, cancelled_bytes, is_told}
use Rattle.drv_table.specs.Harvests.{reported}
use Rattle.drv_table.specs.Removals.{after_descriptor, after_placed, after_unlink, free_placed, removed_with, let_go_placed}
use Rattle.drv_table.specs.Rows.{driver_row, after_driver_row}
use Rattle.claims_driver.specs.Leaving.{leaver, IsSteady, Returns, returns_of, IsOrderly}
use Rattle.law_driver.specs.run_owners.Due.{IsDue, IsHarvestDue}
use Rattle.law_driver.proofs.lemmas.run_owners.Orders.{IsLeft, IsRemoved}
use Rattle.law_driver.proofs.lemmas.run_owners.Leaves.{first_left, first_removed, GoesBy, let_go_goes, let_waiting_goes, none_of, less_cleared, less_removed, read_orderly}
use Rattle.law_driver.proofs.lemmas.run_owners.Goes.{begun_orderly}
use Rattle.law_driver.proofs.lemmas.run_owners.Reasons.{each_event_is_due, comes_idle, stays_idle}
use Rattle.law_footprints.proofs.Fields.{bell_stays, rung_stays}
use Rattle.law_footprints.proofs.Frame.{frame}
use Rattle.law_resting.specs.Counted.{HasKind, AreCounted, IsOfItsKind, IsCounted, EventsKeepCounts}
use Rattle.law_resting.proofs.Counting.{lists_moved, rung_moved, cleared_moved, read_moved, unlinked_moved}
use Rattle.law_resting.proofs.Gone.{none_leaves, ring_alone, frames_alone, left_ring, left_frames, transfer_gone, descriptor_gone, endpoint_gone}
use Rattle.law_resting.proofs.Reading.{harvest_counted}

abbrev CountsIn : DriverContent → Type 0
CountsIn d = AreCounted (returns_of d) d.transfers d.endpoints (leaver d.command)

-- ---- the unfinished command goes on

out_of : (x : Endpoint) → x.linked ≡ false → x.chained ≡ false → (x.linked || x.chained) ≡ false
out_of x off out = ap (λ b. b || x.chained) off ∙ out

no_kind : (d : DriverContent) → IsOfItsKind (no_command d)
no_kind d e x is here = absurd (cc)

done_with : (d : DriverContent) → AreCounted (returns_of d) d.transfers d.endpoints None → IsCounted d → IsCounted (no_command d)
done_with d counts old = record { counts = counts; kinds = no_kind d; bell = old.bell }

leave_counted : (d : DriverContent) (e : ℕ) (o : Option Endpoint) → leaver d.command ≡ Some e → slice_get d.endpoints e ≡ o
    → ((x : Endpoint) → o ≡ Some x → is_periodic x.desc.kind ≡ false)
    → IsOrderly d → IsCounted d → IsCounted (leave_ring (no_command d) e o)
leave_counted d e None is here kind order old =
    done_with d (none_leaves e (λ x at. absurd (none_some x (sym here ∙ at)))
    (subst (AreCounted (returns_of d) d.transfers d.endpoints) is old.counts)) old
  where
    none_some : (x : Endpoint) → ◌≡◌ {A = Option Endpoint} None (Some x) → ⊥
    none_some x w = cc
leave_counted d e (Some x) is here kind order old = at x.linked refl
  where
    ring : is_periodic x.desc.kind ≡ false
    ring = kind x refl

    counts : AreCounted (returns_of d) d.transfers d.endpoints (Some e)
    counts = subst (AreCounted (returns_of d) d.transfers d.endpoints) is old.counts

    out : x.chained ≡ false
    out = ring_alone x (order.steady e x here) ring

    at : (b : Bool) → x.linked ≡ b
        → IsCounted (cond b (record (no_command d)
        { waiting = d.waiting ++ e ∷ []; endpoints = set d.endpoints e (record x { linked = false }) }) (no_command d))
    at true on = record { counts = left_ring e x here out counts; kinds = λ i z now there. absurd (cc); bell = old.bell }
    at false off =
        done_with d (none_leaves e (λ z there. ap (λ (w : Endpoint). w.linked || w.chained) (same_Some z x (sym there ∙ here)) ∙ out_of x
        off out) counts) old

leave_frames_counted : (d : DriverContent) (e : ℕ) (o : Option Endpoint) → leaver d.command ≡ Some e → slice_get d.endpoints e ≡ o
    → ((x : Endpoint) → o ≡ Some x → is_periodic x.desc.kind ≡ true)
    → IsOrderly d → IsCounted d → IsCounted (leave_frames (no_command d) e o)
leave_frames_counted d e None is here kind order old =
    done_with d (none_leaves e (λ x at. absurd (none_some x (sym here ∙ at)))
    (subst (AreCounted (returns_of d) d.transfers d.endpoints) is old.counts)) old
  where
    none_some : (x : Endpoint) → ◌≡◌ {A = Option Endpoint} None (Some x) → ⊥
    none_some x w = cc
leave_frames_counted d e (Some x) is here kind order old = at x.chained refl
  where
    off : x.linked ≡ false
    off = frames_alone x (order.steady e x here) (kind x refl)

    counts : AreCounted (returns_of d) d.transfers d.endpoints (Some e)
    counts = subst (AreCounted (returns_of d) d.transfers d.endpoints) is old.counts

    at : (b : Bool) → x.chained ≡ b
        → IsCounted (cond b (record (no_command d) {
          endpoints = set d.endpoints e (record x { chained = false });
          periodic = record d.periodic
              { removals = d.periodic.removals ++ removal_of (removed.Endpoint e) ∷ [] };
        }) (no_command d))
    at true on = record {
      counts = left_frames e x (removal_of (removed.Endpoint e)) refl here off counts;
      kinds = λ i z now there. absurd
          (cc);
      bell = old.bell;
    }
    at false out =
        done_with d (none_leaves e (λ z there. ap (λ (w : Endpoint). w.linked || w.chained) (same_Some z x (sym there ∙ here)) ∙ out_of x
        off out) counts) old

-- no endpoint leaves with these
without : (d : DriverContent) → leaver d.command ≡ None → IsCounted d → IsCounted (no_command d)
without d is old = done_with d (subst (AreCounted (returns_of d) d.transfers d.endpoints) is old.counts) old

pub done_counted : (d : DriverContent) (c : Command) → d.command ≡ Some c → IsOrderly d → IsCounted d → IsCounted (finished d c)
done_counted d (unfinished.Unlink e b link) is order old =
    leave_counted d e (slice_get d.endpoints e) (ap leaver is) refl
    (λ x here. subst (λ o. HasKind o x) is (old.kinds e x (ap leaver is) here)) order old
done_counted d (unfinished.Unchain e) is order old =
    leave_frames_counted d e (slice_get d.endpoints e) (ap leaver is) refl
    (λ x here. subst (λ o. HasKind o x) is (old.kinds e x (ap leaver is) here)) order old
done_counted d (unfinished.Open queue) is order old = without d (ap leaver is) old
done_counted d (unfinished.Publish b words) is order old = without d (ap leaver is) old
done_counted d unfinished.Chain is order old = without d (ap leaver is) old
done_counted d (unfinished.Iso e t count) is order old = without d (ap leaver is) old

-- the next member is begun
pub begun_beside : (d : DriverContent) (n : ℕ) (removes : Bool) (q : PeriodicContent) → q.unlinks ≡ d.periodic.unlinks
    → q.removals ≡ d.periodic.removals
    → IsCounted d → IsCounted (record d { made = n; periodic = begun_next removes q })
begun_beside d n removes q unlinks removals old = record {
  counts = subst (λ (r : Returns). AreCounted r d.transfers d.endpoints (leaver d.command)) (sym same) old.counts;
  kinds = old.kinds;
  bell = old.bell;
}
  where
    kept : returns_of (record d { made = n; periodic = q }) ≡ returns_of d
    kept =
        ap (λ (us : List ℕ). let r : Returns = record (returns_of d) { unlinks = us; removals = q.removals } in r) unlinks
        ∙ ap (λ (ms : List Removal). let r : Returns = record (returns_of d) { removals = ms } in r) removals

    at : (b : Bool) (ms : List Member) → returns_of (record d { made = n; periodic = cond b (with_first removes q ms) q }) ≡ returns_of d
    at true [] = kept
    at true (m ∷ ms) = kept
    at false ms = kept

    same : returns_of (record d { made = n; periodic = begun_next removes q }) ≡ returns_of d
    same = at (is_none q.list.work) q.queued

pub or_done_counted : (d : DriverContent) (c : Command) → d.command ≡ Some c → IsOrderly d → IsCounted d → IsCounted (or_finished d c)
or_done_counted d c is order old = at (is_none d.periodic.list.work)
  where
    at : (b : Bool) → IsCounted (cond b (finished d c) d)
    at true = done_counted d c is order old
    at false = old

went_on_counted : (d : DriverContent) (o : Option Command) → d.command ≡ o → IsOrderly d → IsCounted d → IsCounted (advanced_by d o)
went_on_counted d None is order old = old
went_on_counted d (Some c) is order old = at (nat_lt (suc d.made) (length (events_of c))) (links c)
  where
    at : (b l : Bool) → IsCounted (cond b (record d { made = suc d.made }) (cond l (linked_on d c) (finished d c)))
    at true l = record { counts = old.counts; kinds = old.kinds; bell = old.bell }
    at false true =
        let f = record d {
          made = length (events_of c);
          periodic = begun_next (removes_members c)
              (record d.periodic { list = list_after d c });
        } in
        or_done_counted f c is (begun_orderly d (removes_members c) (length (events_of c)) (record d.periodic { list = list_after d c })
        refl refl order)
        (begun_beside d (length (events_of c)) (removes_members c) (record d.periodic { list = list_after d c }) refl refl old)
    at false false = done_counted d c is order old

advance_counted : (d : DriverContent) → IsOrderly d → IsCounted d → IsCounted (advance d)
advance_counted d order old = went_on_counted d d.command refl order old

framed_counted : (d : DriverContent) (n : ℕ) (o : Option Command) → IsOrderly d → IsCounted d → IsCounted (framed_by d n o)
framed_counted d n (Some (unfinished.Iso e t count)) order old =
    let f = with_notes d n (take count (drop t d.transfers)) (framed_notes d n e t count (placement_at d e)) in
    advance_counted f (read_orderly n order)
    (record { counts = lists_moved (read_moved (returns_of d) n) old.counts; kinds = old.kinds; bell = old.bell })
framed_counted d n _ order old = old

-- ---- while no command is unfinished

idle_kinds : (f : DriverContent) → f.command ≡ None → IsOfItsKind f
idle_kinds f is e x leaves here = absurd (none_some (sym (ap leaver is) ∙ leaves))
  where
    none_some : ◌≡◌ {A = Option ℕ} None (Some e) → ⊥
    none_some w = cc

transfer_row : (p : Parts) (t : ℕ) (o : Option Transfer) → slice_get p.driver.transfers t ≡ o → slice_get p.driver.harvested 0 ≡ Some t
    → IsCounted p.driver
    → CountsIn (after_transfer p t o (freed_by p.driver (holding p.driver.book p.memory) o)).driver
transfer_row p t None there first old = old.counts
transfer_row p t (Some x) there first old = transfer_gone t x there first old.counts

descriptor_row : (p : Parts) (t : ℕ) (o : Option Transfer) (m : Removal) → slice_get p.driver.transfers t ≡ o
    → slice_get p.driver.periodic.removals 0 ≡ Some m → m.what ≡ removed.Descriptor t → IsCounted p.driver
    → CountsIn (after_descriptor p t o).driver
descriptor_row p t None m there first what old = old.counts
descriptor_row p t (Some x) m there first what old = descriptor_gone t x m there first what old.counts

unlink_row : (p : Parts) (t : ℕ) (o : Option Transfer) → slice_get p.driver.periodic.unlinks 0 ≡ Some t → IsCounted p.driver
    → CountsIn (after_unlink p t o).driver
unlink_row p t None first old = old.counts
unlink_row p t (Some x) first old =
    lists_moved (unlinked_moved (returns_of p.driver) t (removal_of (removed.Descriptor t)) first refl) old.counts

-- one that is out of ring and frames has ended
over_is : (x : Endpoint) → IsSteady x → x.linked ≡ false → x.chained ≡ false → x.ended ≡ None → ⊥
over_is x s off out goes = false≢true (sym (ap is_some goes) ∙ s.ended off out)

endpoint_row : (p : Parts) (e : ℕ) (o : Option Endpoint) → slice_get p.driver.endpoints e ≡ o → slice_get p.driver.cleared 0 ≡ Some e
    → slice_get p.driver.harvested 0 ≡ None → IsOrderly p.driver → IsCounted p.driver
    → CountsIn (after_endpoint p e o).driver
endpoint_row p e None here first none order old = old.counts
endpoint_row p e (Some x) here first none order old = told (is_told x)
  where
    left : IsLeft p.driver.endpoints e
    left = first_left e first order

    same : left.endpoint ≡ x
    same = same_Some left.endpoint x (sym left.here ∙ here)

    ring : is_periodic x.desc.kind ≡ false
    ring = ap (λ (z : Endpoint). is_periodic z.desc.kind) (sym same) ∙ left.ring

    off : x.linked ≡ false
    off = ap (λ (z : Endpoint). z.linked) (sym same) ∙ left.linked

    out : x.chained ≡ false
    out = ring_alone x (order.steady e x here) ring

    now : (line : Bool)
        → AreCounted (record (returns_of p.driver) { cleared = drop 1 p.driver.cleared }) (map (let_go e line) p.driver.transfers)
        (set p.driver.endpoints e (record x { gone = true })) (leaver p.driver.command)
    now line =
        endpoint_gone (returns_of p.driver) (record (returns_of p.driver) { cleared = drop 1 p.driver.cleared }) p.driver.transfers
        p.driver.endpoints (leaver p.driver.command) e x (let_go e line) here
        (over_is x (order.steady e x here) off out) off out (less_cleared e x here ring first order)
        (λ t y there. let_go_goes e line (returns_of p.driver) t y (none_of e x here (ring_queue x.desc.kind ring) none order t y there))
        old.counts

    told : (line : Bool)
        → CountsIn (gone_with (cond line
        (reported p.driver lines.Cancel x.desc.name (cancelled_bytes p.driver.notes p.memory e x.queue p.driver.transfers)) p.driver) e
        x (is_told x) (free_endpoint p.driver e x (holding p.driver.book p.memory)).book)
    told true = now (is_told x)
    told false = now (is_told x)

placed_row : (p : Parts) (e : ℕ) (o : Option Endpoint) (m : Removal) → slice_get p.driver.endpoints e ≡ o
    → slice_get p.driver.periodic.removals 0 ≡ Some m → m.what ≡ removed.Endpoint e → slice_get p.driver.harvested 0 ≡ None
    → IsOrderly p.driver → IsCounted p.driver → CountsIn (after_placed p e o).driver
placed_row p e None m here first what none order old = old.counts
placed_row p e (Some x) m here first what none order old = told (is_told x)
  where
    left : IsRemoved p.driver.endpoints e
    left = first_removed e m first what order

    same : left.endpoint ≡ x
    same = same_Some left.endpoint x (sym left.here ∙ here)

    frames : is_periodic x.desc.kind ≡ true
    frames = ap (λ (z : Endpoint). is_periodic z.desc.kind) (sym same) ∙ left.frames

    out : x.chained ≡ false
    out = ap (λ (z : Endpoint). z.chained) (sym same) ∙ left.chained

    off : x.linked ≡ false
    off = frames_alone x (order.steady e x here) frames

    goes : (line iso : Bool) → is_iso x.desc.kind ≡ iso → (t : ℕ) (y : Transfer) → slice_get p.driver.transfers t ≡ Some y
        → GoesBy e (returns_of p.driver) t y (let_go_placed iso e line y)
    goes line true is t y there = let_waiting_goes e line t y there order
    goes line false is t y there = let_go_goes e line (returns_of p.driver) t y (none_of e x here is none order t y there)

    now : (line : Bool)
        → AreCounted (record (returns_of p.driver) { removals = drop 1 p.driver.periodic.removals })
        (map (let_go_placed (is_iso x.desc.kind) e line) p.driver.transfers) (set p.driver.endpoints e (record x { gone = true }))
        (leaver p.driver.command)
    now line =
        endpoint_gone (returns_of p.driver) (record (returns_of p.driver) { removals = drop 1 p.driver.periodic.removals })
        p.driver.transfers p.driver.endpoints (leaver p.driver.command) e x (let_go_placed (is_iso x.desc.kind) e line) here
        (over_is x (order.steady e x here) off out) off out (less_removed e x m here frames first what order)
        (goes line (is_iso x.desc.kind) refl) old.counts

    told : (line : Bool)
        → CountsIn (removed_with (cond line
        (reported p.driver lines.Cancel x.desc.name (cancelled_bytes p.driver.notes p.memory e x.queue p.driver.transfers)) p.driver) e
        x (is_told x) (free_placed p.driver e x (holding p.driver.book p.memory)).book)
    told true = now (is_told x)
    told false = now (is_told x)

harvest_row : (p : Parts) (e t : ℕ) (found : Found) → IsHarvestDue p e t found → IsCounted p.driver
    → CountsIn (after_driver_row (rows.Harvest e t found) p).driver
harvest_row p e t found due old =
    subst (λ (o : Option Endpoint). CountsIn (after_harvest p.driver p.memory e t found o (slice_get p.driver.transfers t))) (sym due.here)
    (subst (λ (o : Option Transfer). CountsIn (after_harvest p.driver p.memory e t found (Some due.endpoint) o)) (sym due.there)
    (harvest_counted p.driver p.memory e t due.endpoint due.transfer due.here due.there due.waits due.goes_on due.next old.counts found))

-- ---- any event

lent_counted : (d : DriverContent) (book : Book) → IsCounted d → IsCounted (record d { book = book })
lent_counted d book old = record { counts = old.counts; kinds = old.kinds; bell = old.bell }

-- what is counted, where no command is unfinished
due_counts : (row : DriverRow) (p : Parts) → comes_idle row ≡ true → IsDue p row → IsOrderly p.driver → IsCounted p.driver
    → CountsIn (after_driver_row row p).driver
due_counts rows.Lend p idle due order old = absurd (false≢true idle)
due_counts (rows.Store b at v) p idle due order old = absurd (false≢true idle)
due_counts rows.Frames p idle due order old = absurd (false≢true idle)
due_counts rows.LendDescriptors p idle due order old = absurd (false≢true idle)
due_counts (rows.Unlink t) p idle due order old = unlink_row p t (slice_get p.driver.transfers t) due.first old
due_counts (rows.ReleaseRemoved (removed.Descriptor t)) p idle due order old =
    descriptor_row p t (slice_get p.driver.transfers t) due.removal refl due.first due.is old
due_counts (rows.ReleaseRemoved (removed.Endpoint e)) p idle due order old =
    placed_row p e (slice_get p.driver.endpoints e) due.removal refl due.first due.is due.none_before order old
due_counts (rows.ReleaseTransfer t) p idle due order old = transfer_row p t (slice_get p.driver.transfers t) refl due.first old
due_counts (rows.ReleaseEndpoint e) p idle due order old =
    endpoint_row p e (slice_get p.driver.endpoints e) refl due.first due.none_before order old
due_counts rows.ClearAdvance p idle due order old = lists_moved (cleared_moved (returns_of p.driver)) old.counts
due_counts rows.RingBell p idle due order old = lists_moved (rung_moved (returns_of p.driver)) old.counts
due_counts (rows.ReadFrame n) p idle due order old = lists_moved (read_moved (returns_of p.driver) n) old.counts
due_counts (rows.Harvest e t found) p idle due order old = harvest_row p e t found due old
due_counts row p idle due order old =
    subst (λ (q : Parts). CountsIn q.driver) (sym (frame row p p.driver.command refl)) old.counts

-- the doorbell
due_bell : (row : DriverRow) (p : Parts) → IsCounted p.driver → (after_driver_row row p).driver.bell ≡ bells.Quiet
    → (after_driver_row row p).driver.rung ≡ []
due_bell rows.ClearAdvance p old is = refl
due_bell rows.RingBell p old is = absurd (cc)
due_bell (rows.ReadStatus true) p old is = absurd (cc)
due_bell (rows.ReadStatus false) p old is = absurd (cc)
due_bell row p old is =
    rung_stays row p p.driver.command refl refl ∙ old.bell (sym (bell_stays row p p.driver.command refl refl) ∙ is)

due_counted : (row : DriverRow) (p : Parts) → IsDue p row → IsOrderly p.driver → IsCounted p.driver
    → IsCounted (after_driver_row row p).driver
due_counted rows.Lend p due order old =
    let d = record p.driver { book = (lend_taken (holding p.driver.book p.memory)).book } in
    advance_counted d order (lent_counted p.driver (lend_taken (holding p.driver.book p.memory)).book old)
due_counted (rows.Store b at v) p due order old = advance_counted p.driver order old
due_counted rows.Frames p due order old = framed_counted p.driver p.registers.frame_index p.driver.command order old
due_counted rows.LendDescriptors p due order old =
    let d = record p.driver { book = (lend_taken (holding p.driver.book (linked_by p.driver p.memory p.driver.command))).book } in
    advance_counted d order (lent_counted p.driver (lend_taken (holding p.driver.book (linked_by p.driver p.memory p.driver.command))).book
    old)
due_counted rows.Rest p due order old = old
due_counted row p due order old = record {
  counts = due_counts row p refl due order old;
  kinds = idle_kinds (after_driver_row row p).driver (stays_idle row p due refl refl);
  bell = due_bell row p old;
}

pub events_keep_counts : EventsKeepCounts
events_keep_counts p order old = due_counted (driver_row p) p (each_event_is_due p) order old
