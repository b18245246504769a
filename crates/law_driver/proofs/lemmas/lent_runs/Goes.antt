-- Each event of the driver keeps which runs are lent.
use Rattle.std.proofs.Common.{◌≡◌, ℕ, zero, suc, ◌+◌, ◌*◌, ◌≤◌, Bool, true, false, ◌&&◌, ◌||◌, cond, nat_lt, nat_le, List, [], ◌∷◌, length, take, drop, slice_get, slice_index, Option, Some, None, unwrap_or, option_map, ap, sym, subst, ◌∙◌, inl, inr, refl, arith}
use Rattle.std.specs.List.{list_any}
use Rattle.std.proofs.lemmas.Bool.{false≢true}
use Rattle.std.proofs.lemmas.Bool.Decides.{nat_tests}
use Rattle.std.proofs.lemmas.Option.{same_Some, slice_get-map}
use Rattle.law_common.proofs.Booleans.{both_second}
use Rattle.word_mem.specs.Memory.{Mem}
use Rattle.mem_runs.specs.Book.{Book, Holding, holding, lend_taken, slot_of}
use Rattle.drv_periodic.specs.declared.work.Store.{Store}
use Rattle.drv_periodic.specs.Periodic.{next_store}
use Rattle.drv_periodic_table.specs.declared.content.Removed.{Removed}
use Rattle.drv_periodic_table.specs.declared.content.Removed.TheVariants as removed
use Rattle.drv_table.specs.declared.content.Endpoint.{Endpoint}
use Rattle.drv_table.specs.declared.content.Transfer.{Transfer}
use Rattle.drv_table.specs.declared.content.Command.{Command}
use Rattle.drv_table.specs.declared.content.Command.TheVariants as unfinished
use Rattle.drv_table.specs.declared.rows.DriverRow.{DriverRow}
use Rattle.drv_table.specs.declared.rows.DriverRow.TheVariants as rows
use Rattle.drv_table.specs.DriverContent.{DriverContent}
use Rattle.drv_table.specs.Parts.{Parts}
use Rattle.drv_table.specs.Commands.{store_order, events_of, links, command_row, link_row, next_row, finished, linked_on, advanced_by, advance}
use Rattle.drv_table.specs.FrameChoice.{framed_notes, with_notes, placement_at, framed_by, linked_by}
use Rattle.drv_table.specs.Rows.{driver_row, row_for, after_driver_row}
use Rattle.drv_table.specs.Releases.{after_transfer, after_endpoint, freed_by, free_qtds, free_endpoint}
use Rattle.drv_table.specs.Removals.{after_descriptor, after_placed, after_removed, after_unlink, free_descriptor, free_placed}
use Rattle.law_driver.specs.run_owners.Due.{IsDue}
use Rattle.law_driver.proofs.lemmas.run_owners.Reasons.{each_event_is_due}
use Rattle.claims_driver.specs.LentRuns.{begins_in, is_lending, still_lends, AreLent}
use Rattle.law_driver.proofs.lemmas.lent_runs.Slots.{FreesOnly, KeepsTaken, all_lent, none_left, frees_qtds, frees_endpoint, frees_descriptor, frees_placed}
use Rattle.law_driver.proofs.lemmas.lent_runs.Books.{later_book, advance_book, SameBook, harvest_book}

-- ---- contents with the same book

-- a run is kept as before, and nothing is to be lent
pub settled : (d e : DriverContent) → e.book ≡ d.book → d.book.taken ≡ [] → AreLent d → AreLent e
settled d e same none old = record {
  kept = λ b r is.
      ap (λ (k : Book). begins_in b k.taken) same ∙ old.kept b r (sym (ap (λ (k : Book). slot_of k.slots b) same) ∙ is);
  lent = λ off. ap (λ (k : Book). k.taken) same ∙ none;
}

same_lent : (d e : DriverContent) → SameBook d e → AreLent d → AreLent e
same_lent d e same old = record {
  kept = λ b r is.
      ap (λ (k : Book). begins_in b k.taken) same.book ∙ old.kept b r (sym (ap (λ (k : Book). slot_of k.slots b) same.book) ∙ is);
  lent = λ off.
      ap (λ (k : Book). k.taken) same.book
      ∙ old.lent (sym (ap (λ (c : Option Command). still_lends c d.made) same.command) ∙ sym (ap (still_lends e.command) same.made) ∙ off);
}

-- all was lent
pub lent_now : (e : DriverContent) (h : Holding) → KeepsTaken h → e.book ≡ (lend_taken h).book → AreLent e
lent_now e h kept is = record {
  kept = λ b r there. absurd (all_lent h kept b r (sym (ap (λ (k : Book). slot_of k.slots b) is) ∙ there));
  lent = λ off. ap (λ (k : Book). k.taken) is ∙ none_left h;
}

-- something was given back
freed_lent : (d e : DriverContent) (h g : Holding) → h.book ≡ d.book → e.book ≡ g.book → FreesOnly h g → d.book.taken ≡ [] → AreLent d → AreLent e
freed_lent d e h g was is frees none old = record {
  kept = λ b r there.
      ap (λ (k : Book). begins_in b k.taken) is ∙ ap (begins_in b) frees.taken ∙ ap (λ (k : Book). begins_in b k.taken) was
      ∙ old.kept b r (sym (ap (λ (k : Book). slot_of k.slots b) was) ∙ frees.kept b r (sym (ap (λ (k : Book). slot_of k.slots b) is) ∙ there));
  lent = λ off. ap (λ (k : Book). k.taken) is ∙ frees.taken ∙ ap (λ (k : Book). k.taken) was ∙ none;
}

-- ---- the command's own events

drop_get : (es : List DriverRow) (i : ℕ) (row : DriverRow) → slice_get es i ≡ Some row → drop i es ≡ row ∷ drop (suc i) es
drop_get [] i row there = absurd (cc)
drop_get (e ∷ es) zero row there = ap (λ r. r ∷ es) (same_Some e row there)
drop_get (e ∷ es) (suc i) row there = drop_get es i row there

drop_past : (es : List DriverRow) (i : ℕ) → length es ≤ i → drop i es ≡ []
drop_past [] zero past = refl
drop_past [] (suc i) past = refl
drop_past (e ∷ es) zero past = absurd (omega (arith, past))
drop_past (e ∷ es) (suc i) past = drop_past es i (omega (arith, past))

-- what is still to be lent, once a row that lends nothing was made
still_same : (c : Command) (made : ℕ) (row : DriverRow) → slice_get (events_of c) made ≡ Some row → is_lending row ≡ false → still_lends (Some c) made ≡ still_lends (Some c) (suc made)
still_same c made row there off =
    ap (list_any is_lending) (drop_get (events_of c) made row there) ∙ ap (λ b. b || list_any is_lending (drop (suc made) (events_of c))) off

none_past : (c : Command) (made : ℕ) → length (events_of c) ≤ made → still_lends (Some c) made ≡ false
none_past c made past = ap (list_any is_lending) (drop_past (events_of c) made past)

went_lent : (d : DriverContent) (c : Command) (row : DriverRow) → d.command ≡ Some c → slice_get (events_of c) d.made ≡ Some row → is_lending row ≡ false → AreLent d → AreLent (advance d)
went_lent d c row is there off old = subst (λ (o : Option Command). AreLent (advanced_by d o)) (sym is) (at (nat_lt (suc d.made) (length (events_of c))) refl)
  where
    at : (b : Bool) → nat_lt (suc d.made) (length (events_of c)) ≡ b → AreLent (cond b (record d { made = suc d.made }) (cond (links c) (linked_on d c) (finished d c)))
    at true more = record {
      kept = old.kept;
      lent = λ none. old.lent (ap (λ (o : Option Command). still_lends o d.made) is ∙ still_same c d.made row there off ∙ sym (ap (λ (o : Option Command). still_lends o (suc d.made)) is) ∙ none);
    }
    at false last =
        let past : length (events_of c) ≤ suc d.made = grind (arith, nat_tests) in
        settled d (cond (links c) (linked_on d c) (finished d c)) (later_book d c)
        (old.lent (ap (λ (o : Option Command). still_lends o d.made) is ∙ still_same c d.made row there off ∙ none_past c (suc d.made) past)) old

-- a command has no other rows than these
is_own : DriverRow → Bool
is_own rows.Lend = true
is_own (rows.Store b at v) = true
is_own rows.Frames = true
is_own rows.LendDescriptors = true
is_own _ = false

mapped_own : (f g : ℕ → ℕ) (b : ℕ) (o : Option ℕ) (row : DriverRow) → option_map (λ i. rows.Store b (f i) (g i)) o ≡ Some row → is_own row ≡ true
unfolding is_own
mapped_own f g b None row e = absurd (cc)
mapped_own f g b (Some i) row e = ap is_own (sym (same_Some (rows.Store b (f i) (g i)) row e))

are_own : (c : Command) (i : ℕ) (row : DriverRow) → slice_get (events_of c) i ≡ Some row → is_own row ≡ true
unfolding is_own
are_own (unfinished.Open q) (suc zero) row e = ap is_own (sym (same_Some _ row e))
are_own (unfinished.Open q) (suc (suc i)) row e = absurd (cc)
are_own (unfinished.Publish b words) (suc i) row e =
    mapped_own (λ j. 32 * b + 4 * j) (λ j. slice_index words j) b (slice_get store_order i) row (sym (slice_get-map _ store_order i) ∙ e)
are_own (unfinished.Unlink n b link) zero row e = ap is_own (sym (same_Some _ row e))
are_own (unfinished.Unlink n b link) (suc i) row e = absurd (cc)
are_own unfinished.Chain (suc i) row e = absurd (cc)
are_own (unfinished.Iso n t count) zero row e = ap is_own (sym (same_Some rows.Frames row e))
are_own (unfinished.Iso n t count) (suc zero) row e = ap is_own (sym (same_Some rows.LendDescriptors row e))
are_own (unfinished.Iso n t count) (suc (suc i)) row e = absurd (cc)
are_own (unfinished.Unchain n) i row e = absurd (cc)
are_own _ zero row e = ap is_own (sym (same_Some rows.Lend row e))

framed_lent : (d : DriverContent) (n : ℕ) (c : Command) → d.command ≡ Some c → slice_get (events_of c) d.made ≡ Some rows.Frames → AreLent d → AreLent (framed_by d n (Some c))
framed_lent d n (unfinished.Iso e t count) is there old =
    let f = with_notes d n (take count (drop t d.transfers)) (framed_notes d n e t count (placement_at d e)) in
    went_lent f (unfinished.Iso e t count) rows.Frames is there refl (record { kept = old.kept; lent = old.lent })
framed_lent d n _ is there old = old

lends : (d : DriverContent) (m : Mem) → AreLent d → AreLent (advance (record d { book = (lend_taken (holding d.book m)).book }))
lends d m old =
    let e = record d { book = (lend_taken (holding d.book m)).book } in
    lent_now (advance e) (holding d.book m) old.kept (advance_book e)

own_lent : (row : DriverRow) (p : Parts) (c : Command) → p.driver.command ≡ Some c → slice_get (events_of c) p.driver.made ≡ Some row → is_own row ≡ true → AreLent p.driver → AreLent (after_driver_row row p).driver
unfolding is_own
own_lent rows.Lend p c is there own old = lends p.driver p.memory old
own_lent (rows.Store b at v) p c is there own old = went_lent p.driver c (rows.Store b at v) is there refl old
own_lent rows.Frames p c is there own old =
    subst (λ (o : Option Command). AreLent (framed_by p.driver p.registers.frame_index o)) (sym is) (framed_lent p.driver p.registers.frame_index c is there old)
own_lent rows.LendDescriptors p c is there own old = lends p.driver (linked_by p.driver p.memory p.driver.command) old
own_lent _ p c is there own old = absurd (false≢true own)

command_lent : (p : Parts) (c : Command) → p.driver.command ≡ Some c → AreLent p.driver → AreLent (after_driver_row (next_row p.driver c) p).driver
command_lent p c is old = at (links c && nat_le (length (events_of c)) p.driver.made) refl
  where
    stored : (o : Option Store) → length (events_of c) ≤ p.driver.made → AreLent (after_driver_row (link_row o) p).driver
    stored None past = old
    stored (Some s) past =
        settled p.driver (advance p.driver) (advance_book p.driver) (old.lent (ap (λ (o : Option Command). still_lends o p.driver.made) is ∙ none_past c p.driver.made past)) old

    own : (o : Option DriverRow) → slice_get (events_of c) p.driver.made ≡ o → AreLent (after_driver_row (unwrap_or o rows.Rest) p).driver
    own None there = old
    own (Some row) there = own_lent row p c is there (are_own c p.driver.made row there) old

    at : (b : Bool) → links c && nat_le (length (events_of c)) p.driver.made ≡ b → AreLent (after_driver_row (cond b (link_row (next_store p.driver.periodic.list)) (command_row c p.driver.made)) p).driver
    at true e =
        let le = both_second (links c) (nat_le (length (events_of c)) p.driver.made) e in
        stored (next_store p.driver.periodic.list) (grind (arith, nat_tests))
    at false e = own (slice_get (events_of c) p.driver.made) refl

-- ---- where no command is unfinished

pub idle_none : (d : DriverContent) → d.command ≡ None → AreLent d → d.book.taken ≡ []
idle_none d idle old = old.lent (ap (λ (o : Option Command). still_lends o d.made) idle)

transfer_lent : (p : Parts) (t : ℕ) (o : Option Transfer) → p.driver.command ≡ None → AreLent p.driver → AreLent (after_transfer p t o (freed_by p.driver (holding p.driver.book p.memory) o)).driver
transfer_lent p t None idle old = old
transfer_lent p t (Some x) idle old =
    let h = holding p.driver.book p.memory in
    freed_lent p.driver _ h (free_qtds p.driver.notes h x.first x.qtds) refl refl (frees_qtds p.driver.notes h x.first x.qtds) (idle_none p.driver idle old) old

endpoint_lent : (p : Parts) (e : ℕ) (o : Option Endpoint) → p.driver.command ≡ None → AreLent p.driver → AreLent (after_endpoint p e o).driver
endpoint_lent p e None idle old = old
endpoint_lent p e (Some x) idle old =
    let h = holding p.driver.book p.memory in
    freed_lent p.driver _ h (free_endpoint p.driver e x h) refl refl (frees_endpoint p.driver e x h) (idle_none p.driver idle old) old

descriptor_lent : (p : Parts) (t : ℕ) (o : Option Transfer) → p.driver.command ≡ None → AreLent p.driver → AreLent (after_descriptor p t o).driver
descriptor_lent p t None idle old = old
descriptor_lent p t (Some x) idle old =
    let h = holding p.driver.book p.memory in
    freed_lent p.driver _ h (free_descriptor p.driver.periodic.notes h x.first) refl refl (frees_descriptor p.driver.periodic.notes h x.first) (idle_none p.driver idle old) old

placed_lent : (p : Parts) (e : ℕ) (o : Option Endpoint) → p.driver.command ≡ None → AreLent p.driver → AreLent (after_placed p e o).driver
placed_lent p e None idle old = old
placed_lent p e (Some x) idle old =
    let h = holding p.driver.book p.memory in
    freed_lent p.driver _ h (free_placed p.driver e x h) refl refl (frees_placed p.driver e x h) (idle_none p.driver idle old) old

removed_lent : (p : Parts) (what : Removed) → p.driver.command ≡ None → AreLent p.driver → AreLent (after_removed p what).driver
removed_lent p (removed.Descriptor t) idle old = descriptor_lent p t (slice_get p.driver.transfers t) idle old
removed_lent p (removed.Endpoint e) idle old = placed_lent p e (slice_get p.driver.endpoints e) idle old

unlinked_lent : (p : Parts) (t : ℕ) (o : Option Transfer) → AreLent p.driver → AreLent (after_unlink p t o).driver
unlinked_lent p t None old = old
unlinked_lent p t (Some x) old = record { kept = old.kept; lent = old.lent }

not_both : (p : Parts) (c : Command) → p.driver.command ≡ Some c → p.driver.command ≡ None → ⊥
not_both p c is idle = let e : Some c ≡ None = sym is ∙ idle in cc

idle_lent : (row : DriverRow) (p : Parts) → IsDue p row → p.driver.command ≡ None → AreLent p.driver → AreLent (after_driver_row row p).driver
idle_lent rows.Lend p due idle old = absurd (not_both p due.command due.unfinished idle)
idle_lent (rows.Store b at v) p (inl due) idle old = absurd (not_both p due.command due.unfinished idle)
idle_lent (rows.Store b at v) p (inr due) idle old = absurd (not_both p due.command due.unfinished idle)
idle_lent rows.Frames p due idle old = absurd (not_both p due.command due.unfinished idle)
idle_lent rows.LendDescriptors p due idle old = absurd (not_both p due.command due.unfinished idle)
idle_lent (rows.Unlink t) p due idle old = unlinked_lent p t (slice_get p.driver.transfers t) old
idle_lent (rows.ReleaseRemoved what) p due idle old = removed_lent p what idle old
idle_lent (rows.ReleaseTransfer t) p due idle old = transfer_lent p t (slice_get p.driver.transfers t) idle old
idle_lent (rows.ReleaseEndpoint e) p due idle old = endpoint_lent p e (slice_get p.driver.endpoints e) idle old
idle_lent (rows.Harvest e t found) p due idle old =
    same_lent p.driver (after_driver_row (rows.Harvest e t found) p).driver (harvest_book p.driver p.memory e t found (slice_get p.driver.endpoints e) (slice_get p.driver.transfers t)) old
idle_lent rows.Rest p due idle old = old
idle_lent _ p due idle old = record { kept = old.kept; lent = old.lent }

by_command : (p : Parts) (o : Option Command) → p.driver.command ≡ o → AreLent p.driver → AreLent (after_driver_row (row_for p o) p).driver
by_command p (Some c) is old = command_lent p c is old
by_command p None is old =
    idle_lent (row_for p None) p (subst (λ (o : Option Command). IsDue p (row_for p o)) is (each_event_is_due p)) is old

pub events_keep_them : (p : Parts) → AreLent p.driver → AreLent (after_driver_row (driver_row p) p).driver
events_keep_them p old = by_command p p.driver.command refl old
