-- Each event of the driver has its reason.
use Rattle.std.proofs.Common.{get_or, ◌≡◌, ℕ, zero, suc, ◌+◌, ◌*◌, ◌≤◌, Bool, true, false, ◌&&◌, cond, nat_lt, nat_le, List, [], ◌∷◌, length, drop, slice_get, slice_index, Option, Some, None, unwrap_or, option_map, ap, sym, subst, ◌∙◌, inl, inr, refl, arith}
use Rattle.std.specs.Prelude.{position, option_and_then, is_some, is_none}
use Rattle.std.proofs.lemmas.Bool.{false≢true}
use Rattle.std.proofs.lemmas.Bool.Decides.{nat_tests}
use Rattle.std.proofs.lemmas.Option.{same_Some, slice_get-map, slice_get-get_or}
use Rattle.std.proofs.lemmas.List.Quantifiers.{position-Some}
use Rattle.law_common.proofs.Booleans.{both_parts}
use Rattle.law_driver.proofs.Common.{get_drop}
use Rattle.usb_base.specs.declared.endpoints.EndCause.{EndCause}
use Rattle.drv_chains.specs.Boundary.{is_seen}
use Rattle.drv_periodic.specs.declared.work.Store.{Store}
use Rattle.drv_periodic.specs.Periodic.{next_store}
use Rattle.drv_periodic_table.specs.declared.content.Removal.{Removal}
use Rattle.drv_table.specs.declared.content.Endpoint.{Endpoint}
use Rattle.drv_table.specs.declared.content.Transfer.{Transfer}
use Rattle.drv_table.specs.declared.content.Mend.{Mend}
use Rattle.drv_table.specs.declared.content.Command.{Command}
use Rattle.drv_table.specs.declared.content.Command.TheVariants as unfinished
use Rattle.drv_table.specs.declared.content.Turn.{Turn}
use Rattle.drv_table.specs.declared.content.Turn.TheVariants as turns
use Rattle.drv_table.specs.declared.content.Bell.{Bell}
use Rattle.drv_table.specs.declared.content.Bell.TheVariants as bells
use Rattle.drv_table.specs.declared.rows.DriverRow.{DriverRow}
use Rattle.drv_table.specs.declared.rows.DriverRow.TheVariants as rows
use Rattle.drv_table.specs.DriverContent.{DriverContent, works, waits_for}
use Rattle.drv_table.specs.Parts.{Parts}
use Rattle.drv_table.specs.Commands.{store_order, events_of, links, command_row, link_row}
use Rattle.drv_table.specs.Leaving.{tells_advance, removes, reading_for, bell_row, removal_row, first_row, leaving_row}
use Rattle.drv_table.specs.Harvesting.{found_of, worker_from, first_of_two, next_worker, reading_row, transfer_row, worker_row, harvest_row}
use Rattle.drv_table.specs.Rows.{turn_row, row_for, driver_row, after_driver_row}
use Rattle.law_footprints.specs.Footprint.{footprint}
use Rattle.law_footprints.proofs.Fields.{command_stays}
use Rattle.law_driver.specs.run_owners.Due.{IsDue}

-- ---- the command

abbrev IsCommandRow : DriverRow → Type 0
IsCommandRow rows.Lend = Unit {0}
IsCommandRow (rows.Store b at v) = Unit {0}
IsCommandRow rows.Frames = Unit {0}
IsCommandRow rows.LendDescriptors = Unit {0}
IsCommandRow _ = ⊥

stored_are : (f : ℕ → DriverRow) (o : Option ℕ) (row : DriverRow) → ((i : ℕ) → IsCommandRow (f i)) → option_map f o ≡ Some row → IsCommandRow row
stored_are f None row each e = absurd (cc)
stored_are f (Some i) row each e = subst IsCommandRow (same_Some (f i) row e) (each i)

events_are : (c : Command) (i : ℕ) (row : DriverRow) → slice_get (events_of c) i ≡ Some row → IsCommandRow row
events_are (unfinished.Open queue) zero row e = subst IsCommandRow (same_Some _ row e) tt
events_are (unfinished.Open queue) (suc zero) row e = subst IsCommandRow (same_Some _ row e) tt
events_are (unfinished.Open queue) (suc (suc i)) row e = absurd (cc)
events_are (unfinished.Publish b words) zero row e = subst IsCommandRow (same_Some _ row e) tt
events_are (unfinished.Publish b words) (suc i) row e =
    stored_are (λ i. rows.Store b (32 * b + 4 * i) (slice_index words i)) (slice_get store_order i) row (λ i. tt) (sym (slice_get-map _ store_order i) ∙ e)
events_are (unfinished.Unlink n b link) zero row e = subst IsCommandRow (same_Some _ row e) tt
events_are (unfinished.Unlink n b link) (suc i) row e = absurd (cc)
events_are unfinished.Chain zero row e = subst IsCommandRow (same_Some _ row e) tt
events_are unfinished.Chain (suc i) row e = absurd (cc)
events_are (unfinished.Iso n t count) zero row e = subst IsCommandRow (same_Some _ row e) tt
events_are (unfinished.Iso n t count) (suc zero) row e = subst IsCommandRow (same_Some _ row e) tt
events_are (unfinished.Iso n t count) (suc (suc i)) row e = absurd (cc)
events_are (unfinished.Unchain n) i row e = absurd (cc)

due_next : (p : Parts) (c : Command) (row : DriverRow) → p.driver.command ≡ Some c → slice_get (events_of c) p.driver.made ≡ Some row → IsCommandRow row → IsDue p row
due_next p c rows.Lend is next row = record { command = c; unfinished = is; next = next }
due_next p c (rows.Store b at v) is next row = inl (record { command = c; unfinished = is; next = next })
due_next p c rows.Frames is next row = record { command = c; unfinished = is; next = next }
due_next p c rows.LendDescriptors is next row = record { command = c; unfinished = is; next = next }
due_next p c _ is next row = absurd row

due_command : (p : Parts) (c : Command) (o : Option DriverRow) → p.driver.command ≡ Some c → slice_get (events_of c) p.driver.made ≡ o → IsDue p (unwrap_or o rows.Rest)
due_command p c None is next = tt
due_command p c (Some row) is next = due_next p c row is next (events_are c p.driver.made row next)

-- the stores of the frame list
due_link : (p : Parts) (c : Command) (o : Option Store) → p.driver.command ≡ Some c → links c ≡ true → length (events_of c) ≤ p.driver.made → next_store p.driver.periodic.list ≡ o → IsDue p (link_row o)
due_link p c None is on late next = tt
due_link p c (Some s) is on late next = inr (record { command = c; unfinished = is; links = on; late = late; store = s; next = next; is = refl })

not_before : (m n : ℕ) (b : Bool) → nat_le m n ≡ b → b ≡ true → m ≤ n
not_before m n b is on = grind (arith, nat_tests)

due_after : (p : Parts) (c : Command) (b : Bool) → p.driver.command ≡ Some c → (b ≡ true → (links c ≡ true) × (length (events_of c) ≤ p.driver.made)) → IsDue p (cond b (link_row (next_store p.driver.periodic.list)) (command_row c p.driver.made))
due_after p c true is on = due_link p c (next_store p.driver.periodic.list) is (on refl).0 (on refl).1 refl
due_after p c false is on = due_command p c (slice_get (events_of c) p.driver.made) is refl

-- ---- the leaving work

-- what comes after another row, or is there itself
due_first : (p : Parts) (a b : Option DriverRow) (row : DriverRow) → ((r : DriverRow) → a ≡ Some r → IsDue p r) → (a ≡ None → b ≡ Some row → IsDue p row) → first_row a b ≡ Some row → IsDue p row
due_first p (Some r) b row one other e = subst (IsDue p) (same_Some r row e) (one r refl)
due_first p None b row one other e = other refl e

-- a list that has no first has no row
no_first : (f : ℕ → DriverRow) (o : Option ℕ) → option_map f o ≡ None → o ≡ None
no_first f None e = refl
no_first f (Some n) e = absurd (cc)

first_is : (p : Parts) (f : ℕ → DriverRow) (o : Option ℕ) (row : DriverRow) → ((n : ℕ) → o ≡ Some n → IsDue p (f n)) → option_map f o ≡ Some row → IsDue p row
first_is p f None row each e = absurd (cc)
first_is p f (Some n) row each e = subst (IsDue p) (same_Some (f n) row e) (each n refl)

due_reading : (p : Parts) (a b : Bool) (row : DriverRow) → p.driver.command ≡ None → (a ≡ true → p.driver.bell ≡ bells.Rung) → reading_for p.driver p.registers a b ≡ Some row → IsDue p row
due_reading p false false row idle rung e = absurd (cc)
due_reading p true false row idle rung e = subst (IsDue p) (same_Some (rows.ReadStatus (tells_advance p.registers)) row e) (idle, rung refl, refl)
due_reading p false true row idle rung e = subst (IsDue p) (same_Some (rows.ReadFrame p.registers.frame_index) row e) (idle, refl)
due_reading p true true row idle rung e = at p.driver.periodic.status_next e
  where
    at : (b : Bool) → Some (cond b (rows.ReadStatus (tells_advance p.registers)) (rows.ReadFrame p.registers.frame_index)) ≡ Some row → IsDue p row
    at true f = subst (IsDue p) (same_Some (rows.ReadStatus (tells_advance p.registers)) row f) (idle, rung refl, refl)
    at false f = subst (IsDue p) (same_Some (rows.ReadFrame p.registers.frame_index) row f) (idle, refl)

due_bell : (p : Parts) (b : Bell) (row : DriverRow) → p.driver.command ≡ None → p.driver.bell ≡ b → bell_row p.driver p.registers b ≡ Some row → IsDue p row
due_bell p bells.Heard row idle is e = subst (IsDue p) (same_Some _ row e) (idle, is)
due_bell p bells.Rung row idle is e = due_reading p true (removes p.driver) row idle (λ on. is) e
due_bell p bells.Quiet row idle is e = quiet (nat_lt 0 (length p.driver.waiting)) e
  where
    quiet : (b : Bool) → cond b (Some rows.RingBell) (reading_for p.driver p.registers false (removes p.driver)) ≡ Some row → IsDue p row
    quiet true f = subst (IsDue p) (same_Some _ row f) (idle, is)
    quiet false f = due_reading p false (removes p.driver) row idle (λ off. absurd (false≢true off)) f

due_removal : (p : Parts) (o : Option Removal) (row : DriverRow) → p.driver.command ≡ None → slice_get p.driver.harvested 0 ≡ None → slice_get p.driver.periodic.unlinks 0 ≡ None → slice_get p.driver.periodic.removals 0 ≡ o → removal_row o ≡ Some row → IsDue p row
due_removal p None row idle none all is e = absurd (cc)
due_removal p (Some r) row idle none all is e = at (is_seen r.boundary) e
  where
    at : (b : Bool) → cond b (Some (rows.ReleaseRemoved r.what)) None ≡ Some row → IsDue p row
    at true f = subst (IsDue p) (same_Some (rows.ReleaseRemoved r.what) row f) (record { idle = idle; removal = r; first = is; is = refl; none_before = none; all_unlinked = all })
    at false f = absurd (cc)

due_leaving : (p : Parts) (row : DriverRow) → p.driver.command ≡ None → leaving_row p.driver p.registers ≡ Some row → IsDue p row
due_leaving p row idle e =
    due_first p (option_map rows.Mend (slice_get p.driver.mends 0)) _ row (λ r f. mended (slice_get p.driver.mends 0) r refl f)
    (λ no_mend. due_first p (option_map rows.ReleaseTransfer (slice_get p.driver.harvested 0)) _ row
    (λ r f. first_is p rows.ReleaseTransfer (slice_get p.driver.harvested 0) r (λ t is. record { idle = idle; first = is }) f)
    (λ none. due_first p (option_map rows.Unlink (slice_get p.driver.periodic.unlinks 0)) _ row
    (λ r f. first_is p rows.Unlink (slice_get p.driver.periodic.unlinks 0) r (λ t is. record { idle = idle; first = is }) f)
    (λ all. due_first p (option_map rows.ReleaseEndpoint (slice_get p.driver.cleared 0)) _ row
    (λ r f. first_is p rows.ReleaseEndpoint (slice_get p.driver.cleared 0) r (λ n is. record { idle = idle; first = is; none_before = no_first rows.ReleaseTransfer (slice_get p.driver.harvested 0) none }) f)
    (λ none_cleared. due_first p (removal_row (slice_get p.driver.periodic.removals 0)) _ row
    (λ r f. due_removal p (slice_get p.driver.periodic.removals 0) r idle (no_first rows.ReleaseTransfer (slice_get p.driver.harvested 0) none) (no_first rows.Unlink (slice_get p.driver.periodic.unlinks 0) all) refl f)
    (λ no_removal. due_bell p p.driver.bell row idle refl))))) e
  where
    mended : (o : Option Mend) (r : DriverRow) → slice_get p.driver.mends 0 ≡ o → option_map rows.Mend o ≡ Some r → IsDue p r
    mended None r is f = absurd (cc)
    mended (Some w) r is f = subst (IsDue p) (same_Some (rows.Mend w) r f) (idle, is)

-- ---- harvest

pub record IsWorker (xs : List Endpoint) (e : ℕ) : Type 0 where
  pub endpoint : Endpoint
  pub here : slice_get xs e ≡ Some endpoint
  pub works : works endpoint ≡ true

position_is : (xs : List Endpoint) (i : ℕ) → position works xs ≡ Some i → IsWorker xs i
position_is [] i e = absurd (cc)
position_is (x ∷ xs) i e =
    let at = position-Some works (x ∷ xs) i x e in
    record { endpoint = get_or (x ∷ xs) i x; here = slice_get-get_or (x ∷ xs) i x at.0; works = at.1 }

worker_is : (xs : List Endpoint) (k e : ℕ) → worker_from xs k ≡ Some e → IsWorker xs e
worker_is xs k e found = at (position works (drop k xs)) refl found
  where
    at : (o : Option ℕ) → position works (drop k xs) ≡ o → option_map (λ i. k + i) o ≡ Some e → IsWorker xs e
    at None is f = absurd (cc)
    at (Some i) is f =
        let w = position_is (drop k xs) i is in
        subst (IsWorker xs) (same_Some (k + i) e f) (record { endpoint = w.endpoint; here = sym (get_drop xs k i) ∙ w.here; works = w.works })

next_is : (d : DriverContent) (e : ℕ) (o : Option ℕ) → worker_from d.endpoints d.place ≡ o → first_of_two o (worker_from d.endpoints 0) ≡ Some e → IsWorker d.endpoints e
next_is d e None is f = worker_is d.endpoints 0 e f
next_is d e (Some k) is f = worker_is d.endpoints d.place e (is ∙ f)

works_is : (x : Endpoint) (next : Option ℕ) (o : Bool) → is_some next && o ≡ true → o ≡ true
works_is x None o e = absurd (false≢true e)
works_is x (Some t) o e = e

none_is : (x : Endpoint) → is_none x.ended ≡ true → x.ended ≡ None
none_is x e = at x.ended e
  where
    at : (o : Option EndCause) → is_none o ≡ true → o ≡ None
    at None f = refl
    at (Some c) f = absurd (false≢true f)

due_read : (p : Parts) (e t : ℕ) (x : Endpoint) (o : Option Transfer) (row : DriverRow) → p.driver.command ≡ None → slice_get p.driver.endpoints e ≡ Some x → x.ended ≡ None → x.next ≡ Some t → slice_get p.driver.transfers t ≡ o → reading_row p.driver p.memory e t o ≡ Some row → IsDue p row
due_read p e t x None row idle here ended next there f = absurd (cc)
due_read p e t x (Some y) row idle here ended next there f = at (waits_for e y) refl f
  where
    at : (b : Bool) → waits_for e y ≡ b → cond b (Some (rows.Harvest e t (found_of p.driver p.memory y y.sort))) None ≡ Some row → IsDue p row
    at true on g =
        subst (IsDue p) (same_Some (rows.Harvest e t (found_of p.driver p.memory y y.sort)) row g)
        (record { idle = idle; endpoint = x; transfer = y; here = here; goes_on = ended; next = next; there = there; waits = on; tells = refl })
    at false off g = absurd (cc)

due_transfer : (p : Parts) (e : ℕ) (x : Endpoint) (o : Option ℕ) (row : DriverRow) → p.driver.command ≡ None → slice_get p.driver.endpoints e ≡ Some x → x.ended ≡ None → x.next ≡ o → transfer_row p.driver p.memory e o ≡ Some row → IsDue p row
due_transfer p e x None row idle here ended next f = absurd (cc)
due_transfer p e x (Some t) row idle here ended next f = due_read p e t x (slice_get p.driver.transfers t) row idle here ended next refl f

due_worker : (p : Parts) (o : Option ℕ) (row : DriverRow) → p.driver.command ≡ None → next_worker p.driver ≡ o → worker_row p.driver p.memory o ≡ Some row → IsDue p row
due_worker p None row idle is f = absurd (cc)
due_worker p (Some e) row idle is f =
    let w = next_is p.driver e (worker_from p.driver.endpoints p.driver.place) refl is in
    due_transfer p e w.endpoint w.endpoint.next row idle w.here (none_is w.endpoint (works_is w.endpoint w.endpoint.next (is_none w.endpoint.ended) w.works)) refl
    (sym (ap (λ (o : Option Endpoint). transfer_row p.driver p.memory e (option_and_then (λ (x : Endpoint). x.next) o)) w.here) ∙ f)

due_harvest : (p : Parts) (row : DriverRow) → p.driver.command ≡ None → harvest_row p.driver p.memory ≡ Some row → IsDue p row
due_harvest p row idle f = due_worker p (next_worker p.driver) row idle refl f

-- ---- which of them

two : (p : Parts) (a b : Option DriverRow) → ((row : DriverRow) → a ≡ Some row → IsDue p row) → ((row : DriverRow) → b ≡ Some row → IsDue p row) → IsDue p (unwrap_or (first_row a b) rows.Rest)
two p None None one other = tt
two p None (Some row) one other = other row refl
two p (Some row) b one other = one row refl

due_turn : (p : Parts) (turn : Turn) → p.driver.command ≡ None → IsDue p (turn_row turn (leaving_row p.driver p.registers) (harvest_row p.driver p.memory))
due_turn p turns.Leaving idle = two p (leaving_row p.driver p.registers) (harvest_row p.driver p.memory) (λ row. due_leaving p row idle) (λ row. due_harvest p row idle)
due_turn p turns.Harvest idle = two p (harvest_row p.driver p.memory) (leaving_row p.driver p.registers) (λ row. due_harvest p row idle) (λ row. due_leaving p row idle)

due_for : (p : Parts) (o : Option Command) → p.driver.command ≡ o → IsDue p (row_for p o)
due_for p (Some c) is = due_after p c (links c && nat_le (length (events_of c)) p.driver.made) is (λ on. let b = both_parts (links c) (nat_le (length (events_of c)) p.driver.made) on in (b.0, not_before (length (events_of c)) p.driver.made (nat_le (length (events_of c)) p.driver.made) refl b.1))
due_for p None is = due_turn p p.driver.turn is

pub each_event_is_due : (p : Parts) → IsDue p (driver_row p)
each_event_is_due p = due_for p p.driver.command refl

-- ---- rows that come only where no command is unfinished

abbrev pub comes_idle : DriverRow → Bool
comes_idle rows.Lend = false
comes_idle (rows.Store b at v) = false
comes_idle rows.Frames = false
comes_idle rows.LendDescriptors = false
comes_idle rows.Rest = false
comes_idle _ = true

pub idle_due : (row : DriverRow) (p : Parts) → IsDue p row → comes_idle row ≡ true → p.driver.command ≡ None
idle_due rows.Lend p due idle = absurd (false≢true idle)
idle_due (rows.Store b at v) p due idle = absurd (false≢true idle)
idle_due rows.Frames p due idle = absurd (false≢true idle)
idle_due rows.LendDescriptors p due idle = absurd (false≢true idle)
idle_due rows.Rest p due idle = absurd (false≢true idle)
idle_due (rows.Unlink t) p due idle = due.idle
idle_due (rows.ReleaseRemoved what) p due idle = due.idle
idle_due (rows.ReleaseTransfer t) p due idle = due.idle
idle_due (rows.ReleaseEndpoint e) p due idle = due.idle
idle_due (rows.Harvest e t found) p due idle = due.idle
idle_due row p due idle = due.0

-- .. and begin none
pub stays_idle : (row : DriverRow) (p : Parts) → IsDue p row → comes_idle row ≡ true → (footprint row p.driver.command).command ≡ false
    → (after_driver_row row p).driver.command ≡ None
stays_idle row p due idle misses = command_stays row p p.driver.command refl misses ∙ idle_due row p due idle
