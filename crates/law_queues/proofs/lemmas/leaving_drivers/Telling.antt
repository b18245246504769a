-- What was told of an endpoint that was given back stays, after each event and each accepted command.
use Rattle.std.proofs.Common.{◌≡◌, ◌≢◌, ℕ, zero, suc, ◌&&◌, not, Bool, true, false, cond, List, [], ◌∷◌, ◌++◌, length, set, take, drop, slice_get, Option, Some, None, Ok, option_map, ap, sym, subst, ◌∙◌, ⊎_elim, inl, inr, refl}
use Rattle.std.specs.Prelude.{◌⊎◌}
use Rattle.std.proofs.lemmas.Bool.{cases_eq, false≢true}
use Rattle.std.proofs.lemmas.List.{append_assoc, append-nil}
use Rattle.std.proofs.lemmas.Option.{same_Some}
use Rattle.std.specs.List.{AllByRecursion}
use Rattle.law_common.proofs.Lists.{push_there, set_here, set_there}
use Rattle.law_common.proofs.Booleans.{refused_by}
use Rattle.usb_base.specs.declared.commands.Cmd.{Cmd}
use Rattle.usb_base.specs.declared.commands.Cmd.TheVariants as commands
use Rattle.usb_base.specs.declared.endpoints.EpDesc.{EpDesc}
use Rattle.usb_base.specs.declared.endpoints.EpName.{EpName}
use Rattle.usb_base.specs.declared.reports.Report.{Report}
use Rattle.usb_base.specs.declared.reports.What.TheVariants as lines
use Rattle.word_mem.specs.Memory.{Mem}
use Rattle.mem_runs.specs.Book.{Book, Holding, holding, lend_taken}
use Rattle.bus_wire.specs.Fates.{is_same_name}
use Rattle.claims_report.specs.Reports.{is_refusal, is_line_of}
use Rattle.claims_report.specs.Streams.{told_in}
use Rattle.law_queues.specs.told_endpoints.Telling.{named_of, lines_in}
use Rattle.law_queues.proofs.lemmas.told_endpoints.Lines.{stored_filtered, told_more, line_of_other}
use Rattle.drv_table.specs.declared.content.Endpoint.{Endpoint}
use Rattle.drv_table.specs.declared.content.Transfer.{Transfer}
use Rattle.drv_table.specs.declared.content.QtdNote.{QtdNote}
use Rattle.drv_table.specs.declared.rows.DriverRow.{DriverRow}
use Rattle.drv_table.specs.declared.rows.DriverRow.TheVariants as rows
use Rattle.drv_table.specs.declared.rows.Found.{Found}
use Rattle.drv_table.specs.DriverContent.{DriverContent}
use Rattle.drv_table.specs.Harvests.{reported}
use Rattle.drv_table.specs.Accepting.{Offered, new_runs}
use Rattle.drv_table.specs.Offers.{offered, new_endpoint, accepted_open, accepted_transfer, with_queued, note_stages}
use Rattle.drv_table.specs.Parts.{Parts}
use Rattle.drv_table.specs.Commands.{advance}
use Rattle.drv_table.specs.Releases.{after_transfer, freed_by, free_endpoint, cancelled_bytes, gone_with, after_endpoint, is_told}
use Rattle.drv_table.specs.Rows.{driver_row, after_driver_row}
use Rattle.law_driver.specs.run_owners.Due.{IsDue, IsHarvestDue}
use Rattle.claims_driver.specs.Leaving.{HasOwners, IsOrderly}
use Rattle.law_driver.proofs.lemmas.run_owners.Leaves.{first_left}
use Rattle.law_driver.proofs.lemmas.run_owners.Orders.{IsLeft}
use Rattle.law_driver.proofs.lemmas.run_owners.Reasons.{each_event_is_due}
use Rattle.law_driver.specs.run_owners.Accepts.{Opens, Transfers}
use Rattle.law_driver.specs.AsynchronousScripts.{OpensAsynchronous}
use Rattle.law_driver.specs.chained_transfers.Asynchronous.{OnlyAsynchronous, AcceptsAsynchronous}
use Rattle.law_driver.specs.chained_transfers.AsynchronousTurns.{AsynchronousTakesTurns}
use Rattle.law_driver.proofs.lemmas.chained_transfers.Accepting.{asynchronous_command_is_accepted}
use Rattle.law_driver.proofs.lemmas.chained_transfers.Rows.{left, advanced_or_left, set_which}
use Rattle.law_driver.proofs.lemmas.chained_transfers.Staying.{stands_alive}
use Rattle.law_queues.specs.leaving_drivers.Before.{IsAsBefore}
use Rattle.law_queues.specs.leaving_drivers.Told.{told_to, AreNamedOnce, IsGoneIn}
use Rattle.law_queues.proofs.lemmas.leaving_drivers.Leaving.{cancel_is_as_before, bell_is_as_before, status_is_as_before, frame_is_as_before, clear_is_as_before}
use Rattle.law_queues.proofs.lemmas.leaving_drivers.Never.{IsAsynchronousRow, asynchronous_row}
use Rattle.law_queues.proofs.lemmas.leaving_drivers.Reading.{ChangesAtMost, AddsLines, none_added, line_added, read_row}

-- ---- lines

told_by : (d f : DriverContent) (name : EpName) → f.reports ≡ d.reports → f.store ≡ d.store → told_to f name ≡ told_to d name
told_by d f name reports store =
    ap (λ (rs : List Report). told_in f.store (lines_in name rs)) reports ∙ ap (λ (xs : List ℕ). told_in xs (lines_in name d.reports)) store

-- a line of another endpoint
line_not : (name : EpName) (line : Report) → is_same_name line.name name ≡ false → is_line_of name line ≡ false
line_not name line other = ap (λ (b : Bool). b && not (is_refusal line.what)) other

-- lines of another endpoint
pub lines_not : (name other : EpName) (reports lines : List Report) → AllByRecursion (λ (line : Report). line.name ≡ other) lines → is_same_name other name ≡ false → lines_in name (reports ++ lines) ≡ lines_in name reports
lines_not name other reports [] named differs = ap (lines_in name) (append-nil reports)
lines_not name other reports (line ∷ rest) named differs =
    ap (lines_in name) (sym (append_assoc reports (line ∷ []) rest))
    ∙ lines_not name other (reports ++ line ∷ []) rest named.1 differs
    ∙ line_of_other name reports line (line_not name line (ap (λ (n : EpName). is_same_name n name) named.0 ∙ differs))

told_beside : (d f : DriverContent) (name other : EpName) → AreNamedOnce d → AddsLines d f other → is_same_name other name ≡ false → told_to f name ≡ told_to d name
told_beside d f name other once l differs =
    ap (λ (rs : List Report). told_in f.store (lines_in name rs)) l.reports
    ∙ ap (told_in f.store) (lines_not name other d.reports l.lines l.named differs)
    ∙ ap (λ (xs : List ℕ). told_in xs (lines_in name d.reports)) l.store
    ∙ told_more (lines_in name d.reports) d.store l.bytes (stored_filtered (is_line_of name) d.reports (length d.store) once.stored)

pub refusals_tell_nothing : (d f : DriverContent) (line : Report) → is_refusal line.what ≡ true → f.reports ≡ d.reports ++ line ∷ [] → f.store ≡ d.store → (name : EpName) → told_to f name ≡ told_to d name
refusals_tell_nothing d f line refusal reports store name =
    ap (λ (rs : List Report). told_in f.store (lines_in name rs)) reports
    ∙ ap (told_in f.store) (line_of_other name d.reports line (refused_by (is_same_name line.name name) (is_refusal line.what) refusal))
    ∙ ap (λ (xs : List ℕ). told_in xs (lines_in name d.reports)) store

-- ---- endpoints

-- endpoint i is given back, and was opened as z was
record IsStill (d : DriverContent) (i : ℕ) (z : Endpoint) : Type 0 where
  endpoint : Endpoint
  here : slice_get d.endpoints i ≡ Some endpoint
  gone : endpoint.gone ≡ true
  desc : endpoint.desc ≡ z.desc

still : (d : DriverContent) (i : ℕ) (z : Endpoint) → slice_get d.endpoints i ≡ Some z → z.gone ≡ true → IsStill d i z
still d i z here gone = record { endpoint = z; here = here; gone = gone; desc = refl }

-- what a step leaves of those that were given back, and which it gives back itself
record LeavesGone (d f : DriverContent) (gives : ℕ → Type 0) : Type 0 where
  on : (i : ℕ) (x : Endpoint) → slice_get d.endpoints i ≡ Some x → x.gone ≡ true → IsStill f i x
  from : (i : ℕ) (z : Endpoint) → slice_get f.endpoints i ≡ Some z → z.gone ≡ true → gives i ⊎ IsStill d i z
  told : (i : ℕ) (x : Endpoint) → slice_get d.endpoints i ≡ Some x → x.gone ≡ true → told_to f x.desc.name ≡ told_to d x.desc.name

gone_stays : (d f : DriverContent) (gives : ℕ → Type 0) → LeavesGone d f gives → (i : ℕ) (x : Endpoint) → slice_get d.endpoints i ≡ Some x → x.gone ≡ true → IsGoneIn f i x (told_to d x.desc.name)
gone_stays d f gives l i x here gone =
    let s = l.on i x here gone in
    record { endpoint = s.endpoint; here = s.here; gone = s.gone; desc = s.desc; told = ap (λ (c : EpDesc). told_to f c.name) s.desc ∙ l.told i x here gone }

gone_before : (d f : DriverContent) (gives : ℕ → Type 0) → LeavesGone d f gives → (i : ℕ) (z : Endpoint) → slice_get f.endpoints i ≡ Some z → z.gone ≡ true → (gives i → ⊥) → IsGoneIn d i z (told_to f z.desc.name)
gone_before d f gives l i z here gone not =
    ⊎_elim (λ (given : gives i). absurd (not given))
    (λ (s : IsStill d i z).
    record { endpoint = s.endpoint; here = s.here; gone = s.gone; desc = s.desc; told = sym (l.told i s.endpoint s.here s.gone) ∙ ap (λ (c : EpDesc). told_to f c.name) s.desc })
    (l.from i z here gone)

-- ---- where no endpoint changes

same_leaves : (d f : DriverContent) (gives : ℕ → Type 0) → f.endpoints ≡ d.endpoints → f.reports ≡ d.reports → f.store ≡ d.store → LeavesGone d f gives
same_leaves d f gives ends reports store = record {
  on = λ i x here gone. still f i x (ap (λ (xs : List Endpoint). slice_get xs i) ends ∙ here) gone;
  from = λ i z here gone. inr (still d i z (ap (λ (xs : List Endpoint). slice_get xs i) (sym ends) ∙ here) gone);
  told = λ i x here gone. told_by d f x.desc.name reports store;
}

before_leaves : (d f : DriverContent) (gives : ℕ → Type 0) → IsAsBefore d f → LeavesGone d f gives
before_leaves d f gives b = record {
  on = λ i x here gone. let w = b.ends_now i x here in record { endpoint = w.endpoint; here = w.here; gone = sym w.gone ∙ gone; desc = sym w.desc };
  from = λ i z here gone. let w = b.ends i z here in inr (record { endpoint = w.endpoint; here = w.here; gone = sym w.gone ∙ gone; desc = sym w.desc });
  told = λ i x here gone. told_by d f x.desc.name b.reports b.store;
}

-- ---- where one changes

-- it is given back, or as much so as before
module _ (d f : DriverContent) (gives : ℕ → Type 0) (e : ℕ) (x z : Endpoint) (here : slice_get d.endpoints e ≡ Some x) (are : f.endpoints ≡ set d.endpoints e z) (desc : z.desc ≡ x.desc) where
  set_on : (x.gone ≡ true → z.gone ≡ true) → (i : ℕ) (w : Endpoint) → slice_get d.endpoints i ≡ Some w → w.gone ≡ true → IsStill f i w
  set_on keeps i w was gone = ⊎_elim
      (λ (own : i ≡ e).
      let is : w ≡ x = same_Some w x (sym was ∙ ap (slice_get d.endpoints) own ∙ here) in
      record {
        endpoint = z;
        here = ap (λ (xs : List Endpoint). slice_get xs i) are ∙ ap (slice_get (set d.endpoints e z)) own ∙ set_here d.endpoints e x z here;
        gone = keeps (ap (λ (r : Endpoint). r.gone) (sym is) ∙ gone);
        desc = desc ∙ ap (λ (r : Endpoint). r.desc) (sym is);
      })
      (λ (other : i ≢ e). still f i w (ap (λ (xs : List Endpoint). slice_get xs i) are ∙ set_there d.endpoints e i z other ∙ was) gone) (cases_eq i e)

  set_from : (z.gone ≡ true → gives e ⊎ (x.gone ≡ true)) → (i : ℕ) (w : Endpoint) → slice_get f.endpoints i ≡ Some w → w.gone ≡ true → gives i ⊎ IsStill d i w
  set_from only i w now gone = ⊎_elim
      (λ (own : (i ≡ e) × (w ≡ z)).
      ⊎_elim (λ (given : gives e). inl (subst gives (sym own.0) given))
      (λ (was : x.gone ≡ true). inr (record { endpoint = x; here = ap (slice_get d.endpoints) own.0 ∙ here; gone = was; desc = sym desc ∙ ap (λ (r : Endpoint). r.desc) (sym own.1) }))
      (only (ap (λ (r : Endpoint). r.gone) (sym own.1) ∙ gone)))
      (λ (other : slice_get d.endpoints i ≡ Some w). inr (still d i w other gone))
      (set_which d.endpoints e i x z w here (ap (λ (xs : List Endpoint). slice_get xs i) (sym are) ∙ now))

-- the names of two endpoints differ where one was given back and the other wasn't
names_differ : (d : DriverContent) (e i : ℕ) (x w : Endpoint) → AreNamedOnce d → slice_get d.endpoints e ≡ Some x → x.gone ≡ false → slice_get d.endpoints i ≡ Some w → w.gone ≡ true → is_same_name x.desc.name w.desc.name ≡ false
names_differ d e i x w once here kept there gone = by (is_same_name x.desc.name w.desc.name) refl
  where
    by : (b : Bool) → is_same_name x.desc.name w.desc.name ≡ b → is_same_name x.desc.name w.desc.name ≡ false
    by false is = is
    by true is =
        let own : e ≡ i = once.apart e i (named_of x) (named_of w) (ap (option_map named_of) here) (ap (option_map named_of) there) is in
        let same : x ≡ w = same_Some x w (sym here ∙ ap (slice_get d.endpoints) own ∙ there) in
        absurd (false≢true (sym kept ∙ ap (λ (r : Endpoint). r.gone) same ∙ gone))

-- the lines are of one that wasn't given back
lines_tell : (d f : DriverContent) (e : ℕ) (x : Endpoint) → AreNamedOnce d → slice_get d.endpoints e ≡ Some x → x.gone ≡ false → AddsLines d f x.desc.name
    → (i : ℕ) (w : Endpoint) → slice_get d.endpoints i ≡ Some w → w.gone ≡ true → told_to f w.desc.name ≡ told_to d w.desc.name
lines_tell d f e x once here kept adds i w there gone = told_beside d f w.desc.name x.desc.name once adds (names_differ d e i x w once here kept there gone)

-- ---- the command goes on

advanced_leaves : (d : DriverContent) (gives : ℕ → Type 0) → OnlyAsynchronous d → LeavesGone d (advance d) gives
advanced_leaves d gives r = advanced_or_left (λ (f : DriverContent). LeavesGone d f gives) d d.command r.command (same_leaves d d gives refl refl refl) (same_leaves d _ gives refl refl refl) (same_leaves d _ gives refl refl refl)
    (λ e x leaves here.
    let z : Endpoint = record x { linked = false } in
    let f = left d e x in
    record {
      on = set_on d f gives e x z here refl refl (λ gone. gone);
      from = set_from d f gives e x z here refl refl (λ gone. inr gone);
      told = λ i w there gone. refl;
    })

-- ---- a transfer is given back

release_leaves : (p : Parts) (t : ℕ) (gives : ℕ → Type 0) (o : Option Transfer) (h : Holding) → LeavesGone p.driver (after_transfer p t o h).driver gives
release_leaves p t gives None h = same_leaves p.driver p.driver gives refl refl refl
release_leaves p t gives (Some y) h = same_leaves p.driver (after_transfer p t (Some y) h).driver gives refl refl refl

-- ---- an endpoint is given back

abbrev Gives : DriverRow → ℕ → Type 0
Gives row i = row ≡ rows.ReleaseEndpoint i

endpoint_leaves : (p : Parts) (e : ℕ) → slice_get p.driver.cleared 0 ≡ Some e → IsOrderly p.driver → AreNamedOnce p.driver → LeavesGone p.driver (after_driver_row (rows.ReleaseEndpoint e) p).driver (Gives (rows.ReleaseEndpoint e))
endpoint_leaves p e first order once = subst (λ (o : Option Endpoint). LeavesGone d (after_endpoint p e o).driver gives) (sym l.here) (by (is_told x))
  where
    d : DriverContent
    d = p.driver

    gives : ℕ → Type 0
    gives = Gives (rows.ReleaseEndpoint e)

    l : IsLeft p.driver.endpoints e
    l = first_left e first order

    x : Endpoint
    x = l.endpoint

    book : Book
    book = (free_endpoint p.driver e l.endpoint (holding p.driver.book p.memory)).book

    gone : (f : DriverContent) → f.endpoints ≡ set p.driver.endpoints e (record l.endpoint { gone = true }) → AddsLines p.driver f l.endpoint.desc.name → LeavesGone p.driver f gives
    gone f are adds = record {
      on = set_on p.driver f gives e l.endpoint (record l.endpoint { gone = true }) l.here are refl (λ was. refl);
      from = set_from p.driver f gives e l.endpoint (record l.endpoint { gone = true }) l.here are refl (λ is. inl refl);
      told = lines_tell p.driver f e l.endpoint once l.here l.gone adds;
    }

    by : (b : Bool) → LeavesGone p.driver (gone_with (cond b (reported p.driver lines.Cancel l.endpoint.desc.name (cancelled_bytes p.driver.notes p.memory e l.endpoint.queue p.driver.transfers)) p.driver) e l.endpoint (is_told l.endpoint) book) gives
    by true = gone _ refl (line_added p.driver p.driver _ l.endpoint.desc.name _ _ refl refl refl (none_added p.driver p.driver l.endpoint.desc.name refl refl))
    by false = gone _ refl (none_added p.driver _ l.endpoint.desc.name refl refl)

-- ---- a harvest

harvest_gone : (p : Parts) (e t : ℕ) (found : Found) (gives : ℕ → Type 0) → IsHarvestDue p e t found → OnlyAsynchronous p.driver → AreNamedOnce p.driver → LeavesGone p.driver (after_driver_row (rows.Harvest e t found) p).driver gives
harvest_gone p e t found gives due only once =
    let r = read_row p e t found due only in
    by (after_driver_row (rows.Harvest e t found) p).driver r.leaves.ends r.leaves.lines
  where
    told : (f : DriverContent) → AddsLines p.driver f due.endpoint.desc.name → (i : ℕ) (w : Endpoint) → slice_get p.driver.endpoints i ≡ Some w → w.gone ≡ true → told_to f w.desc.name ≡ told_to p.driver w.desc.name
    told f adds = lines_tell p.driver f e due.endpoint once due.here (stands_alive due.endpoint (only.endpoints e due.endpoint due.here) due.goes_on) adds

    by : (f : DriverContent) → ChangesAtMost p.driver f e due.endpoint → AddsLines p.driver f due.endpoint.desc.name → LeavesGone p.driver f gives
    by f (inl same) adds =
        let s = same_leaves p.driver (record p.driver { endpoints = f.endpoints }) gives same refl refl in
        record { on = λ i x here gone. let k = s.on i x here gone in record { endpoint = k.endpoint; here = k.here; gone = k.gone; desc = k.desc }; from = s.from; told = told f adds }
    by f (inr one) adds = record {
      on = set_on p.driver f gives e due.endpoint one.now due.here one.ends one.desc (λ gone. one.gone ∙ gone);
      from = set_from p.driver f gives e due.endpoint one.now due.here one.ends one.desc (λ gone. inr (sym one.gone ∙ gone));
      told = told f adds;
    }

-- ---- any event

due_gone : (row : DriverRow) (p : Parts) → IsDue p row → IsAsynchronousRow row → IsOrderly p.driver → OnlyAsynchronous p.driver → AreNamedOnce p.driver → LeavesGone p.driver (after_driver_row row p).driver (Gives row)
due_gone rows.Lend p due is order only once =
    let d = record p.driver { book = (lend_taken (holding p.driver.book p.memory)).book } in
    let a = advanced_leaves d (Gives rows.Lend) (record { endpoints = only.endpoints; moves = λ t y here. let m = only.moves t y here in record { endpoint = m.endpoint; here = m.here; sort = m.sort }; command = only.command; leaver = only.leaver; unlinks = only.unlinks; removals = only.removals }) in
    record {
      on = a.on;
      from = λ i z here gone. ⊎_elim (λ (given : Gives rows.Lend i). inl given)
          (λ (s : IsStill d i z). inr (record { endpoint = s.endpoint; here = s.here; gone = s.gone; desc = s.desc })) (a.from i z here gone);
      told = a.told;
    }
due_gone (rows.Store b at v) p due is order only once = advanced_leaves p.driver (Gives (rows.Store b at v)) only
due_gone (rows.Mend w) p due is order only once = same_leaves p.driver (after_driver_row (rows.Mend w) p).driver (Gives (rows.Mend w)) refl refl refl
due_gone (rows.ReleaseTransfer t) p due is order only once =
    release_leaves p t (Gives (rows.ReleaseTransfer t)) (slice_get p.driver.transfers t) (freed_by p.driver (holding p.driver.book p.memory) (slice_get p.driver.transfers t))
due_gone (rows.ReleaseEndpoint e) p due is order only once = endpoint_leaves p e due.first order once
due_gone rows.ClearAdvance p due is order only once = before_leaves p.driver (after_driver_row rows.ClearAdvance p).driver (Gives rows.ClearAdvance) (clear_is_as_before p due.0).0
due_gone rows.RingBell p due is order only once = before_leaves p.driver (after_driver_row rows.RingBell p).driver (Gives rows.RingBell) (bell_is_as_before p due.0).0
due_gone (rows.ReadStatus heard) p due is order only once = before_leaves p.driver (after_driver_row (rows.ReadStatus heard) p).driver (Gives (rows.ReadStatus heard)) (status_is_as_before p heard due.0).0
due_gone (rows.ReadFrame n) p due is order only once = before_leaves p.driver (after_driver_row (rows.ReadFrame n) p).driver (Gives (rows.ReadFrame n)) (frame_is_as_before p n due.0).0
due_gone (rows.Harvest e t found) p due is order only once = harvest_gone p e t found (Gives (rows.Harvest e t found)) due only once
due_gone rows.Rest p due is order only once = same_leaves p.driver p.driver (Gives rows.Rest) refl refl refl
due_gone _ p due is order only once = absurd is

event_gone : (p : Parts) → HasOwners p.driver → AsynchronousTakesTurns p.driver → AreNamedOnce p.driver → LeavesGone p.driver (after_driver_row (driver_row p) p).driver (Gives (driver_row p))
event_gone p owners turns once =
    let due = each_event_is_due p in
    due_gone (driver_row p) p due (asynchronous_row p (driver_row p) turns.asynchronous due) owners.orderly turns.asynchronous once

pub events_leave_told : (p : Parts) → HasOwners p.driver → AsynchronousTakesTurns p.driver → AreNamedOnce p.driver → (i : ℕ) (x : Endpoint) → slice_get p.driver.endpoints i ≡ Some x → x.gone ≡ true
    → IsGoneIn (after_driver_row (driver_row p) p).driver i x (told_to p.driver x.desc.name)
events_leave_told p owners turns once = gone_stays p.driver (after_driver_row (driver_row p) p).driver (Gives (driver_row p)) (event_gone p owners turns once)

pub events_only_tell : (p : Parts) → HasOwners p.driver → AsynchronousTakesTurns p.driver → AreNamedOnce p.driver → (i : ℕ) (z : Endpoint) → slice_get (after_driver_row (driver_row p) p).driver.endpoints i ≡ Some z
    → z.gone ≡ true → driver_row p ≢ rows.ReleaseEndpoint i → IsGoneIn p.driver i z (told_to (after_driver_row (driver_row p) p).driver z.desc.name)
events_only_tell p owners turns once = gone_before p.driver (after_driver_row (driver_row p) p).driver (Gives (driver_row p)) (event_gone p owners turns once)

-- ---- an accepted command gives nothing back

abbrev NoneGiven : ℕ → Type 0
NoneGiven i = ⊥

push_which : {X : Type 0} (xs : List X) (x : X) (n : ℕ) (z : X) → slice_get (xs ++ x ∷ []) n ≡ Some z → (slice_get xs n ≡ Some z) ⊎ (z ≡ x)
push_which [] x zero z here = inr (sym (same_Some x z here))
push_which [] x (suc n) z here = absurd (cc)
push_which (y ∷ ys) x zero z here = inl here
push_which (y ∷ ys) x (suc n) z here = push_which ys x n z here

open_gone : (d : DriverContent) (m : Mem) (o : Offered) → Opens d m o → LeavesGone d o.driver NoneGiven
open_gone d m o why = subst (λ (g : Offered). LeavesGone d g.driver NoneGiven) (sym why.is) (now _ _)
  where
    now : (queue dummy : ℕ) → LeavesGone d (accepted_open d why.desc why.holding_after queue dummy).driver NoneGiven
    now queue dummy =
        let n = new_endpoint why.desc queue dummy in
        let f = (accepted_open d why.desc why.holding_after queue dummy).driver in
        record {
          on = λ i x here gone. still f i x (push_there d.endpoints n i x here) gone;
          from = λ i z here gone. ⊎_elim (λ (was : slice_get d.endpoints i ≡ Some z). inr (still d i z was gone))
              (λ (new : z ≡ n). absurd (false≢true (ap (λ (r : Endpoint). r.gone) (sym new) ∙ gone)))
              (push_which d.endpoints n i z here);
          told = λ i x here gone. refl;
        }

asked_gone : (d : DriverContent) (m : Mem) (o : Offered) → Transfers d m o → LeavesGone d o.driver NoneGiven
asked_gone d m o why = subst (λ (g : Offered). LeavesGone d g.driver NoneGiven) (sym why.is) (now _ notes)
  where
    notes : List QtdNote
    notes =
        let w = why in
        let n = length w.asked.stages in
        note_stages d.notes w.asked.stages w.endpoint.dummy (take n (new_runs d w.holding_after)) (drop n (new_runs d w.holding_after))

    now : (dummy : ℕ) (notes : List QtdNote) → LeavesGone d (accepted_transfer d why.number why.endpoint why.asked why.holding_after dummy notes).driver NoneGiven
    now dummy notes =
        let e = why.number in
        let x = why.endpoint in
        let z = with_queued x dummy (length d.transfers) in
        let f = (accepted_transfer d e x why.asked why.holding_after dummy notes).driver in
        record {
          on = set_on d f NoneGiven e x z why.here refl refl (λ gone. gone);
          from = set_from d f NoneGiven e x z why.here refl refl (λ gone. inr gone);
          told = λ i w here gone. refl;
        }

gone_as : (d : DriverContent) (m : Mem) (o : Offered) (cmd : Cmd) → AcceptsAsynchronous d m o cmd → AsynchronousTakesTurns d → LeavesGone d o.driver NoneGiven
gone_as d m o (commands.OpenEp x) why turns = open_gone d m o why.opens
gone_as d m o (commands.Get name len by) why turns = asked_gone d m o why.transfers
gone_as d m o (commands.Put name bytes by) why turns = asked_gone d m o why.transfers
gone_as d m o (commands.Control name setup bytes) why turns = asked_gone d m o why.transfers
gone_as d m o (commands.Cancel name) why turns = before_leaves d o.driver NoneGiven (cancel_is_as_before d m o turns why).0
gone_as d m o _ why turns = absurd why

command_gone : (d : DriverContent) (m : Mem) (cmd : Cmd) (o : Offered) → AsynchronousTakesTurns d → OpensAsynchronous cmd → offered d m cmd ≡ Ok o → LeavesGone d o.driver NoneGiven
command_gone d m cmd o turns only is = gone_as d m o cmd (asynchronous_command_is_accepted d m cmd o turns.asynchronous only is) turns

pub commands_leave_told : (d : DriverContent) (m : Mem) (cmd : Cmd) (o : Offered) → AsynchronousTakesTurns d → OpensAsynchronous cmd → offered d m cmd ≡ Ok o
    → (i : ℕ) (x : Endpoint) → slice_get d.endpoints i ≡ Some x → x.gone ≡ true → IsGoneIn o.driver i x (told_to d x.desc.name)
commands_leave_told d m cmd o turns only is = gone_stays d o.driver NoneGiven (command_gone d m cmd o turns only is)

pub commands_only_tell : (d : DriverContent) (m : Mem) (cmd : Cmd) (o : Offered) → AsynchronousTakesTurns d → OpensAsynchronous cmd → offered d m cmd ≡ Ok o
    → (i : ℕ) (z : Endpoint) → slice_get o.driver.endpoints i ≡ Some z → z.gone ≡ true → IsGoneIn d i z (told_to o.driver z.desc.name)
commands_only_tell d m cmd o turns only is i z here gone = gone_before d o.driver NoneGiven (command_gone d m cmd o turns only is) i z here gone (λ none. none)
