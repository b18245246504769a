-- Each event of a driver leaves as many transfers less without a line as it wrote lines; a cancel leaves none.
use Rattle.std.proofs.Common.{◌≡◌, ◌≢◌, ℕ, zero, suc, ◌+◌, ◌-◌, Bool, true, false, cond, not, ◌||◌, ◌&&◌, ◌==◌, List, [], ◌∷◌, ◌++◌, length, map, set, slice_get, Option, Some, None, ap, sym, ◌∙◌, refl, arith, append_assoc}
use Rattle.std.specs.List.{AllByRecursion}
use Rattle.std.specs.Prelude.{count_by}
use Rattle.std.proofs.lemmas.List.{append-nil, length-append}
use Rattle.std.proofs.lemmas.List.Sums.{sum_by-cons}
use Rattle.std.proofs.lemmas.Option.{same_Some}
use Rattle.law_common.proofs.Booleans.{and_false, or_false}
use Rattle.law_common.proofs.Lists.{set_here}
use Rattle.usb_base.specs.declared.endpoints.EndCause.{EndCause}
use Rattle.usb_base.specs.declared.endpoints.EndCause.TheVariants.{Stall}
use Rattle.usb_base.specs.declared.endpoints.EpName.{EpName}
use Rattle.usb_base.specs.declared.reports.Report.{Report}
use Rattle.usb_base.specs.declared.reports.What.{What}
use Rattle.usb_base.specs.declared.reports.What.TheVariants.{Halt, Cancel}
use Rattle.word_mem.specs.Memory.{Mem}
use Rattle.mem_runs.specs.Book.{holding}
use Rattle.drv_periodic_table.specs.declared.content.Removed.TheVariants as removed
use Rattle.drv_table.specs.declared.content.Endpoint.{Endpoint}
use Rattle.drv_table.specs.declared.content.Transfer.{Transfer}
use Rattle.drv_table.specs.declared.rows.DriverRow.{DriverRow}
use Rattle.drv_table.specs.declared.rows.DriverRow.TheVariants as rows
use Rattle.drv_table.specs.declared.rows.Found.{Found}
use Rattle.drv_table.specs.declared.rows.Found.TheVariants as founds
use Rattle.drv_table.specs.DriverContent.{DriverContent, waits_for}
use Rattle.drv_table.specs.Harvests.{reported, noted, is_stall, end_of}
use Rattle.drv_table.specs.Harvesting.{told_with, stalled, mends_of, behind, behind_one, after_end, harvested_as, after_harvest, served}
use Rattle.drv_table.specs.Kinds.{is_iso}
use Rattle.drv_table.specs.Parts.{Parts}
use Rattle.drv_table.specs.Releases.{cancelled_bytes, is_told, let_go, gone_with, after_endpoint, free_endpoint}
use Rattle.drv_table.specs.Removals.{let_go_waiting, let_go_placed, removed_with, after_placed, free_placed}
use Rattle.drv_table.specs.Rows.{driver_row, after_driver_row}
use Rattle.qh_qtd.specs.declared.token.Token.{Token}
use Rattle.claims_answers.specs.Telling.{HasReason, done, missed, babbled, failed, stalled as stalled_so}
use Rattle.law_driver.specs.run_owners.Due.{IsDue, IsHarvestDue}
use Rattle.law_driver.proofs.lemmas.run_owners.Reasons.{each_event_is_due}
use Rattle.law_telling.proofs.Tokens.{found_ends}
use Rattle.claims_world.specs.Pending.{without_line, IsOf, is_of_transfer, IsGivenBack, IsFewer, one_each, cancelled, IsCountedDown}
use Rattle.law_reports.specs.requests.told_requests.Rows.{adds_lines}
use Rattle.law_reports.proofs.lemmas.requests.lemmas.told_requests.Quiet.{quiet_rows_keep_lines}
use Rattle.law_reports.proofs.lemmas.requests.lemmas.told_requests.Waiting.{quiet_rows_keep_waiting, set_same, set_less, map_same}
use Rattle.law_reports.proofs.lemmas.requests.lemmas.told_requests.WaitingHarvests.{other_harvest_keeps_waiting, other_returns_keep_waiting}
use Rattle.law_reports.specs.answers.Counting.{EventsCountDown}

-- ---- lines of one name, one for each transfer less

record Wrote (e : ℕ) (name : EpName) (d new : DriverContent) : Type 0 where
  lines : List Report
  are : new.reports ≡ d.reports ++ lines
  named : AllByRecursion (λ (l : Report). l.name ≡ name) lines
  whats : AllByRecursion (λ (l : Report). is_of_transfer l.what ≡ true) lines
  fewer : without_line new e + length lines ≡ without_line d e

none_wrote : (e : ℕ) (name : EpName) (d new : DriverContent) → new.reports ≡ d.reports → without_line new e ≡ without_line d e
    → Wrote e name d new
none_wrote e name d new same waits =
    record { lines = []; are = same ∙ sym (append-nil d.reports); named = tt; whats = tt; fewer = omega (arith, waits) }

one_wrote : (e : ℕ) (name : EpName) (d new : DriverContent) (line : Report) → new.reports ≡ d.reports ++ line ∷ [] → line.name ≡ name
    → is_of_transfer line.what ≡ true → suc (without_line new e) ≡ without_line d e → Wrote e name d new
one_wrote e name d new line are is what less =
    record { lines = line ∷ []; are = are; named = (is, tt); whats = (what, tt); fewer = omega (arith, less) }

all_both : (R : Report → Type 0) (xs ys : List Report) → AllByRecursion R xs → AllByRecursion R ys → AllByRecursion R (xs ++ ys)
all_both R [] ys one two = two
all_both R (x ∷ xs) ys one two = (one.0, all_both R xs ys one.1 two)

both_wrote : (e : ℕ) (name : EpName) (a b c : DriverContent) → Wrote e name a b → Wrote e name b c → Wrote e name a c
both_wrote e name a b c one two = record {
  lines = one.lines ++ two.lines;
  are = two.are ∙ ap (λ (ls : List Report). ls ++ two.lines) one.are ∙ append_assoc a.reports one.lines two.lines;
  named = all_both (λ (l : Report). l.name ≡ name) one.lines two.lines one.named two.named;
  whats = all_both (λ (l : Report). is_of_transfer l.what ≡ true) one.lines two.lines one.whats two.whats;
  fewer =
      let all = length-append one.lines two.lines in omega (arith, all, one.fewer, two.fewer);
}

-- ---- a harvest

one_behind : (d : DriverContent) (e k : ℕ) (name : EpName) (o : Option Transfer) → slice_get d.transfers k ≡ o
    → Wrote e name d (behind_one d e name k o)
one_behind d e k name None here = none_wrote e name d d refl refl
one_behind d e k name (Some y) here = at (waits_for e y) refl
  where
    at : (b : Bool) → waits_for e y ≡ b
        → Wrote e name d (cond b (record (reported d (Halt Stall) name []) {
          transfers = set d.transfers k (record y { reported = true });
          harvested = d.harvested ++ k ∷ [];
        }) d)
    at true on = one_wrote e name d _ _ refl refl refl (set_less e d.transfers k y (record y { reported = true }) here on
        (and_false (y.endpoint == e)))
    at false off = none_wrote e name d d refl refl

all_behind : (d : DriverContent) (e k n : ℕ) (name : EpName) → Wrote e name d (behind d e name k n)
unfolding behind
all_behind d e k zero name = none_wrote e name d d refl refl
all_behind d e k (suc n) name =
    let next : DriverContent = behind_one d e name k (slice_get d.transfers k) in
    both_wrote e name d next (behind next e name (suc k) n) (one_behind d e k name (slice_get d.transfers k) refl)
    (all_behind next e (suc k) n name)

end_wrote : (d : DriverContent) (e t : ℕ) (x : Endpoint) (stall : Bool) (cause : Option EndCause)
    → Wrote e x.desc.name d (after_end d e t x stall cause)
end_wrote d e t x stall (Some cause) = none_wrote e x.desc.name d _ refl refl
end_wrote d e t x false None = none_wrote e x.desc.name d _ refl refl
end_wrote d e t x true None =
    let first : DriverContent = record d {
      harvested = d.harvested ++ t ∷ [];
      endpoints = set d.endpoints e (record x { next = None });
      mends = d.mends ++ mends_of x;
    } in
    both_wrote e x.desc.name d first (stalled d e t x) (none_wrote e x.desc.name d first refl refl)
    (all_behind first e (suc t) (length d.transfers - suc t) x.desc.name)

-- what is told of a transfer that ends
abbrev IsOfTransfer : Found → Type 0
IsOfTransfer (founds.Ended n what) = is_of_transfer what ≡ true
IsOfTransfer _ = Unit {0}

found_wrote : (d : DriverContent) (m : Mem) (e t : ℕ) (x : Endpoint) (y : Transfer) (found : Found) → IsOfTransfer found
    → slice_get d.transfers t ≡ Some y → waits_for e y ≡ true → Wrote e x.desc.name d (harvested_as d m e t x y found)
found_wrote d m e t x y founds.Active its here on = none_wrote e x.desc.name d d refl refl
found_wrote d m e t x y (founds.Moved n) its here on = none_wrote e x.desc.name d _ refl (set_same e d.transfers t y _ here refl)
found_wrote d m e t x y (founds.Served errors) its here on =
    one_wrote e x.desc.name d _ _ refl refl refl (set_less e d.transfers t y (record y { reported = true }) here on
    (and_false (y.endpoint == e)))
found_wrote d m e t x y (founds.Ended n what) its here on =
    let told : DriverContent = told_with d m t y what x.desc.name (noted d.notes y.place n) in
    both_wrote e x.desc.name d told (after_end told e t x (is_stall what) (end_of x.desc.kind what))
    (one_wrote e x.desc.name d told _ refl refl its
    (set_less e d.transfers t y (record y { reported = true }) here on (and_false (y.endpoint == e))))
    (end_wrote told e t x (is_stall what) (end_of x.desc.kind what))

-- ---- as the clause says it

-- of the endpoint with this number, where it is there
record Down (d new : DriverContent) (e : ℕ) : Type 0 where
  lines : List Report
  are : new.reports ≡ d.reports ++ lines
  of : AllByRecursion (IsOf d e) lines
  fewer : IsFewer d new e lines

all_of : (d : DriverContent) (e : ℕ) (x : Endpoint) (ls : List Report) → slice_get d.endpoints e ≡ Some x
    → AllByRecursion (λ (l : Report). l.name ≡ x.desc.name) ls → AllByRecursion (IsOf d e) ls
all_of d e x [] here all = tt
all_of d e x (l ∷ ls) here all = (record { endpoint = x; here = here; name = all.0 }, all_of d e x ls here all.1)

wrote_down : (d new : DriverContent) (e : ℕ) (x : Endpoint) → slice_get d.endpoints e ≡ Some x → Wrote e x.desc.name d new → Down d new e
wrote_down d new e x here w =
    record { lines = w.lines; are = w.are; of = all_of d e x w.lines here w.named; fewer = one_each w.fewer w.whats }

still_down : (d new : DriverContent) (e : ℕ) → new.reports ≡ d.reports → without_line new e ≡ without_line d e → Down d new e
still_down d new e same waits =
    record { lines = []; are = same ∙ sym (append-nil d.reports); of = tt; fewer = one_each (omega (arith, waits)) tt }

harvest_down : (d : DriverContent) (m : Mem) (e t : ℕ) (found : Found) (o : Option Endpoint) (q : Option Transfer) → IsOfTransfer found
    → slice_get d.endpoints e ≡ o → slice_get d.transfers t ≡ q → Down d (after_harvest d m e t found o q) e
harvest_down d m e t found None None its here there = still_down d d e refl refl
harvest_down d m e t found None (Some y) its here there = still_down d d e refl refl
harvest_down d m e t found (Some x) None its here there = still_down d d e refl refl
harvest_down d m e t found (Some x) (Some y) its here there = at (waits_for e y) refl
  where
    at : (b : Bool) → waits_for e y ≡ b → Down d (cond b (served (harvested_as d m e t x y found) e) d) e
    at true on =
        let w = found_wrote d m e t x y found its there on in
        wrote_down d (served (harvested_as d m e t x y found) e) e x here
        (record { lines = w.lines; are = w.are; named = w.named; whats = w.whats; fewer = w.fewer })
    at false off = still_down d d e refl refl

-- ---- the return of an endpoint

-- what a cancel tells leaves none
none_counted : (e : ℕ) (f : Transfer → Transfer) (ys : List Transfer) → ((y : Transfer) → waits_for e (f y) ≡ false)
    → count_by (waits_for e) (map f ys) ≡ 0
none_counted e f [] each = refl
none_counted e f (y ∷ ys) each = count_none e (f y) (map f ys) (each y) ∙ none_counted e f ys each
  where
    count_none : (i : ℕ) (z : Transfer) (zs : List Transfer) → waits_for i z ≡ false
        → count_by (waits_for i) (z ∷ zs) ≡ count_by (waits_for i) zs
    count_none i z zs off =
        let sum = sum_by-cons (λ u. cond (waits_for i u) 1 0) z zs in
        let zero_more : ◌≡◌ {A = ℕ} (cond (waits_for i z) 1 0) 0 = ap (λ (b : Bool). cond b 1 0) off in omega (arith, sum, zero_more)

or_true : (a : Bool) → (a || true) ≡ true
or_true true = refl
or_true false = refl

go_none : (e : ℕ) (y : Transfer) → waits_for e (let_go e true y) ≡ false
go_none e y = at (y.endpoint == e) refl
  where
    at : (b : Bool) → (y.endpoint == e) ≡ b → waits_for e (cond b (record y { reported = y.reported || true; released = true }) y) ≡ false
    at true own = ap (λ (r : Bool). (y.endpoint == e) && not r) (or_true y.reported) ∙ and_false (y.endpoint == e)
    at false other = ap (λ (b : Bool). b && not y.reported) other

go_same : (e : ℕ) (y : Transfer) → waits_for e (let_go e false y) ≡ waits_for e y
go_same e y = at (y.endpoint == e)
  where
    at : (b : Bool) → waits_for e (cond b (record y { reported = y.reported || false; released = true }) y) ≡ waits_for e y
    at true = ap (λ (r : Bool). (y.endpoint == e) && not r) (or_false y.reported)
    at false = refl

waiting_none : (e : ℕ) (y : Transfer) → waits_for e (let_go_waiting e true y) ≡ false
waiting_none e y = at (waits_for e y) refl
  where
    at : (b : Bool) → waits_for e y ≡ b → waits_for e (cond b (record y { reported = y.reported || true; released = true }) y) ≡ false
    at true own = ap (λ (r : Bool). (y.endpoint == e) && not r) (or_true y.reported) ∙ and_false (y.endpoint == e)
    at false other = other

waiting_same : (e : ℕ) (y : Transfer) → waits_for e (let_go_waiting e false y) ≡ waits_for e y
waiting_same e y = at (waits_for e y)
  where
    at : (b : Bool) → waits_for e (cond b (record y { reported = y.reported || false; released = true }) y) ≡ waits_for e y
    at true = ap (λ (r : Bool). (y.endpoint == e) && not r) (or_false y.reported)
    at false = refl

placed_none : (iso : Bool) (e : ℕ) (y : Transfer) → waits_for e (let_go_placed iso e true y) ≡ false
placed_none true e y = waiting_none e y
placed_none false e y = go_none e y

placed_same : (iso : Bool) (e : ℕ) (y : Transfer) → waits_for e (let_go_placed iso e false y) ≡ waits_for e y
placed_same true e y = waiting_same e y
placed_same false e y = go_same e y

cancel_down : (d new : DriverContent) (e : ℕ) (x : Endpoint) (line : Report) → slice_get d.endpoints e ≡ Some x
    → new.reports ≡ d.reports ++ line ∷ [] → line.what ≡ Cancel → line.name ≡ x.desc.name → without_line new e ≡ 0 → IsGivenBack new e
    → Down d new e
cancel_down d new e x line here are what name none gone =
    record {
      lines = line ∷ [];
      are = are;
      of = (record { endpoint = x; here = here; name = name }, tt);
      fewer = cancelled line
          refl what none gone;
    }

now_gone : (xs : List Endpoint) (e : ℕ) (x : Endpoint) → slice_get xs e ≡ Some x → (z : Endpoint)
    → slice_get (set xs e (record x { gone = true })) e ≡ Some z → z.gone ≡ true
now_gone xs e x here z there =
    ap (λ (v : Endpoint). v.gone) (sym (same_Some (record x { gone = true }) z
    (sym (set_here xs e x (record x { gone = true }) here) ∙ there)))

endpoint_down : (p : Parts) (e : ℕ) (o : Option Endpoint) → slice_get p.driver.endpoints e ≡ o
    → Down p.driver (after_endpoint p e o).driver e
endpoint_down p e None here = still_down p.driver p.driver e refl refl
endpoint_down p e (Some x) here = at (is_told x)
  where
    at : (b : Bool)
        → Down p.driver
        (gone_with (cond b (reported p.driver Cancel x.desc.name
        (cancelled_bytes p.driver.notes p.memory e x.queue p.driver.transfers)) p.driver) e
        x b (free_endpoint p.driver e x (holding p.driver.book p.memory)).book) e
    at true = cancel_down p.driver _ e x _ here refl refl refl (none_counted e (let_go e true) p.driver.transfers (go_none e))
        (now_gone p.driver.endpoints e x here)
    at false = still_down p.driver _ e refl (map_same e (let_go e false) p.driver.transfers (go_same e))

removed_down : (p : Parts) (e : ℕ) (o : Option Endpoint) → slice_get p.driver.endpoints e ≡ o → Down p.driver (after_placed p e o).driver e
removed_down p e None here = still_down p.driver p.driver e refl refl
removed_down p e (Some x) here = at (is_told x)
  where
    at : (b : Bool)
        → Down p.driver
        (removed_with (cond b (reported p.driver Cancel x.desc.name
        (cancelled_bytes p.driver.notes p.memory e x.queue p.driver.transfers)) p.driver)
        e x b (free_placed p.driver e x (holding p.driver.book p.memory)).book) e
    at true =
        cancel_down p.driver _ e x _ here refl refl refl
        (none_counted e (let_go_placed (is_iso x.desc.kind) e true) p.driver.transfers (placed_none (is_iso x.desc.kind) e))
        (now_gone p.driver.endpoints e x here)
    at false =
        still_down p.driver _ e refl
        (map_same e (let_go_placed (is_iso x.desc.kind) e false) p.driver.transfers (placed_same (is_iso x.desc.kind) e))

-- ---- any row

whole : (d new : DriverContent) (e : ℕ) → Down d new e → ((k : ℕ) → e ≢ k → without_line new k ≡ without_line d k) → IsCountedDown d new
whole d new e down others = record { number = e; lines = down.lines; are = down.are; of = down.of; fewer = down.fewer; others = others }

quiet_down : (row : DriverRow) (p : Parts) → adds_lines row ≡ false → IsCountedDown p.driver (after_driver_row row p).driver
quiet_down row p quiet =
    whole p.driver (after_driver_row row p).driver 0
    (still_down p.driver (after_driver_row row p).driver 0 (quiet_rows_keep_lines row p quiet).reports
    (quiet_rows_keep_waiting row p 0 quiet))
    (λ k differs. quiet_rows_keep_waiting row p k quiet)

-- a token that ends its transfer tells of it
reason_of : (get last : Bool) (t : Token) (what : What) → HasReason get last t what → is_of_transfer what ≡ true
reason_of get last t _ (done off up why) = refl
reason_of get last t _ (missed off on m) = refl
reason_of get last t _ (babbled off on m b) = refl
reason_of get last t _ (failed off on m b c) = refl
reason_of get last t _ (stalled_so off on m b c) = refl

found_of_transfer : (p : Parts) (e t : ℕ) (found : Found) → IsHarvestDue p e t found → IsOfTransfer found
found_of_transfer p e t founds.Active due = tt
found_of_transfer p e t (founds.Moved n) due = tt
found_of_transfer p e t (founds.Served errors) due = tt
found_of_transfer p e t (founds.Ended n what) due =
    reason_of _ _ _ what (found_ends p due.transfer n what due.transfer.sort refl (sym due.tells)).reason

row_down : (row : DriverRow) (p : Parts) → IsDue p row → IsCountedDown p.driver (after_driver_row row p).driver
row_down (rows.Harvest e t found) p due =
    whole p.driver (after_driver_row (rows.Harvest e t found) p).driver e
    (harvest_down p.driver p.memory e t found (slice_get p.driver.endpoints e) (slice_get p.driver.transfers t)
    (found_of_transfer p e t found due)
    refl refl)
    (λ k differs. other_harvest_keeps_waiting p e t found k differs)
row_down (rows.ReleaseEndpoint e) p due =
    whole p.driver (after_driver_row (rows.ReleaseEndpoint e) p).driver e (endpoint_down p e (slice_get p.driver.endpoints e) refl)
    (λ k differs. (other_returns_keep_waiting p e k differs).0)
row_down (rows.ReleaseRemoved (removed.Endpoint e)) p due =
    whole p.driver (after_driver_row (rows.ReleaseRemoved (removed.Endpoint e)) p).driver e
    (removed_down p e (slice_get p.driver.endpoints e) refl) (λ k differs. (other_returns_keep_waiting p e k differs).1)
row_down row p due = quiet_down row p refl

pub events_count_down : EventsCountDown
events_count_down p = row_down (driver_row p) p (each_event_is_due p)
