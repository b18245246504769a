-- What is to be given back is of queue heads that a walk may still meet, after each event of a driver, whatever endpoints it has, as its queues tell it.
use Rattle.std.proofs.Common.{◌≡◌, ◌≢◌, ℕ, suc, Bool, true, false, cond, List, [], slice_get, Option, Some, None, ap, refl, sym, subst, ◌∙◌, ⊎_elim}
use Rattle.std.proofs.lemmas.Option.{same_Some}
use Rattle.law_common.proofs.Lists.{drop_one, none_first}
use Rattle.law_queues.proofs.Common.{let_go_harvested, owed_none}
use Rattle.usb_base.specs.declared.reports.What.TheVariants as lines
use Rattle.mem_runs.specs.Book.{Holding, holding, lend_taken}
use Rattle.drv_periodic_table.specs.declared.content.Removed.TheVariants as removed
use Rattle.drv_table.specs.declared.content.Endpoint.{Endpoint}
use Rattle.drv_table.specs.declared.content.Transfer.{Transfer}
use Rattle.drv_table.specs.declared.rows.DriverRow.{DriverRow}
use Rattle.drv_table.specs.declared.rows.DriverRow.TheVariants as rows
use Rattle.drv_table.specs.declared.rows.Found.{Found}
use Rattle.drv_table.specs.DriverContent.{DriverContent}
use Rattle.drv_table.specs.Harvests.{reported}
use Rattle.drv_table.specs.Parts.{Parts}
use Rattle.drv_table.specs.Releases.{after_transfer, freed_by, cancelled_bytes, is_told}
use Rattle.drv_table.specs.Removals.{after_placed}
use Rattle.drv_table.specs.Rows.{driver_row, after_driver_row}
use Rattle.law_driver.specs.endpoint_lives.Lives.{may_meet}
use Rattle.law_driver.proofs.lemmas.endpoint_lives.Lives.{linked_met, met_alike}
use Rattle.law_driver.specs.run_owners.Due.{IsDue, IsHarvestDue}
use Rattle.claims_driver.specs.Leaving.{HasOwners}
use Rattle.law_driver.proofs.lemmas.run_owners.Reasons.{each_event_is_due}
use Rattle.law_driver.specs.chained_transfers.Asynchronous.{OnlyAsynchronous}
use Rattle.law_driver.specs.chained_transfers.Turns.{IsInList}
use Rattle.law_driver.proofs.lemmas.chained_transfers.Staying.{stands_linked}
use Rattle.law_queues.proofs.lemmas.fed_lends.Asked.{set_which}
use Rattle.law_queues.specs.leaving_drivers.Owed.{AreOwedMet}
use Rattle.law_queues.proofs.lemmas.leaving_drivers.Clearing.{clear_finds}
use Rattle.law_queues.proofs.lemmas.leaving_drivers.Leaving.{bell_is_as_before, status_is_as_before}
use Rattle.law_queues.proofs.lemmas.leaving_drivers.Owing.{owed_before, advanced_owed}
use Rattle.law_queues.proofs.lemmas.leaving_drivers.Reading.{IsTransferOf, read_row}
use Rattle.law_driver.specs.queued_drivers.Queued.{queued, queued_parts, QueuesTakeTurns}
use Rattle.law_driver.specs.queued_drivers.Rows.{IsOfQueues, QueuesAlike, EventKind, of_queues, of_frames, lends_chain, finishes_chain, gives_back}
use Rattle.law_driver.proofs.lemmas.queued_drivers.RowEvents.{row_told}
use Rattle.law_driver.proofs.lemmas.queued_drivers.RowFrames.{chain_lends_agree, chains_finish, frames_leave}
use Rattle.law_driver.proofs.lemmas.queued_drivers.RowKinds.{event_kind}

-- ---- what is told alike

owed_same : (d f : DriverContent) → f.endpoints ≡ d.endpoints → f.transfers ≡ d.transfers → f.harvested ≡ d.harvested → f.waiting ≡ d.waiting → f.rung ≡ d.rung → AreOwedMet d → AreOwedMet f
owed_same d f endpoints transfers harvested waiting rung old i t y x at there here =
    met_alike d f y.endpoint x x refl waiting rung
    ∙ old i t y x (ap (λ (hs : List ℕ). slice_get hs i) (sym harvested) ∙ at) (ap (λ (ts : List Transfer). slice_get ts t) (sym transfers) ∙ there)
    (ap (λ (xs : List Endpoint). slice_get xs y.endpoint) (sym endpoints) ∙ here)

owed_alike : (d f : DriverContent) → QueuesAlike d f → AreOwedMet d → AreOwedMet f
owed_alike d f k = owed_same d f k.endpoints k.transfers k.harvested k.waiting k.rung

-- ---- rows of queues, of a driver of bulk and control endpoints

release_owed : (p : Parts) (t : ℕ) (o : Option Transfer) (h : Holding) → slice_get p.driver.transfers t ≡ o → AreOwedMet p.driver → AreOwedMet (after_transfer p t o h).driver
release_owed p t None h there old = old
release_owed p t (Some y) h there old = λ i u z x at is here.
    let d = p.driver in
    ⊎_elim
    (λ (own : (u ≡ t) × (z ≡ record y { released = true })).
    let e : z.endpoint ≡ y.endpoint = ap (λ (r : Transfer). r.endpoint) own.1 in
    ap (λ (k : ℕ). may_meet d k x) e
    ∙ old (suc i) u y x (drop_one d.harvested i u at) (ap (slice_get d.transfers) own.0 ∙ there) (ap (slice_get d.endpoints) (sym e) ∙ here))
    (λ (other : (u ≢ t) × (slice_get d.transfers u ≡ Some z)). old (suc i) u z x (drop_one d.harvested i u at) other.1 here)
    (set_which d.transfers t u y (record y { released = true }) z there is)

harvest_owed : (p : Parts) (e t : ℕ) (found : Found) → IsHarvestDue p e t found → OnlyAsynchronous p.driver → AreOwedMet p.driver → AreOwedMet (after_driver_row (rows.Harvest e t found) p).driver
harvest_owed p e t found due only old i u z w at there here =
    let d = p.driver in
    let f = (after_driver_row (rows.Harvest e t found) p).driver in
    let r = read_row p e t found due only in
    let was = r.keeps.transfers u z there in
    let one = r.keeps.ends z.endpoint w here in
    let near : may_meet f z.endpoint w ≡ may_meet d z.endpoint one.one = met_alike d f z.endpoint one.one w one.kept.linked r.keeps.waiting r.keeps.rung in
    near
    ∙ ⊎_elim
    (λ (l : IsInList d.harvested u).
    ap (λ (k : ℕ). may_meet d k one.one) was.endpoint ∙ old l.at u was.one one.one l.here was.here (ap (slice_get d.endpoints) (sym was.endpoint) ∙ one.here))
    (λ (new : IsTransferOf d e u).
    let is : was.one ≡ new.one = same_Some was.one new.one (sym was.here ∙ new.here) in
    let of_e : z.endpoint ≡ e = was.endpoint ∙ ap (λ (k : Transfer). k.endpoint) is ∙ new.endpoint in
    let same : one.one ≡ due.endpoint = same_Some one.one due.endpoint (sym one.here ∙ ap (slice_get d.endpoints) of_e ∙ due.here) in
    linked_met d z.endpoint one.one (ap (λ (k : Endpoint). k.linked) same ∙ stands_linked due.endpoint (only.endpoints e due.endpoint due.here) due.goes_on))
    (r.leaves.listed i u at)

-- the runs are no part of it
lend_owed : (p : Parts) → OnlyAsynchronous p.driver → AreOwedMet p.driver → AreOwedMet (after_driver_row rows.Lend p).driver
lend_owed p only old =
    let d = record p.driver { book = (lend_taken (holding p.driver.book p.memory)).book } in
    advanced_owed d (record { endpoints = only.endpoints; moves = λ t y there. let m = only.moves t y there in record { endpoint = m.endpoint; here = m.here; sort = m.sort }; command = only.command; leaver = only.leaver; unlinks = only.unlinks; removals = only.removals }) old

queue_owes : (row : DriverRow) (p q : Parts) → IsOfQueues p row → IsDue q row → (row ≡ rows.ClearAdvance → q.driver.harvested ≡ []) → OnlyAsynchronous q.driver → AreOwedMet q.driver → AreOwedMet (after_driver_row row q).driver
queue_owes rows.Lend p q is due clears only old = lend_owed q only old
queue_owes (rows.Store b at v) p q is due clears only old = advanced_owed q.driver only old
queue_owes (rows.Mend w) p q is due clears only old = old
queue_owes (rows.ReleaseTransfer t) p q is due clears only old =
    release_owed q t (slice_get q.driver.transfers t) (freed_by q.driver (holding q.driver.book q.memory) (slice_get q.driver.transfers t)) refl old
queue_owes (rows.ReleaseEndpoint e) p q is due clears only old =
    owed_none (after_driver_row (rows.ReleaseEndpoint e) q).driver (let_go_harvested q e (slice_get q.driver.endpoints e) ∙ none_first q.driver.harvested due.none_before)
queue_owes rows.ClearAdvance p q is due clears only old = owed_none (after_driver_row rows.ClearAdvance q).driver (clears refl)
queue_owes rows.RingBell p q is due clears only old = let b = bell_is_as_before q due.0 in owed_before q.driver (after_driver_row rows.RingBell q).driver b.0 b.1 old
queue_owes (rows.ReadStatus heard) p q is due clears only old =
    let b = status_is_as_before q heard due.0 in owed_before q.driver (after_driver_row (rows.ReadStatus heard) q).driver b.0 b.1 old
queue_owes (rows.Harvest e t found) p q is due clears only old = harvest_owed q e t found due only old
queue_owes rows.Rest p q is due clears only old = old
queue_owes _ p q is due clears only old = absurd is

-- ---- an endpoint that left its frames is given back: nothing is to be given back before it

placed_harvested : (p : Parts) (e : ℕ) (o : Option Endpoint) → (after_placed p e o).driver.harvested ≡ p.driver.harvested
placed_harvested p e None = refl
placed_harvested p e (Some x) = by (is_told x)
  where
    by : (b : Bool) → (cond b (reported p.driver lines.Cancel x.desc.name (cancelled_bytes p.driver.notes p.memory e x.queue p.driver.transfers)) p.driver).harvested ≡ p.driver.harvested
    by true = refl
    by false = refl

-- ---- any row

row_by : (row : DriverRow) (p : Parts) → driver_row p ≡ row → HasOwners p.driver → QueuesTakeTurns p.driver → IsDue p row → EventKind p row → AreOwedMet (queued p.driver) → AreOwedMet (queued (after_driver_row row p).driver)
row_by row p next owners turns due (of_queues is) old =
    let told = row_told row p owners turns due is in
    subst (λ (q : Parts). AreOwedMet q.driver) (sym told.same)
    (queue_owes row p (queued_parts p) is told.due (λ clears. (clear_finds p (next ∙ clears)).none_harvested) turns.turns.asynchronous old)
row_by row p next owners turns due (of_frames is) old = owed_alike (queued p.driver) (queued (after_driver_row row p).driver) (frames_leave row p owners turns due is).queues old
row_by row p next owners turns due (lends_chain is) old =
    let lent = chain_lends_agree p (subst (IsDue p) is.is due) is.on in
    subst (λ (r : DriverRow). AreOwedMet (queued (after_driver_row r p).driver)) (sym is.is)
    (owed_alike (after_driver_row rows.Lend (queued_parts p)).driver (queued (after_driver_row rows.Lend p).driver) lent.queues (lend_owed (queued_parts p) turns.turns.asynchronous old))
row_by row p next owners turns due (finishes_chain is) old = let f = chains_finish p row due is in owed_same (queued p.driver) (queued (after_driver_row row p).driver) f.queues.endpoints f.queues.transfers f.queues.harvested f.queues.waiting f.queues.rung old
row_by row p next owners turns due (gives_back is) old =
    let why = subst (IsDue p) is.is due in
    subst (λ (r : DriverRow). AreOwedMet (queued (after_driver_row r p).driver)) (sym is.is)
    (owed_none (queued (after_driver_row (rows.ReleaseRemoved (removed.Endpoint is.number)) p).driver)
    (placed_harvested p is.number (slice_get p.driver.endpoints is.number) ∙ none_first p.driver.harvested why.none_before))

pub row_owes : (p : Parts) → HasOwners p.driver → QueuesTakeTurns p.driver → AreOwedMet (queued p.driver) → AreOwedMet (queued (after_driver_row (driver_row p) p).driver)
row_owes p owners turns old = row_by (driver_row p) p refl owners turns (each_event_is_due p) (event_kind (driver_row p) p owners (each_event_is_due p)) old
