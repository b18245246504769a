-- What an event leaves of an endpoint that isn't its own: it is as it was, and so are its transfers that wait and what is noted of their
-- qTDs.
use Rattle.std.proofs.Common.{◌≡◌, ◌≢◌, ℕ, zero, suc, ◌-◌, ◌||◌, Bool, true, false, if◌then◌else◌, List, [], ◌∷◌, ◌++◌, length, map, set}
use Rattle.std.proofs.Common.{slice_get, Option, Some, None, option_map, ap, refl, sym, subst, ◌∙◌, ⊎_elim, inl, inr}
use Rattle.std.specs.Prelude.{◌⊎◌, count_by}
use Rattle.std.proofs.lemmas.Option.{same_Some, slice_get-map}
use Rattle.law_common.proofs.Lists.{set_there}
use Rattle.law_common.proofs.Numbers.{other_number}
use Rattle.law_driver.proofs.Common.{waits_is}
use Rattle.law_driver_ring.proofs.Common.{set_else}
use Rattle.law_queues.proofs.Common.{after_is}
use Rattle.usb_base.specs.declared.endpoints.EndCause.{EndCause}
use Rattle.usb_base.specs.declared.endpoints.EpName.{EpName}
use Rattle.usb_base.specs.declared.reports.What.TheVariants.{Cancel}
use Rattle.word_mem.specs.Memory.{Mem}
use Rattle.mem_runs.specs.Book.{Holding, holding}
use Rattle.drv_table.specs.declared.content.Endpoint.{Endpoint}
use Rattle.drv_table.specs.declared.content.Mend.{Mend}
use Rattle.drv_table.specs.declared.content.QtdNote.{QtdNote}
use Rattle.drv_table.specs.declared.content.Transfer.{Transfer}
use Rattle.drv_table.specs.declared.rows.DriverRow.TheVariants as rows
use Rattle.drv_table.specs.declared.rows.Found.{Found}
use Rattle.drv_table.specs.declared.rows.Found.TheVariants as founds
use Rattle.drv_table.specs.DriverContent.{DriverContent, waits_for}
use Rattle.drv_table.specs.Harvests.{note_at, noted, reported, is_stall, end_of}
use Rattle.drv_table.specs.Harvesting.{told_with, behind_one, behind, mends_of, after_end, served, harvested_as}
use Rattle.drv_table.specs.Parts.{Parts}
use Rattle.drv_table.specs.Releases.{is_told, cancelled_bytes, let_go, freed_by, after_transfer, after_endpoint}
use Rattle.drv_table.specs.Rows.{after_driver_row}
use Rattle.claims_driver.specs.Leaving.{HasOwners}
use Rattle.claims_world.specs.Requests.{numbers_from, numbers_of}
use Rattle.law_driver.specs.chained_transfers.AsynchronousTurns.{AsynchronousTakesTurns}
use Rattle.law_driver.specs.run_owners.Due.{IsHarvestDue}
use Rattle.law_driver_ring.specs.told_harvests.Held.{IsOneFrom}
use Rattle.law_footprints.proofs.Fields.{endpoints_stays, notes_stays, mends_stays}
use Rattle.law_footprints.proofs.Frame.{all_behind}
use Rattle.law_queues.specs.leaving_drivers.Before.{WasSame}
use Rattle.law_queues.proofs.lemmas.harvest_laws.ReadRows.{read_next}
use Rattle.law_reports.specs.requests.LeftStays.{IsWaiting}
use Rattle.law_reports.specs.requests.told_requests.Waiting.{waiting}
use Rattle.law_reports.proofs.lemmas.requests.HighMore.{found_or}
use Rattle.law_reports.proofs.lemmas.requests.lemmas.driver_requests.RowOrder.{row_numbers}
use Rattle.law_reports.proofs.lemmas.requests.lemmas.told_requests.Waiting.{either, quiet_rows_keep_waiting}
use Rattle.law_reports.proofs.lemmas.requests.lemmas.told_requests.WaitingHarvests.{other_harvest_keeps_waiting, other_returns_keep_waiting}

pub record LeavesIt (d f : DriverContent) (i : ℕ) (z : Endpoint) : Type 0 where
  pub was : WasSame d i z
  pub numbers : numbers_of f i ≡ numbers_of d i
  pub waiting_same : waiting f i ≡ waiting d i
  pub transfers : (u : ℕ) (y : Transfer) → IsWaiting d i u y → slice_get f.transfers u ≡ Some y
  pub notes : (u b : ℕ) (y : Transfer) → IsWaiting d i u y → IsOneFrom (note_at d.notes) y.first y.qtds b
      → note_at f.notes b ≡ note_at d.notes b
  -- what is owed then was owed before, or to another queue head
  pub mends : (j : ℕ) (o : Mend) → slice_get f.mends j ≡ Some o → ((l : ℕ) × (slice_get d.mends l ≡ Some o)) ⊎ (o.queue ≢ z.queue)

pub same_was : (d : DriverContent) (es : List Endpoint) → es ≡ d.endpoints → (i : ℕ) (z : Endpoint) → slice_get es i ≡ Some z
    → WasSame d i z
same_was d es is i z there = record {
  endpoint = z;
  here = ap (λ (xs : List Endpoint). slice_get xs i) (sym is) ∙ there;
  queue = refl;
  dummy = refl;
  desc = refl;
  next = refl;
  gone = refl;
  ends = refl;
}

-- the same transfers and notes
pub same_leaves : (d f : DriverContent) (i : ℕ) (z : Endpoint) → WasSame d i z → f.transfers ≡ d.transfers → f.notes ≡ d.notes
    → f.mends ≡ d.mends → LeavesIt d f i z
same_leaves d f i z was transfers notes mends = record {
  was = was;
  numbers = ap (λ (ts : List Transfer). numbers_from i 0 ts) transfers;
  waiting_same = ap (λ (ts : List Transfer). count_by (waits_for i) ts) transfers;
  transfers = λ u y k. ap (λ (ts : List Transfer). slice_get ts u) transfers ∙ k.here;
  notes = λ u b y k one. ap (λ (ns : List QtdNote). note_at ns b) notes;
  mends = λ j o at. inl (j, ap (λ (ms : List Mend). slice_get ms j) (sym mends) ∙ at);
}

-- ---- a harvest of another endpoint

abbrev OtherStays : ℕ → DriverContent → DriverContent → Type 0
OtherStays e d f = (u : ℕ) (y : Transfer) → y.endpoint ≢ e → slice_get d.transfers u ≡ Some y → slice_get f.transfers u ≡ Some y

-- the one that changes is of endpoint e
one_set : (e : ℕ) (d : DriverContent) (ts : List Transfer) (t : ℕ) (x y : Transfer) → slice_get d.transfers t ≡ Some x → x.endpoint ≡ e
    → ts ≡ set d.transfers t y → (u : ℕ) (z : Transfer) → z.endpoint ≢ e → slice_get d.transfers u ≡ Some z → slice_get ts u ≡ Some z
one_set e d ts t x y at own is u z other there =
    ap (λ (us : List Transfer). slice_get us u) is
    ∙ set_there d.transfers t u y
    (λ (same : u ≡ t).
    other (ap (λ (v : Transfer). v.endpoint) (same_Some z x (sym there ∙ ap (slice_get d.transfers) same ∙ at)) ∙ own)) ∙ there

one_behind : (e : ℕ) (d : DriverContent) (name : EpName) (k : ℕ) (o : Option Transfer) → slice_get d.transfers k ≡ o
    → OtherStays e d (behind_one d e name k o)
one_behind e d name k None at = λ u y other there. there
one_behind e d name k (Some x) at =
    either (OtherStays e d) (waits_for e x) _ d
    (λ on. λ u y other there. one_set e d _ k x _ at (waits_is e x on).0 refl u y other there) (λ u y other there. there)

all_stay : (e : ℕ) (d : DriverContent) (name : EpName) (k n : ℕ) → OtherStays e d (behind d e name k n)
unfolding behind
all_stay e d name k zero = λ u y other there. there
all_stay e d name k (suc n) = λ u y other there.
    all_stay e (behind_one d e name k (slice_get d.transfers k)) name (suc k) n u y other
    (one_behind e d name k (slice_get d.transfers k) refl u y other there)

ended_stays : (e : ℕ) (d f : DriverContent) (t : ℕ) (x : Endpoint) (stall : Bool) (o : Option EndCause) → OtherStays e d f
    → OtherStays e d (after_end f e t x stall o)
ended_stays e d f t x stall (Some cause) k = k
ended_stays e d f t x true None k = λ u y other there.
    all_stay e (record f {
      harvested = f.harvested ++ t ∷ [];
      endpoints = set f.endpoints e (record x { next = None });
      mends = f.mends ++ mends_of x;
    }) x.desc.name (suc t) (length f.transfers - suc t) u y other (k u y other there)
ended_stays e d f t x false None k = k

module _ (d : DriverContent) (m : Mem) (e t : ℕ) (x : Endpoint) (y : Transfer) (there : slice_get d.transfers t ≡ Some y)
    (own : y.endpoint ≡ e) where
  read_stays : (found : Found) → OtherStays e d (harvested_as d m e t x y found)
  read_stays founds.Active = λ u z other at. at
  read_stays (founds.Moved n) = one_set e d _ t y _ there own refl
  read_stays (founds.Served errors) = one_set e d _ t y _ there own refl
  read_stays (founds.Ended n what) =
      ended_stays e d (told_with d m t y what x.desc.name (noted d.notes y.place n)) t x (is_stall what) (end_of x.desc.kind what)
      (one_set e d _ t y _ there own refl)

  -- no other endpoint changes
  abbrev OtherEnds : DriverContent → Type 0
  OtherEnds f = (i : ℕ) → i ≢ e → slice_get f.endpoints i ≡ slice_get d.endpoints i

  ended_ends : (f : DriverContent) (stall : Bool) (o : Option EndCause) → f.endpoints ≡ d.endpoints → OtherEnds (after_end f e t x stall o)
  ended_ends f stall (Some cause) is = λ i differs.
      set_there f.endpoints e i _ differs ∙ ap (λ (xs : List Endpoint). slice_get xs i) is
  ended_ends f true None is = λ i differs.
      ap (λ (g : DriverContent). slice_get g.endpoints i)
      (all_behind (record f {
        harvested = f.harvested ++ t ∷ [];
        endpoints = set f.endpoints e (record x { next = None });
        mends = f.mends ++ mends_of x;
      }) e x.desc.name (suc t) (length f.transfers - suc t))
      ∙ set_there f.endpoints e i _ differs ∙ ap (λ (xs : List Endpoint). slice_get xs i) is
  ended_ends f false None is = λ i differs.
      set_there f.endpoints e i _ differs ∙ ap (λ (xs : List Endpoint). slice_get xs i) is

  read_ends : (found : Found) → OtherEnds (harvested_as d m e t x y found)
  read_ends founds.Active = λ i differs. refl
  read_ends (founds.Moved n) = λ i differs. refl
  read_ends (founds.Served errors) = λ i differs. set_there d.endpoints e i _ differs
  read_ends (founds.Ended n what) =
      ended_ends (told_with d m t y what x.desc.name (noted d.notes y.place n)) (is_stall what) (end_of x.desc.kind what) refl

  -- what is noted of the qTDs in other blocks
  read_notes : (found : Found) (b : ℕ) → b ≢ y.place → note_at (harvested_as d m e t x y found).notes b ≡ note_at d.notes b
  read_notes founds.Active b differs = refl
  read_notes (founds.Moved n) b differs = set_else d.notes y.place b _ differs
  read_notes (founds.Served errors) b differs = refl
  read_notes (founds.Ended n what) b differs =
      ap (λ (ns : List QtdNote). note_at ns b)
      (ended_notes (told_with d m t y what x.desc.name (noted d.notes y.place n)) (is_stall what) (end_of x.desc.kind what))
      ∙ set_else d.notes y.place b _ differs
    where
      ended_notes : (f : DriverContent) (stall : Bool) (o : Option EndCause) → (after_end f e t x stall o).notes ≡ f.notes
      ended_notes f stall (Some cause) = refl
      ended_notes f true None =
          ap (λ (g : DriverContent). g.notes)
          (all_behind (record f {
            harvested = f.harvested ++ t ∷ [];
            endpoints = set f.endpoints e (record x { next = None });
            mends = f.mends ++ mends_of x;
          }) e x.desc.name (suc t) (length f.transfers - suc t))
      ended_notes f false None = refl

  -- what is owed
  ended_mends : (f : DriverContent) (stall : Bool) (o : Option EndCause)
      → ((after_end f e t x stall o).mends ≡ f.mends) ⊎ ((after_end f e t x stall o).mends ≡ f.mends ++ mends_of x)
  ended_mends f stall (Some cause) = inl refl
  ended_mends f true None =
      inr (ap (λ (g : DriverContent). g.mends)
      (all_behind (record f {
        harvested = f.harvested ++ t ∷ [];
        endpoints = set f.endpoints e (record x { next = None });
        mends = f.mends ++ mends_of x;
      }) e x.desc.name (suc t) (length f.transfers - suc t)))
  ended_mends f false None = inl refl

  read_mends : (found : Found) → ((harvested_as d m e t x y found).mends ≡ d.mends) ⊎
      ((harvested_as d m e t x y found).mends ≡ d.mends ++ mends_of x)
  read_mends founds.Active = inl refl
  read_mends (founds.Moved n) = inl refl
  read_mends (founds.Served errors) = inl refl
  read_mends (founds.Ended n what) =
      ended_mends (told_with d m t y what x.desc.name (noted d.notes y.place n)) (is_stall what) (end_of x.desc.kind what)

owed_queue : (x : Endpoint) (j : ℕ) (o : Mend) → slice_get (mends_of x) j ≡ Some o → o.queue ≡ x.queue
owed_queue x zero o at = ap (λ (q : Mend). q.queue) (sym (same_Some _ o at))
owed_queue x (suc zero) o at = ap (λ (q : Mend). q.queue) (sym (same_Some _ o at))
owed_queue x (suc (suc zero)) o at = ap (λ (q : Mend). q.queue) (sym (same_Some _ o at))
owed_queue x (suc (suc (suc j))) o at = absurd cc

module _ (p : Parts) (e t : ℕ) (found : Found) (due : IsHarvestDue p e t found) (owners : HasOwners p.driver)
    (turns : AsynchronousTakesTurns p.driver) where
  abbrev f : DriverContent
  f = (after_driver_row (rows.Harvest e t found) p).driver

  f_is : (after_driver_row (rows.Harvest e t found) p).driver
      ≡ served (harvested_as p.driver p.memory e t due.endpoint due.transfer found) e
  f_is = after_is p e t found due
      ∙ ap (λ (b : Bool). if b then served (harvested_as p.driver p.memory e t due.endpoint due.transfer found) e else p.driver) due.waits

  its_end : due.transfer.endpoint ≡ e
  its_end = (waits_is e due.transfer due.waits).0

  pub harvest_leaves : (i : ℕ) (z : Endpoint) → i ≢ e → z.queue ≢ due.endpoint.queue
      → slice_get (after_driver_row (rows.Harvest e t found) p).driver.endpoints i ≡ Some z
      → LeavesIt p.driver (after_driver_row (rows.Harvest e t found) p).driver i z
  harvest_leaves i z differs apart there = record {
    was = record {
      endpoint = z;
      here = sym (read_ends p.driver p.memory e t due.endpoint due.transfer due.there its_end found i differs)
          ∙ sym (ap (λ (g : DriverContent). slice_get g.endpoints i) f_is) ∙ there;
      queue = refl;
      dummy = refl;
      desc = refl;
      next = refl;
      gone = refl;
      ends = refl;
    };
    numbers = row_numbers p (rows.Harvest e t found) i;
    waiting_same = other_harvest_keeps_waiting p e t found i (λ same. differs (sym same));
    transfers = λ u y k.
        ap (λ (g : DriverContent). slice_get g.transfers u) f_is
        ∙ read_stays p.driver p.memory e t due.endpoint due.transfer due.there its_end found u y
        (λ own. differs (sym k.endpoint ∙ own)) k.here;
    notes = λ u b y k one.
        ap (λ (g : DriverContent). note_at g.notes b) f_is
        ∙ read_notes p.driver p.memory e t due.endpoint due.transfer due.there its_end found b
        (λ same.
        (read_next p e t found due owners turns).others u y k.here k.reported k.released
        (λ own.
        differs (sym k.endpoint
        ∙ ap (λ (v : Transfer). v.endpoint)
        (same_Some y due.transfer (sym k.here ∙ ap (slice_get p.driver.transfers) own ∙ due.there)) ∙ its_end))
        (subst (IsOneFrom (note_at p.driver.notes) y.first y.qtds) same one));
    mends = λ j o at.
        let now : slice_get (harvested_as p.driver p.memory e t due.endpoint due.transfer found).mends j ≡ Some o =
        sym (ap (λ (g : DriverContent). slice_get g.mends j) f_is) ∙ at in
        ⊎_elim
        (λ (same : (harvested_as p.driver p.memory e t due.endpoint due.transfer found).mends ≡ p.driver.mends).
        inl (j, sym (ap (λ (ms : List Mend). slice_get ms j) same) ∙ now))
        (λ (more : (harvested_as p.driver p.memory e t due.endpoint due.transfer found).mends ≡ p.driver.mends ++ mends_of due.endpoint).
        ⊎_elim (λ (old : slice_get p.driver.mends j ≡ Some o). inl (j, old))
        (λ (new : (l : ℕ) × slice_get (mends_of due.endpoint) l ≡ Some o).
        inr (λ own. apart (sym own ∙ owed_queue due.endpoint new.0 o new.1)))
        (found_or p.driver.mends (mends_of due.endpoint) j o (sym (ap (λ (ms : List Mend). slice_get ms j) more) ∙ now)))
        (read_mends p.driver p.memory e t due.endpoint due.transfer due.there its_end found);
  }

-- ---- a transfer of another endpoint is given back

pub return_leaves : (p : Parts) (t : ℕ) (i : ℕ) (z : Endpoint) → ((u : ℕ) (y : Transfer) → IsWaiting p.driver i u y → u ≢ t)
    → slice_get (after_driver_row (rows.ReleaseTransfer t) p).driver.endpoints i ≡ Some z
    → LeavesIt p.driver (after_driver_row (rows.ReleaseTransfer t) p).driver i z
return_leaves p t i z apart there = record {
  was = same_was p.driver (after_driver_row (rows.ReleaseTransfer t) p).driver.endpoints
      (endpoints_stays (rows.ReleaseTransfer t) p p.driver.command refl refl) i z there;
  numbers = row_numbers p (rows.ReleaseTransfer t) i;
  waiting_same = quiet_rows_keep_waiting (rows.ReleaseTransfer t) p i refl;
  transfers = λ u y k. freed (slice_get p.driver.transfers t) (freed_by p.driver (holding p.driver.book p.memory)
      (slice_get p.driver.transfers t)) u
      (apart u y k) ∙ k.here;
  notes = λ u b y k one.
      ap (λ (ns : List QtdNote). note_at ns b) (notes_stays (rows.ReleaseTransfer t) p p.driver.command refl refl);
  mends = λ j o at. inl (
    j,
    sym (ap
        (λ (ms : List Mend). slice_get ms j) (mends_stays (rows.ReleaseTransfer t) p p.driver.command refl refl)) ∙ at,
  );
}
  where
    freed : (o : Option Transfer) (h : Holding) (u : ℕ) → u ≢ t
        → slice_get (after_transfer p t o h).driver.transfers u ≡ slice_get p.driver.transfers u
    freed None h u differs = refl
    freed (Some x) h u differs = set_there p.driver.transfers t u (record x { released = true }) differs

-- ---- another endpoint is given back

module _ (p : Parts) (e : ℕ) (i : ℕ) (z : Endpoint) (differs : i ≢ e) where
  abbrev lined : Endpoint → Bool → DriverContent
  lined x b = if b then reported p.driver Cancel x.desc.name
      (cancelled_bytes p.driver.notes p.memory e x.queue p.driver.transfers) else p.driver

  ends_or : (x : Endpoint) (b : Bool) → (lined x b).endpoints ≡ p.driver.endpoints
  ends_or x true = refl
  ends_or x false = refl

  transfers_or : (x : Endpoint) (b : Bool) → (lined x b).transfers ≡ p.driver.transfers
  transfers_or x true = refl
  transfers_or x false = refl

  was_other : (q : Option Endpoint) → slice_get (after_endpoint p e q).driver.endpoints i ≡ Some z → WasSame p.driver i z
  was_other None now = same_was p.driver p.driver.endpoints refl i z now
  was_other (Some y) now =
      same_was p.driver p.driver.endpoints refl i z
      (sym (ap (λ (xs : List Endpoint). slice_get xs i) (ends_or y (is_told y)))
      ∙ sym (set_there (lined y (is_told y)).endpoints e i (record y { gone = true }) differs) ∙ now)

  let_stay : (told : Bool) (ts : List Transfer) (u : ℕ) (y : Transfer) → y.endpoint ≢ e → slice_get ts u ≡ Some y
      → slice_get (map (let_go e told) ts) u ≡ Some y
  let_stay told ts u y other at =
      slice_get-map (let_go e told) ts u ∙ ap (option_map (let_go e told)) at
      ∙ ap (λ (b : Bool). Some (if b then record y { reported = y.reported || told; released = true } else y))
      (other_number y.endpoint e other)

  kept : (q : Option Endpoint) (u : ℕ) (y : Transfer) → y.endpoint ≢ e → slice_get p.driver.transfers u ≡ Some y
      → slice_get (after_endpoint p e q).driver.transfers u ≡ Some y
  kept None u y other at = at
  kept (Some c) u y other at =
      let_stay (is_told c) (lined c (is_told c)).transfers u y other
      (ap (λ (ts : List Transfer). slice_get ts u) (transfers_or c (is_told c)) ∙ at)

  pub goes_leaves : slice_get (after_driver_row (rows.ReleaseEndpoint e) p).driver.endpoints i ≡ Some z
      → LeavesIt p.driver (after_driver_row (rows.ReleaseEndpoint e) p).driver i z
  goes_leaves there = record {
    was = was_other (slice_get p.driver.endpoints e) there;
    numbers = row_numbers p (rows.ReleaseEndpoint e) i;
    waiting_same = (other_returns_keep_waiting p e i (λ same. differs (sym same))).0;
    transfers = λ u y k. kept (slice_get p.driver.endpoints e) u y (λ own. differs (sym k.endpoint ∙ own)) k.here;
    notes = λ u b y k one.
        ap (λ (ns : List QtdNote). note_at ns b) (notes_stays (rows.ReleaseEndpoint e) p p.driver.command refl refl);
    mends = λ j o at. inl (
      j,
      sym (ap
          (λ (ms : List Mend). slice_get ms j) (mends_stays (rows.ReleaseEndpoint e) p p.driver.command refl refl)) ∙ at,
    );
  }
