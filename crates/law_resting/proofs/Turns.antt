-- Each event of a driver does what is left to be done, or leaves it to the next one.
use Rattle.std.proofs.Common.{◌≡◌, ℕ, suc, ◌≤◌, Bool, true, false, cond, List, [], ◌∷◌, ◌++◌, length, drop, slice_get, Option, Some, None, option_map, unwrap_or, ap, sym, subst, ◌∙◌, inl, inr, ⊎_elim, refl, arith}
use Rattle.std.specs.Prelude.{◌⊎◌, nat_lt, option_and_then}
use Rattle.std.proofs.lemmas.Bool.{false≢true}
use Rattle.std.proofs.lemmas.Bool.Decides.{nat_tests}
use Rattle.std.proofs.lemmas.Option.{same_Some}
use Rattle.usb_base.specs.declared.endpoints.EpName.{EpName}
use Rattle.usb_base.specs.declared.reports.What.{What}
use Rattle.usb_base.specs.declared.reports.What.TheVariants as lines
use Rattle.mem_runs.specs.Book.{holding}
use Rattle.drv_chains.specs.Boundary.{is_seen}
use Rattle.drv_periodic_table.specs.declared.content.Removal.{Removal}
use Rattle.drv_periodic_table.specs.declared.content.Removed.{Removed}
use Rattle.drv_periodic_table.specs.declared.content.Removed.TheVariants as removed
use Rattle.drv_table.specs.declared.content.Bell.{Bell}
use Rattle.drv_table.specs.declared.content.Bell.TheVariants as bells
use Rattle.drv_table.specs.declared.content.Endpoint.{Endpoint}
use Rattle.drv_table.specs.declared.content.Mend.{Mend}
use Rattle.drv_table.specs.declared.content.Transfer.{Transfer}
use Rattle.drv_table.specs.declared.content.Turn.{Turn}
use Rattle.drv_table.specs.declared.content.Turn.TheVariants as turns
use Rattle.drv_table.specs.declared.rows.DriverRow.{DriverRow}
use Rattle.drv_table.specs.declared.rows.DriverRow.TheVariants as rows
use Rattle.drv_table.specs.declared.rows.Found.{Found}
use Rattle.drv_table.specs.Commands.{removal_of}
use Rattle.drv_table.specs.DriverContent.{DriverContent, waits_for}
use Rattle.drv_table.specs.Harvests.{reported}
use Rattle.drv_table.specs.Harvesting.{found_of, served, harvested_as, after_harvest, next_worker, reading_row, transfer_row, worker_row, harvest_row}
use Rattle.drv_table.specs.Leaving.{tells_advance, removes, reading_for, first_row, removal_row, bell_row, leaving_row}
use Rattle.drv_table.specs.Parts.{Parts}
use Rattle.drv_table.specs.Releases.{after_transfer, freed_by, after_endpoint, is_told, cancelled_bytes}
use Rattle.drv_table.specs.Removals.{after_unlink, after_descriptor, after_placed}
use Rattle.drv_table.specs.Rows.{turn_row, row_for, driver_row, after_driver_row}
use Rattle.claims_driver.specs.Leaving.{times, owes, leaves_ring, leaves_frames, transfer_before, endpoint_before, transfers_in, endpoints_in, IsOrderly}
use Rattle.claims_answers.specs.Turns.{seen_first, owed, IsUntold, IsHarvest}
use Rattle.law_driver.specs.run_owners.Due.{IsDue, IsHarvestDue}
use Rattle.law_driver.proofs.lemmas.run_owners.Reasons.{each_event_is_due}
use Rattle.law_resting.specs.Counted.{IsNextIn, IsCounted}
use Rattle.law_resting.proofs.Resting.{none_works, not_working}
use Rattle.law_resting.specs.Turns.{DriversTakeTurns, WaitingIsNoTurn}

-- ---- what is owed

first_of_list : (n : ℕ) (ns : List ℕ) → 1 ≤ times n (n ∷ ns)
first_of_list n ns = grind (arith, nat_tests)

none_owes : (o : Option Transfer) → o ≡ None → owes o ≡ 0
none_owes o is = ap owes is

-- what has to be there is
there_is : {X : Type 0} (o : Option X) (f : Option X → ℕ) → f None ≡ 0 → 1 ≤ f o → (x : X) × (o ≡ Some x)
there_is None f none some = absurd (omega (arith, none, some))
there_is (Some x) f none some = (x, refl)

seen_behind : (rs : List Removal) (what : Removed) → seen_first (rs ++ removal_of what ∷ []) ≡ seen_first rs
seen_behind [] what = refl
seen_behind (r ∷ rs) what = ap (λ (n : ℕ). cond (is_seen r.boundary) (suc n) 0) (seen_behind rs what)

-- the lists of what is owed, which a line of the report leaves as they are
record AreLists (d f : DriverContent) : Type 0 where
  mends : f.mends ≡ d.mends
  harvested : f.harvested ≡ d.harvested
  unlinks : f.periodic.unlinks ≡ d.periodic.unlinks
  cleared : f.cleared ≡ d.cleared
  removals : f.periodic.removals ≡ d.periodic.removals

told_lists : (d : DriverContent) (what : What) (name : EpName) (bytes : List ℕ) (b : Bool) → AreLists d
    (cond b (reported d what name bytes) d)
told_lists d what name bytes true = record { mends = refl; harvested = refl; unlinks = refl; cleared = refl; removals = refl }
told_lists d what name bytes false = record { mends = refl; harvested = refl; unlinks = refl; cleared = refl; removals = refl }

-- ---- the leaving work

-- what comes next of it does one thing of what is owed, if something is; and the harvest is next
record Leaves (p : Parts) (o : Option DriverRow) : Type 0 where
  one : 1 ≤ owed p.driver → (row : DriverRow) × ((o ≡ Some row) × (suc (owed (after_driver_row row p).driver) ≡ owed p.driver))
  turn : (row : DriverRow) → o ≡ Some row → (after_driver_row row p).driver.turn ≡ turns.Harvest

abbrev AfterOne : Parts → Parts → Type 0
AfterOne p new = (suc (owed new.driver) ≡ owed p.driver) × (new.driver.turn ≡ turns.Harvest)

one_leaves : (p : Parts) (row : DriverRow) → AfterOne p (after_driver_row row p) → Leaves p (Some row)
one_leaves p row after = record {
  one = λ some. (row, (refl, after.0));
  turn = λ r is. subst (λ (k : DriverRow). (after_driver_row k p).driver.turn ≡ turns.Harvest) (same_Some row r is) after.1;
}

module _ (p : Parts) (order : IsOrderly p.driver) where
  transfer_after : (t : ℕ) (ts : List ℕ) → p.driver.harvested ≡ t ∷ ts → AfterOne p (after_driver_row (rows.ReleaseTransfer t) p)
  transfer_after t ts is =
      let some : 1 ≤ owes (slice_get p.driver.transfers t) =
      let a = ap (times t) is in let b = first_of_list t ts in let c = order.harvests t in omega (arith, a, b, c) in
      let at = there_is (slice_get p.driver.transfers t) owes refl some in
      subst (λ (o : Option Transfer). AfterOne p (after_transfer p t o (freed_by p.driver (holding p.driver.book p.memory) o))) (sym at.1)
      (let a = ap length is in let b = ap (λ (ns : List ℕ). length (drop 1 ns)) is in omega (arith, a, b), refl)

  unlink_after : (t : ℕ) (ts : List ℕ) → p.driver.periodic.unlinks ≡ t ∷ ts → AfterOne p (after_driver_row (rows.Unlink t) p)
  unlink_after t ts is =
      let some : 1 ≤ owes (slice_get p.driver.transfers t) =
      let a = ap (times t) is in let b = first_of_list t ts in let c = order.harvests t in omega (arith, a, b, c) in
      let at = there_is (slice_get p.driver.transfers t) owes refl some in
      subst (λ (o : Option Transfer). AfterOne p (after_unlink p t o)) (sym at.1) (
        let a = ap length is in let b = ap (λ (ns : List ℕ). length (drop 1 ns)) is in
            let c = seen_behind p.driver.periodic.removals (removed.Descriptor t) in omega (arith, a, b, c),
        refl,
      )

  endpoint_after : (e : ℕ) (es : List ℕ) → p.driver.cleared ≡ e ∷ es → AfterOne p (after_driver_row (rows.ReleaseEndpoint e) p)
  endpoint_after e es is =
      let some : 1 ≤ leaves_ring (slice_get p.driver.endpoints e) =
      let a = ap (times e) is in let b = first_of_list e es in let c = order.leaving e in omega (arith, a, b, c) in
      let at = there_is (slice_get p.driver.endpoints e) leaves_ring refl some in
      subst (λ (o : Option Endpoint). AfterOne p (after_endpoint p e o)) (sym at.1) (
        let l = told_lists p.driver lines.Cancel at.0.desc.name (cancelled_bytes p.driver.notes p.memory e at.0.queue p.driver.transfers)
            (is_told at.0) in
            let a = ap length is in
            let b = ap (λ (ns : List ℕ). length (drop 1 ns)) (l.cleared ∙ is) in
            let m = ap length l.mends in let h = ap length l.harvested in let u = ap length l.unlinks in let r = ap seen_first l.removals in
            omega (arith, a, b, m, h, u, r),
        refl,
      )

  removed_after : (what : Removed) (r : Removal) (rs : List Removal) → r.what ≡ what → is_seen r.boundary ≡ true
      → p.driver.periodic.removals ≡ r ∷ rs → AfterOne p (after_driver_row (rows.ReleaseRemoved what) p)
  removed_after (removed.Descriptor t) r rs what seen is =
      let first : transfers_in (r ∷ rs) ≡ t ∷ transfers_in rs = ap (λ (w : Removed). transfer_before w (transfers_in rs)) what in
      let some : 1 ≤ owes (slice_get p.driver.transfers t) =
      let a = ap (λ (xs : List Removal). times t (transfers_in xs)) is ∙ ap (times t) first in
      let b = first_of_list t (transfers_in rs) in let c = order.harvests t in omega (arith, a, b, c) in
      let at = there_is (slice_get p.driver.transfers t) owes refl some in
      subst (λ (o : Option Transfer). AfterOne p (after_descriptor p t o)) (sym at.1) (
        let a = ap seen_first is ∙ ap (λ (b : Bool). cond b (suc (seen_first rs)) 0) seen in
            let b = ap (λ (xs : List Removal). seen_first (drop 1 xs)) is in omega (arith, a, b),
        refl,
      )
  removed_after (removed.Endpoint e) r rs what seen is =
      let first : endpoints_in (r ∷ rs) ≡ e ∷ endpoints_in rs = ap (λ (w : Removed). endpoint_before w (endpoints_in rs)) what in
      let some : 1 ≤ leaves_frames (slice_get p.driver.endpoints e) =
      let a = ap (λ (xs : List Removal). times e (endpoints_in xs)) is ∙ ap (times e) first in
      let b = first_of_list e (endpoints_in rs) in let c = order.removed e in omega (arith, a, b, c) in
      let at = there_is (slice_get p.driver.endpoints e) leaves_frames refl some in
      subst (λ (o : Option Endpoint). AfterOne p (after_placed p e o)) (sym at.1) (
        let l = told_lists p.driver lines.Cancel at.0.desc.name (cancelled_bytes p.driver.notes p.memory e at.0.queue p.driver.transfers)
            (is_told at.0) in
            let a = ap seen_first is ∙ ap (λ (b : Bool). cond b (suc (seen_first rs)) 0) seen in
            let b = ap (λ (xs : List Removal). seen_first (drop 1 xs)) (l.removals ∙ is) in
            let m = ap length l.mends in let h = ap length l.harvested in let u = ap length l.unlinks in let c = ap length l.cleared in
            omega (arith, a, b, m, h, u, c),
        refl,
      )

  mend_after : (w : Mend) (ws : List Mend) → p.driver.mends ≡ w ∷ ws → AfterOne p (after_driver_row (rows.Mend w) p)
  mend_after w ws is =
      (let a = ap length is in let b = ap (λ (ns : List Mend). length (drop 1 ns)) is in omega (arith, a, b), refl)

  -- ---- the doorbell

  reading_turn : (a b : Bool) (row : DriverRow) → reading_for p.driver p.registers a b ≡ Some row
      → (after_driver_row row p).driver.turn ≡ turns.Harvest
  reading_turn false false row is = absurd (cc)
  reading_turn true false row is = subst (λ (k : DriverRow). (after_driver_row k p).driver.turn ≡ turns.Harvest) (same_Some _ row is) refl
  reading_turn false true row is = subst (λ (k : DriverRow). (after_driver_row k p).driver.turn ≡ turns.Harvest) (same_Some _ row is) refl
  reading_turn true true row is =
      subst (λ (k : DriverRow). (after_driver_row k p).driver.turn ≡ turns.Harvest) (same_Some _ row is) (at p.driver.periodic.status_next)
    where
      at : (b : Bool) → (after_driver_row (cond b (rows.ReadStatus (tells_advance p.registers)) (rows.ReadFrame p.registers.frame_index))
          p).driver.turn ≡ turns.Harvest
      at true = refl
      at false = refl

  bell_turn : (b : Bell) (row : DriverRow) → bell_row p.driver p.registers b ≡ Some row → (after_driver_row row p).driver.turn
      ≡ turns.Harvest
  bell_turn bells.Heard row is = subst (λ (k : DriverRow). (after_driver_row k p).driver.turn ≡ turns.Harvest) (same_Some _ row is) refl
  bell_turn bells.Rung row is = reading_turn true (removes p.driver) row is
  bell_turn bells.Quiet row is = at (nat_lt 0 (length p.driver.waiting)) is
    where
      at : (b : Bool) → cond b (Some rows.RingBell) (reading_for p.driver p.registers false (removes p.driver)) ≡ Some row
          → (after_driver_row row p).driver.turn ≡ turns.Harvest
      at true w = subst (λ (k : DriverRow). (after_driver_row k p).driver.turn ≡ turns.Harvest) (same_Some _ row w) refl
      at false w = reading_turn false (removes p.driver) row w

  -- ---- by what there is

  abbrev bell : Option DriverRow
  bell = bell_row p.driver p.registers p.driver.bell

  nothing_owed : owed p.driver ≡ 0 → Leaves p bell
  nothing_owed none = record { one = λ some. absurd (omega (arith, none, some)); turn = bell_turn p.driver.bell }

  by_removals : (rs : List Removal) → p.driver.periodic.removals ≡ rs → p.driver.mends ≡ [] → p.driver.harvested ≡ []
      → p.driver.periodic.unlinks ≡ [] → p.driver.cleared ≡ [] → Leaves p (first_row (removal_row (slice_get rs 0)) bell)
  by_removals [] is ms hs us cs =
      nothing_owed (let a = ap length ms in let b = ap length hs in let c = ap length us in let d = ap length cs in
      let e = ap seen_first is in omega (arith, a, b, c, d, e))
  by_removals (r ∷ rs) is ms hs us cs = at (is_seen r.boundary) refl
    where
      at : (b : Bool) → is_seen r.boundary ≡ b → Leaves p (first_row (cond b (Some (rows.ReleaseRemoved r.what)) None) bell)
      at true seen = one_leaves p (rows.ReleaseRemoved r.what) (removed_after r.what r rs refl seen is)
      at false seen =
          nothing_owed (let a = ap length ms in let b = ap length hs in let c = ap length us in let d = ap length cs in
          let e = ap seen_first is ∙ ap (λ (b : Bool). cond b (suc (seen_first rs)) 0) seen in omega (arith, a, b, c, d, e))

  by_cleared : (cs : List ℕ) → p.driver.cleared ≡ cs → p.driver.mends ≡ [] → p.driver.harvested ≡ [] → p.driver.periodic.unlinks ≡ []
      → Leaves p (first_row (option_map rows.ReleaseEndpoint (slice_get cs 0))
      (first_row (removal_row (slice_get p.driver.periodic.removals 0)) bell))
  by_cleared [] is ms hs us = by_removals p.driver.periodic.removals refl ms hs us is
  by_cleared (e ∷ es) is ms hs us = one_leaves p (rows.ReleaseEndpoint e) (endpoint_after e es is)

  by_unlinks : (us : List ℕ) → p.driver.periodic.unlinks ≡ us → p.driver.mends ≡ [] → p.driver.harvested ≡ []
      → Leaves p (first_row (option_map rows.Unlink (slice_get us 0))
      (first_row (option_map rows.ReleaseEndpoint (slice_get p.driver.cleared 0))
      (first_row (removal_row (slice_get p.driver.periodic.removals 0)) bell)))
  by_unlinks [] is ms hs = by_cleared p.driver.cleared refl ms hs is
  by_unlinks (t ∷ ts) is ms hs = one_leaves p (rows.Unlink t) (unlink_after t ts is)

  by_harvested : (hs : List ℕ) → p.driver.harvested ≡ hs → p.driver.mends ≡ []
      → Leaves p (first_row (option_map rows.ReleaseTransfer (slice_get hs 0))
      (first_row (option_map rows.Unlink (slice_get p.driver.periodic.unlinks 0))
      (first_row (option_map rows.ReleaseEndpoint (slice_get p.driver.cleared 0))
      (first_row (removal_row (slice_get p.driver.periodic.removals 0)) bell))))
  by_harvested [] is ms = by_unlinks p.driver.periodic.unlinks refl ms is
  by_harvested (t ∷ ts) is ms = one_leaves p (rows.ReleaseTransfer t) (transfer_after t ts is)

  by_mends : (ms : List Mend) → p.driver.mends ≡ ms
      → Leaves p (first_row (option_map rows.Mend (slice_get ms 0))
      (first_row (option_map rows.ReleaseTransfer (slice_get p.driver.harvested 0))
      (first_row (option_map rows.Unlink (slice_get p.driver.periodic.unlinks 0))
      (first_row (option_map rows.ReleaseEndpoint (slice_get p.driver.cleared 0))
      (first_row (removal_row (slice_get p.driver.periodic.removals 0)) bell)))))
  by_mends [] is = by_harvested p.driver.harvested refl is
  by_mends (w ∷ ws) is = one_leaves p (rows.Mend w) (mend_after w ws is)

  all_leaves : Leaves p (leaving_row p.driver p.registers)
  all_leaves = by_mends p.driver.mends refl

-- ---- the harvest

-- its row, if there is one, is a harvest, and the leaving work is next
harvest_turn : (p : Parts) (e t : ℕ) (found : Found) → IsHarvestDue p e t found
    → (after_driver_row (rows.Harvest e t found) p).driver.turn ≡ turns.Leaving
harvest_turn p e t found due =
    subst (λ (o : Option Endpoint). (after_harvest p.driver p.memory e t found o (slice_get p.driver.transfers t)).turn ≡ turns.Leaving)
    (sym due.here)
    (subst (λ (o : Option Transfer). (after_harvest p.driver p.memory e t found (Some due.endpoint) o).turn ≡ turns.Leaving) (sym due.there)
    (subst (λ (b : Bool). (cond b (served (harvested_as p.driver p.memory e t due.endpoint due.transfer found) e) p.driver).turn
    ≡ turns.Leaving)
    (sym due.waits) refl))

record Harvests (p : Parts) (row : DriverRow) : Type 0 where
  is_harvest : IsHarvest row
  turn : (after_driver_row row p).driver.turn ≡ turns.Leaving

module _ (p : Parts) where
  reading_harvests : (e t : ℕ) (o : Option Transfer) (row : DriverRow) → slice_get p.driver.transfers t ≡ o
      → reading_row p.driver p.memory e t o ≡ Some row → (IsDue p row → Harvests p row)
  reading_harvests e t None row there is = absurd (cc)
  reading_harvests e t (Some y) row there is = at (waits_for e y) is
    where
      at : (b : Bool) → cond b (Some (rows.Harvest e t (found_of p.driver p.memory y y.sort))) None ≡ Some row → IsDue p row
          → Harvests p row
      at false w = absurd (cc)
      at true w = subst (λ (k : DriverRow). IsDue p k → Harvests p k) (same_Some _ row w)
          (λ due. record { is_harvest = tt; turn = harvest_turn p e t (found_of p.driver p.memory y y.sort) due })

  transfer_harvests : (e : ℕ) (o : Option ℕ) (row : DriverRow) → transfer_row p.driver p.memory e o ≡ Some row →
      (IsDue p row → Harvests p row)
  transfer_harvests e None row is = absurd (cc)
  transfer_harvests e (Some t) row is = reading_harvests e t (slice_get p.driver.transfers t) row refl is

  worker_harvests : (o : Option ℕ) (row : DriverRow) → worker_row p.driver p.memory o ≡ Some row → (IsDue p row → Harvests p row)
  worker_harvests None row is = absurd (cc)
  worker_harvests (Some e) row is =
      transfer_harvests e (option_and_then (λ (x : Endpoint). x.next) (slice_get p.driver.endpoints e)) row is

  -- a transfer without a line is one of an endpoint that works
  untold_works : IsCounted p.driver → IsUntold p.driver → harvest_row p.driver p.memory ≡ None → ⊥
  untold_works old k none =
      let next = not_working k.of.endpoint (none_works p none old k.transfer.endpoint k.of.endpoint k.of.here) k.of.going in
      false≢true (sym k.untold
      ∙ (subst (IsNextIn p.driver.transfers k.transfer.endpoint) next
      (old.counts.next k.transfer.endpoint k.of.endpoint k.of.here k.of.going))
      k.number k.transfer k.of.there refl)

-- ---- any event

module _ (p : Parts) (order : IsOrderly p.driver) (old : IsCounted p.driver) where
  abbrev OneOrTurn : DriverRow → Type 0
  OneOrTurn row = (suc (owed (after_driver_row row p).driver) ≡ owed p.driver)
      ⊎ ((p.driver.turn ≡ turns.Harvest) × ((after_driver_row row p).driver.turn ≡ turns.Leaving))

  abbrev ReadsOrTurn : DriverRow → Type 0
  ReadsOrTurn row = IsHarvest row ⊎ ((p.driver.turn ≡ turns.Leaving) × ((after_driver_row row p).driver.turn ≡ turns.Harvest))

  gives : (t : Turn) (h : Option DriverRow) → p.driver.turn ≡ t → harvest_row p.driver p.memory ≡ h → 1 ≤ owed p.driver
      → IsDue p (turn_row t (leaving_row p.driver p.registers) h) → OneOrTurn (turn_row t (leaving_row p.driver p.registers) h)
  gives turns.Leaving h turn is some due =
      let l = (all_leaves p order).one some in
      inl (ap (λ (o : Option DriverRow). suc (owed (after_driver_row (unwrap_or (first_row o h) rows.Rest) p).driver)) l.1.0 ∙ l.1.1)
  gives turns.Harvest None turn is some due =
      let l = (all_leaves p order).one some in
      inl (ap (λ (o : Option DriverRow). suc (owed (after_driver_row (unwrap_or o rows.Rest) p).driver)) l.1.0 ∙ l.1.1)
  gives turns.Harvest (Some row) turn is some due =
      inr (turn, (worker_harvests p (next_worker p.driver) row is due).turn)

  tells : (t : Turn) (h l : Option DriverRow) → p.driver.turn ≡ t → harvest_row p.driver p.memory ≡ h
      → leaving_row p.driver p.registers ≡ l → IsUntold p.driver → IsDue p (turn_row t l h) → ReadsOrTurn (turn_row t l h)
  tells t None l turn is at untold due = absurd (untold_works p old untold is)
  tells turns.Harvest (Some row) l turn is at untold due = inl (worker_harvests p (next_worker p.driver) row is due).is_harvest
  tells turns.Leaving (Some row) None turn is at untold due = inl (worker_harvests p (next_worker p.driver) row is due).is_harvest
  tells turns.Leaving (Some row) (Some first) turn is at untold due = inr (turn, (all_leaves p order).turn first at)

  row_is : p.driver.command ≡ None → driver_row p ≡ turn_row p.driver.turn (leaving_row p.driver p.registers)
      (harvest_row p.driver p.memory)
  row_is idle = ap (row_for p) idle

pub drivers_take_turns : DriversTakeTurns
drivers_take_turns p order old = record {
  leaving = λ idle some.
      let is = row_is p order old idle in
      subst (OneOrTurn p order old) (sym is)
      (gives p order old p.driver.turn (harvest_row p.driver p.memory) refl refl some (subst (IsDue p) is (each_event_is_due p)));
  harvest = λ idle untold.
      let is = row_is p order old idle in
      subst (ReadsOrTurn p order old) (sym is)
      (tells p order old p.driver.turn (harvest_row p.driver p.memory) (leaving_row p.driver p.registers) refl refl refl untold
      (subst (IsDue p) is (each_event_is_due p)));
}

-- ---- a worked row

none_left : (n : ℕ) → suc n ≡ n → ⊥
none_left n is = omega (arith, is)

pub waiting_is_no_turn : WaitingIsNoTurn
waiting_is_no_turn row p room is takes =
    ⊎_elim (λ (one : suc (owed p.driver) ≡ owed p.driver). none_left (owed p.driver) one)
    (λ (both : (p.driver.turn ≡ turns.Harvest) × (p.driver.turn ≡ turns.Leaving)). no_both (sym both.0 ∙ both.1))
    (takes.leaving (ap (λ (d : DriverContent). d.command) is) (let n : owed p.driver ≡ 1 = ap owed is in omega (arith, n)))
  where
    no_both : turns.Harvest ≡ turns.Leaving → ⊥
    no_both w = cc
