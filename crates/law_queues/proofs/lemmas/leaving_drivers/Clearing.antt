-- What the driver finds when it clears Async Advance.
use Rattle.std.proofs.Common.{◌≡◌, ℕ, Bool, true, false, cond, [], slice_get, Option, Some, None, option_map, ap, sym, subst, ◌∙◌, refl}
use Rattle.std.specs.Prelude.{option_and_then}
use Rattle.std.proofs.lemmas.Option.{same_Some}
use Rattle.law_common.proofs.Lists.{none_first}
use Rattle.drv_table.specs.declared.content.Transfer.{Transfer}
use Rattle.drv_table.specs.declared.content.Turn.{Turn}
use Rattle.drv_table.specs.declared.content.Turn.TheVariants as turns
use Rattle.drv_table.specs.declared.rows.DriverRow.{DriverRow}
use Rattle.drv_table.specs.declared.rows.DriverRow.TheVariants as rows
use Rattle.drv_table.specs.DriverContent.{waits_for}
use Rattle.drv_table.specs.Parts.{Parts}
use Rattle.drv_table.specs.Harvesting.{found_of, next_worker, reading_row, transfer_row, worker_row, harvest_row}
use Rattle.drv_table.specs.Leaving.{first_row, leaving_row}
use Rattle.drv_table.specs.Rows.{turn_row, row_for, driver_row}
use Rattle.law_driver.specs.run_owners.Due.{IsDue}
use Rattle.law_driver.proofs.lemmas.run_owners.Reasons.{each_event_is_due}
use Rattle.law_queues.specs.leaving_drivers.Owed.{IsClearing}

-- ---- what comes before a clear

-- another row
abbrev IsOther : DriverRow → Type 0
IsOther rows.ClearAdvance = ⊥
IsOther _ = Unit {0}

not_clear : (row : DriverRow) → IsOther row → row ≡ rows.ClearAdvance → ⊥
not_clear row other is = subst IsOther is other

harvest_other : (p : Parts) (row : DriverRow) → harvest_row p.driver p.memory ≡ Some row → IsOther row
harvest_other p row is = worker (next_worker p.driver) is
  where
    read : (e t : ℕ) (o : Option Transfer) → reading_row p.driver p.memory e t o ≡ Some row → IsOther row
    read e t None f = absurd (cc)
    read e t (Some y) f = at (waits_for e y) f
      where
        at : (b : Bool) → cond b (Some (rows.Harvest e t (found_of p.driver p.memory y y.sort))) None ≡ Some row → IsOther row
        at true g = subst IsOther (same_Some (rows.Harvest e t (found_of p.driver p.memory y y.sort)) row g) tt
        at false g = absurd (cc)

    transfer : (e : ℕ) (o : Option ℕ) → transfer_row p.driver p.memory e o ≡ Some row → IsOther row
    transfer e None f = absurd (cc)
    transfer e (Some t) f = read e t (slice_get p.driver.transfers t) f

    worker : (o : Option ℕ) → worker_row p.driver p.memory o ≡ Some row → IsOther row
    worker None f = absurd (cc)
    worker (Some e) f = transfer e (option_and_then (λ x. x.next) (slice_get p.driver.endpoints e)) f

-- one of the two is a clear only where the leaving work is
turn_clears : (turn : Turn) (leaving harvest : Option DriverRow) → ((row : DriverRow) → harvest ≡ Some row → IsOther row) → turn_row turn leaving harvest ≡ rows.ClearAdvance → leaving ≡ Some rows.ClearAdvance
turn_clears turns.Leaving None None other is = absurd (not_clear rows.Rest tt is)
turn_clears turns.Leaving None (Some row) other is = absurd (not_clear row (other row refl) is)
turn_clears turns.Leaving (Some row) harvest other is = ap (λ (r : DriverRow). Some r) is
turn_clears turns.Harvest None None other is = absurd (not_clear rows.Rest tt is)
turn_clears turns.Harvest (Some row) None other is = ap (λ (r : DriverRow). Some r) is
turn_clears turns.Harvest leaving (Some row) other is = absurd (not_clear row (other row refl) is)

-- what comes first isn't there, where the row is a clear
first_none : {X : Type 0} (f : X → DriverRow) (o : Option X) (later : Option DriverRow) → ((a : X) → IsOther (f a)) → first_row (option_map f o) later ≡ Some rows.ClearAdvance → (o ≡ None) × (later ≡ Some rows.ClearAdvance)
first_none f None later other is = (refl, is)
first_none f (Some a) later other is = absurd (not_clear (f a) (other a) (same_Some (f a) rows.ClearAdvance is))

clear_next : (p : Parts) → p.driver.command ≡ None → leaving_row p.driver p.registers ≡ Some rows.ClearAdvance → (p.driver.harvested ≡ []) × (p.driver.cleared ≡ [])
clear_next p idle is =
    let d = p.driver in
    let a = first_none rows.Mend (slice_get d.mends 0) _ (λ w. tt) is in
    let b = first_none rows.ReleaseTransfer (slice_get d.harvested 0) _ (λ t. tt) a.1 in
    let c = first_none rows.Unlink (slice_get d.periodic.unlinks 0) _ (λ t. tt) b.1 in
    let e = first_none rows.ReleaseEndpoint (slice_get d.cleared 0) _ (λ n. tt) c.1 in
    (none_first d.harvested b.0, none_first d.cleared e.0)

pub clear_finds : (p : Parts) → driver_row p ≡ rows.ClearAdvance → IsClearing p.driver
clear_finds p is =
    let due : IsDue p rows.ClearAdvance = subst (IsDue p) is (each_event_is_due p) in
    let for_none : row_for p None ≡ rows.ClearAdvance = ap (row_for p) (sym due.0) ∙ is in
    let n = clear_next p due.0 (turn_clears p.driver.turn (leaving_row p.driver p.registers) (harvest_row p.driver p.memory) (harvest_other p) for_none) in
    record { idle = due.0; heard = due.1; none_harvested = n.0; none_cleared = n.1 }
