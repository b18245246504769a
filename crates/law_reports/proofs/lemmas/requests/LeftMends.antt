-- Where Async Advance is cleared no store is owed to a stalled queue head.
use Rattle.std.proofs.Common.{◌≡◌, ℕ, zero, suc, Bool, true, false, cond, List, [], ◌∷◌, slice_get, Option, Some, None, ap, refl, sym}
use Rattle.std.proofs.Common.{subst, ◌∙◌}
use Rattle.std.specs.Prelude.{option_and_then}
use Rattle.std.proofs.lemmas.Option.{same_Some}
use Rattle.drv_table.specs.declared.content.Mend.{Mend}
use Rattle.drv_table.specs.declared.content.Transfer.{Transfer}
use Rattle.drv_table.specs.declared.content.Turn.{Turn}
use Rattle.drv_table.specs.declared.content.Turn.TheVariants as turns
use Rattle.drv_table.specs.declared.rows.DriverRow.{DriverRow}
use Rattle.drv_table.specs.declared.rows.DriverRow.TheVariants as rows
use Rattle.drv_table.specs.DriverContent.{waits_for}
use Rattle.drv_table.specs.Harvesting.{found_of, next_worker, reading_row, transfer_row, worker_row, harvest_row}
use Rattle.drv_table.specs.Leaving.{leaving_row}
use Rattle.drv_table.specs.Parts.{Parts}
use Rattle.drv_table.specs.Rows.{turn_row, row_for, driver_row}
use Rattle.law_driver.specs.run_owners.Due.{IsDue}
use Rattle.law_driver.proofs.lemmas.run_owners.Reasons.{each_event_is_due}
use Rattle.law_queues.specs.mended_heads.Owed.{StalledQueue, store_by, store_due}

abbrev clears : DriverRow → Bool
clears rows.ClearAdvance = true
clears _ = false

reads_none : (p : Parts) (row : DriverRow) → harvest_row p.driver p.memory ≡ Some row → clears row ≡ false
reads_none p row is = worker (next_worker p.driver) is
  where
    at : (e t : ℕ) (y : Transfer) (b : Bool)
        → cond b (Some (rows.Harvest e t (found_of p.driver p.memory y y.sort))) None ≡ Some row → clears row ≡ false
    at e t y true g = ap clears (sym (same_Some (rows.Harvest e t (found_of p.driver p.memory y y.sort)) row g))
    at e t y false g = absurd cc

    read : (e t : ℕ) (o : Option Transfer) → reading_row p.driver p.memory e t o ≡ Some row → clears row ≡ false
    read e t None f = absurd cc
    read e t (Some y) f = at e t y (waits_for e y) f

    transfer : (e : ℕ) (o : Option ℕ) → transfer_row p.driver p.memory e o ≡ Some row → clears row ≡ false
    transfer e None f = absurd cc
    transfer e (Some t) f = read e t (slice_get p.driver.transfers t) f

    worker : (o : Option ℕ) → worker_row p.driver p.memory o ≡ Some row → clears row ≡ false
    worker None f = absurd cc
    worker (Some e) f = transfer e (option_and_then (λ x. x.next) (slice_get p.driver.endpoints e)) f

turn_none : (turn : Turn) (m : Mend) (harvest : Option DriverRow) → ((row : DriverRow) → harvest ≡ Some row → clears row ≡ false)
    → clears (turn_row turn (Some (rows.Mend m)) harvest) ≡ false
turn_none turns.Leaving m harvest other = refl
turn_none turns.Harvest m None other = refl
turn_none turns.Harvest m (Some row) other = other row refl

pub clear_owes_none : (p : Parts) → driver_row p ≡ rows.ClearAdvance → p.driver.mends ≡ []
clear_owes_none p is = by p.driver.mends refl
  where
    due : IsDue p rows.ClearAdvance
    due = subst (IsDue p) is (each_event_is_due p)

    idle_row : turn_row p.driver.turn (leaving_row p.driver p.registers) (harvest_row p.driver p.memory) ≡ rows.ClearAdvance
    idle_row = ap (row_for p) (sym due.0) ∙ is

    by : (ms : List Mend) → p.driver.mends ≡ ms → p.driver.mends ≡ []
    by [] none = none
    by (m ∷ ms) some =
        let first : leaving_row p.driver p.registers ≡ Some (rows.Mend m) =
        ap (λ (l : List Mend). leaving_row (record p.driver { mends = l }) p.registers) some in
        let bad : true ≡ false = ap clears (sym idle_row
        ∙ ap (λ (o : Option DriverRow). turn_row p.driver.turn o (harvest_row p.driver p.memory)) first)
        ∙ turn_none p.driver.turn m (harvest_row p.driver p.memory) (reads_none p) in
        absurd cc

stored_by : (q b i : ℕ) → (store_by q b i).queue ≡ q
stored_by q b zero = refl
stored_by q b (suc zero) = refl
stored_by q b (suc (suc i)) = refl

pub stored_queue : (u : StalledQueue) → (store_due u).queue ≡ u.queue
stored_queue u = stored_by u.queue u.onward u.made
