-- The rows that a driver of bulk and control endpoints never has: nothing is in the frame list.
use Rattle.std.proofs.Common.{◌≡◌, ℕ, zero, suc, ◌+◌, ◌*◌, slice_get, slice_index, Option, Some, None, option_map, sym, subst, ◌∙◌}
use Rattle.std.proofs.lemmas.Option.{same_Some, slice_get-map}
use Rattle.law_common.proofs.Lists.{none_there}
use Rattle.drv_table.specs.declared.content.Command.{Command}
use Rattle.drv_table.specs.declared.content.Command.TheVariants as unfinished
use Rattle.drv_table.specs.declared.rows.DriverRow.{DriverRow}
use Rattle.drv_table.specs.declared.rows.DriverRow.TheVariants as rows
use Rattle.drv_table.specs.Parts.{Parts}
use Rattle.drv_table.specs.Commands.{store_order, events_of}
use Rattle.law_driver.specs.run_owners.Due.{IsDue, IsNextOf}
use Rattle.law_driver.specs.chained_transfers.Bulk.{IsBulkCommand}
use Rattle.law_driver.specs.chained_transfers.Asynchronous.{OnlyAsynchronous}

-- a row that such a driver may have
abbrev pub IsAsynchronousRow : DriverRow → Type 0
IsAsynchronousRow rows.Frames = ⊥
IsAsynchronousRow rows.LendDescriptors = ⊥
IsAsynchronousRow (rows.Unlink t) = ⊥
IsAsynchronousRow (rows.ReleaseRemoved what) = ⊥
IsAsynchronousRow _ = Unit {0}

stored_row : (f : ℕ → DriverRow) (o : Option ℕ) (row : DriverRow) → ((i : ℕ) → IsAsynchronousRow (f i)) → option_map f o ≡ Some row → IsAsynchronousRow row
stored_row f None row each e = absurd (cc)
stored_row f (Some i) row each e = subst IsAsynchronousRow (same_Some (f i) row e) (each i)

events_row : (c : Command) (i : ℕ) (row : DriverRow) → IsBulkCommand (Some c) → slice_get (events_of c) i ≡ Some row → IsAsynchronousRow row
events_row (unfinished.Open queue) zero row is e = subst IsAsynchronousRow (same_Some _ row e) tt
events_row (unfinished.Open queue) (suc zero) row is e = subst IsAsynchronousRow (same_Some _ row e) tt
events_row (unfinished.Open queue) (suc (suc i)) row is e = absurd (cc)
events_row (unfinished.Publish b words) zero row is e = subst IsAsynchronousRow (same_Some _ row e) tt
events_row (unfinished.Publish b words) (suc i) row is e =
    stored_row (λ i. rows.Store b (32 * b + 4 * i) (slice_index words i)) (slice_get store_order i) row (λ i. tt) (sym (slice_get-map _ store_order i) ∙ e)
events_row (unfinished.Unlink n b link) zero row is e = subst IsAsynchronousRow (same_Some _ row e) tt
events_row (unfinished.Unlink n b link) (suc i) row is e = absurd (cc)
events_row unfinished.Chain i row is e = absurd is
events_row (unfinished.Iso e t count) i row is f = absurd is
events_row (unfinished.Unchain e) i row is f = absurd is

next_row : (p : Parts) (row : DriverRow) → OnlyAsynchronous p.driver → IsNextOf p row → IsAsynchronousRow row
next_row p row r due = events_row due.command p.driver.made row (subst IsBulkCommand due.unfinished r.command) due.next

pub asynchronous_row : (p : Parts) (row : DriverRow) → OnlyAsynchronous p.driver → IsDue p row → IsAsynchronousRow row
asynchronous_row p rows.Frames r due = next_row p rows.Frames r due
asynchronous_row p rows.LendDescriptors r due = next_row p rows.LendDescriptors r due
asynchronous_row p (rows.Unlink t) r due = none_there p.driver.periodic.unlinks t r.unlinks due.first
asynchronous_row p (rows.ReleaseRemoved what) r due = none_there p.driver.periodic.removals due.removal r.removals due.first
asynchronous_row p _ r due = tt
