-- Each release of the driver leaves Free what it gives back.
use Rattle.std.proofs.Common.{◌≡◌, ℕ, Bool, true, false, if◌then◌else◌, [], ◌∷◌, slice_get, Option, Some, None, ap, sym, ◌∙◌}
use Rattle.std.specs.Prelude.{IfSome}
use Rattle.std.proofs.lemmas.Bool.{false≢true}
use Rattle.word_mem.specs.Memory.{Mem}
use Rattle.mem_runs.specs.Book.{Holding, holding, Stands}
use Rattle.mem_runs.proofs.Standing.{within_lent}
use Rattle.drv_periodic_table.specs.declared.content.Removed.{Removed}
use Rattle.drv_periodic_table.specs.declared.content.Removed.TheVariants as removed
use Rattle.drv_table.specs.declared.content.Endpoint.{Endpoint}
use Rattle.drv_table.specs.declared.content.Transfer.{Transfer}
use Rattle.drv_table.specs.declared.rows.DriverRow.{DriverRow}
use Rattle.drv_table.specs.declared.rows.DriverRow.TheVariants as rows
use Rattle.drv_table.specs.DriverContent.{DriverContent}
use Rattle.drv_table.specs.Parts.{Parts}
use Rattle.drv_table.specs.Rows.{driver_row, after_driver_row}
use Rattle.drv_table.specs.Kinds.{is_iso}
use Rattle.drv_table.specs.Releases.{free_runs, free_endpoint, freed_by, after_transfer, after_endpoint}
use Rattle.drv_table.specs.Removals.{free_descriptors, after_descriptor, after_placed, after_removed}
use Rattle.law_driver.specs.run_owners.Due.{IsDue}
use Rattle.claims_driver.specs.Owners.{descriptor_in}
use Rattle.law_driver.proofs.lemmas.run_owners.Reasons.{each_event_is_due}
use Rattle.claims_driver.specs.LentRuns.{begins_in, AreLent}
use Rattle.law_driver.proofs.lemmas.lent_runs.Goes.{idle_none}
use Rattle.claims_driver.specs.Released.{IsTransferFreed, IsQueueFreed, IsDescriptorFreed, IsPlacedFreed, IsRemovedFreed, IsReleased}
use Rattle.law_driver.proofs.lemmas.released_blocks.Freeing.{HasNoneKept, IsWithin, frees_none, runs_go, qtds_go, transfers_go, descriptors_go}

none_kept : (d : DriverContent) (m : Mem) → d.command ≡ None → AreLent d → HasNoneKept (holding d.book m)
none_kept d m idle lent b r is = false≢true (sym (ap (begins_in b) (idle_none d idle lent)) ∙ lent.kept b r is)

module _ (d : DriverContent) (m : Mem) (stands : Stands (holding d.book m)) (idle : d.command ≡ None) (lent : AreLent d) where
  none : HasNoneKept (holding d.book m)
  none = none_kept d m idle lent

  within : IsWithin (holding d.book m)
  within b r is = within_lent (holding d.book m) b r stands is

  transfer_freed : (y : Transfer) → IsTransferFreed d (freed_by d (holding d.book m) (Some y)).memory y
  transfer_freed y = (qtds_go (holding d.book m) (holding d.book m) d.notes y.first y.qtds none within (frees_none (holding d.book m))).1

  queue_freed : (e : ℕ) (x : Endpoint) → IsQueueFreed d (free_endpoint d e x (holding d.book m)).memory e x
  queue_freed e x =
      let h : Holding = holding d.book m in
      let one = runs_go h h (x.queue ∷ x.dummy ∷ []) none within (frees_none h) in
      let rest = transfers_go h (free_runs h (x.queue ∷ x.dummy ∷ [])) d.notes e d.transfers none within one.0.frees in
      record {
        queue = (λ k has. rest.0.stays k (one.1.0 k has), (λ k has. rest.0.stays k (one.1.1.0 k has), tt));
        transfers = rest.1;
      }

  placed_by : (e : ℕ) (x : Endpoint) (iso : Bool)
      → IsPlacedFreed d (if iso then free_descriptors d.periodic.notes e (holding d.book m) d.transfers else free_endpoint d e x (holding d.book m)).memory e x iso
  placed_by e x true = (descriptors_go (holding d.book m) (holding d.book m) d.periodic.notes e d.transfers none within (frees_none (holding d.book m))).1
  placed_by e x false = queue_freed e x

descriptor_freed : (d : DriverContent) (m : Mem) (stands : Stands (holding d.book m)) (idle : d.command ≡ None) (lent : AreLent d) (y : Transfer)
    → IsDescriptorFreed d (free_runs (holding d.book m) (y.first ∷ (descriptor_in d.periodic.notes y.first).buffer)).memory y
descriptor_freed d m stands idle lent y =
    (runs_go (holding d.book m) (holding d.book m) (y.first ∷ (descriptor_in d.periodic.notes y.first).buffer) (none_kept d m idle lent) (λ b r is. within_lent (holding d.book m) b r stands is) (frees_none (holding d.book m))).1

transfer_row : (p : Parts) (t : ℕ) (o : Option Transfer) → Stands (holding p.driver.book p.memory) → p.driver.command ≡ None → AreLent p.driver
    → IfSome o (IsTransferFreed p.driver (after_transfer p t o (freed_by p.driver (holding p.driver.book p.memory) o)).memory)
transfer_row p t None stands idle lent = tt
transfer_row p t (Some y) stands idle lent = transfer_freed p.driver p.memory stands idle lent y

endpoint_row : (p : Parts) (e : ℕ) (o : Option Endpoint) → Stands (holding p.driver.book p.memory) → p.driver.command ≡ None → AreLent p.driver
    → IfSome o (IsQueueFreed p.driver (after_endpoint p e o).memory e)
endpoint_row p e None stands idle lent = tt
endpoint_row p e (Some x) stands idle lent = queue_freed p.driver p.memory stands idle lent e x

descriptor_row : (p : Parts) (t : ℕ) (o : Option Transfer) → Stands (holding p.driver.book p.memory) → p.driver.command ≡ None → AreLent p.driver
    → IfSome o (IsDescriptorFreed p.driver (after_descriptor p t o).memory)
descriptor_row p t None stands idle lent = tt
descriptor_row p t (Some y) stands idle lent = descriptor_freed p.driver p.memory stands idle lent y

placed_row : (p : Parts) (e : ℕ) (o : Option Endpoint) → Stands (holding p.driver.book p.memory) → p.driver.command ≡ None → AreLent p.driver
    → IfSome o (λ x. IsPlacedFreed p.driver (after_placed p e o).memory e x (is_iso x.desc.kind))
placed_row p e None stands idle lent = tt
placed_row p e (Some x) stands idle lent = placed_by p.driver p.memory stands idle lent e x (is_iso x.desc.kind)

removed_row : (p : Parts) (what : Removed) → Stands (holding p.driver.book p.memory) → p.driver.command ≡ None → AreLent p.driver → IsRemovedFreed p.driver (after_removed p what).memory what
removed_row p (removed.Descriptor t) stands idle lent = descriptor_row p t (slice_get p.driver.transfers t) stands idle lent
removed_row p (removed.Endpoint e) stands idle lent = placed_row p e (slice_get p.driver.endpoints e) stands idle lent

row_released : (p : Parts) (row : DriverRow) → Stands (holding p.driver.book p.memory) → AreLent p.driver → IsDue p row → IsReleased p.driver (after_driver_row row p).memory row
row_released p (rows.ReleaseTransfer t) stands lent due = transfer_row p t (slice_get p.driver.transfers t) stands due.idle lent
row_released p (rows.ReleaseEndpoint e) stands lent due = endpoint_row p e (slice_get p.driver.endpoints e) stands due.idle lent
row_released p (rows.ReleaseRemoved what) stands lent due = removed_row p what stands due.idle lent
row_released p _ stands lent due = tt

pub what_a_release_leaves_is_free : (p : Parts) → Stands (holding p.driver.book p.memory) → AreLent p.driver → IsReleased p.driver (after_driver_row (driver_row p) p).memory (driver_row p)
what_a_release_leaves_is_free p stands lent = row_released p (driver_row p) stands lent (each_event_is_due p)
