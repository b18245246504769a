-- No event of the driver writes ASYNCLISTADDR.
use Rattle.std.proofs.Common.{◌≡◌, ℕ, slice_get, Option, Some, None, refl}
use Rattle.mem_runs.specs.Book.{holding}
use Rattle.drv_periodic_table.specs.declared.content.Removed.{Removed}
use Rattle.drv_periodic_table.specs.declared.content.Removed.TheVariants as removed
use Rattle.drv_table.specs.declared.content.Endpoint.{Endpoint}
use Rattle.drv_table.specs.declared.content.Transfer.{Transfer}
use Rattle.drv_table.specs.declared.rows.DriverRow.{DriverRow}
use Rattle.drv_table.specs.declared.rows.DriverRow.TheVariants as rows
use Rattle.drv_table.specs.Parts.{Parts}
use Rattle.drv_table.specs.Rows.{after_driver_row}
use Rattle.drv_table.specs.Releases.{freed_by, after_transfer, after_endpoint}
use Rattle.drv_table.specs.Removals.{after_unlink, after_descriptor, after_placed, after_removed}

abbrev KeepsAddress : Parts → Parts → Type 0
KeepsAddress p new = new.registers.async_list_address ≡ p.registers.async_list_address

transfer_address : (p : Parts) (t : ℕ) (o : Option Transfer) → KeepsAddress p (after_transfer p t o (freed_by p.driver (holding p.driver.book p.memory) o))
transfer_address p t None = refl
transfer_address p t (Some x) = refl

endpoint_address : (p : Parts) (e : ℕ) (o : Option Endpoint) → KeepsAddress p (after_endpoint p e o)
endpoint_address p e None = refl
endpoint_address p e (Some x) = refl

descriptor_address : (p : Parts) (t : ℕ) (o : Option Transfer) → KeepsAddress p (after_descriptor p t o)
descriptor_address p t None = refl
descriptor_address p t (Some x) = refl

placed_address : (p : Parts) (e : ℕ) (o : Option Endpoint) → KeepsAddress p (after_placed p e o)
placed_address p e None = refl
placed_address p e (Some x) = refl

removed_address : (p : Parts) (what : Removed) → KeepsAddress p (after_removed p what)
removed_address p (removed.Descriptor t) = descriptor_address p t (slice_get p.driver.transfers t)
removed_address p (removed.Endpoint e) = placed_address p e (slice_get p.driver.endpoints e)

unlinked_address : (p : Parts) (t : ℕ) (o : Option Transfer) → KeepsAddress p (after_unlink p t o)
unlinked_address p t None = refl
unlinked_address p t (Some x) = refl

pub row_address : (row : DriverRow) (p : Parts) → (after_driver_row row p).registers.async_list_address ≡ p.registers.async_list_address
row_address (rows.Unlink t) p = unlinked_address p t (slice_get p.driver.transfers t)
row_address (rows.ReleaseRemoved what) p = removed_address p what
row_address (rows.ReleaseTransfer t) p = transfer_address p t (slice_get p.driver.transfers t)
row_address (rows.ReleaseEndpoint e) p = endpoint_address p e (slice_get p.driver.endpoints e)
row_address _ p = refl
