-- Why an event of the driver is the one that it is (EHCI 1.0, 4.6 to 4.10).
--     IsDue p row        the content says why the row comes next
use Rattle.std.specs.Prelude.{◌≡◌, ℕ, ◌≤◌, ◌⊎◌, true, length, slice_get, Some, None}
use Rattle.drv_periodic.specs.declared.work.Store.{Store}
use Rattle.drv_periodic.specs.Periodic.{next_store}
use Rattle.drv_periodic_table.specs.declared.content.Removal.{Removal}
use Rattle.drv_periodic_table.specs.declared.content.Removed.{Removed}
use Rattle.drv_table.specs.declared.content.Endpoint.{Endpoint}
use Rattle.drv_table.specs.declared.content.Transfer.{Transfer}
use Rattle.drv_table.specs.declared.content.Command.{Command}
use Rattle.drv_table.specs.declared.content.Bell.TheVariants as bells
use Rattle.drv_table.specs.declared.rows.DriverRow.{DriverRow}
use Rattle.drv_table.specs.declared.rows.DriverRow.TheVariants as rows
use Rattle.drv_table.specs.declared.rows.Found.{Found}
use Rattle.drv_table.specs.DriverContent.{waits_for}
use Rattle.drv_table.specs.Parts.{Parts}
use Rattle.drv_table.specs.Commands.{events_of, links}
use Rattle.drv_table.specs.Leaving.{tells_advance}
use Rattle.drv_table.specs.Harvesting.{found_of}

-- the next of the unfinished command's own events
pub record IsNextOf (p : Parts) (row : DriverRow) : Type 0 where
  pub command : Command
  pub unfinished : p.driver.command ≡ Some command
  pub next : slice_get (events_of command) p.driver.made ≡ Some row

-- the next store of the frame list, behind the command's own events
pub record IsLinkOf (p : Parts) (row : DriverRow) : Type 0 where
  pub command : Command
  pub unfinished : p.driver.command ≡ Some command
  pub links : links command ≡ true
  pub late : length (events_of command) ≤ p.driver.made
  pub store : Store
  pub next : next_store p.driver.periodic.list ≡ Some store
  pub is : row ≡ rows.Store store.block store.at store.value

pub record IsTransferDue (p : Parts) (t : ℕ) : Type 0 where
  pub idle : p.driver.command ≡ None
  pub first : slice_get p.driver.harvested 0 ≡ Some t

-- a harvested descriptor is unlinked before anything is given back but transfers
pub record IsUnlinkDue (p : Parts) (t : ℕ) : Type 0 where
  pub idle : p.driver.command ≡ None
  pub first : slice_get p.driver.periodic.unlinks 0 ≡ Some t

-- a transfer is given back before an endpoint
pub record IsEndpointDue (p : Parts) (e : ℕ) : Type 0 where
  pub idle : p.driver.command ≡ None
  pub first : slice_get p.driver.cleared 0 ≡ Some e
  pub none_before : slice_get p.driver.harvested 0 ≡ None

-- .. and so is what was unlinked from the frame list
pub record IsRemovalDue (p : Parts) (what : Removed) : Type 0 where
  pub idle : p.driver.command ≡ None
  pub removal : Removal
  pub first : slice_get p.driver.periodic.removals 0 ≡ Some removal
  pub is : removal.what ≡ what
  pub none_before : slice_get p.driver.harvested 0 ≡ None
  pub all_unlinked : slice_get p.driver.periodic.unlinks 0 ≡ None

-- an endpoint that hasn't ended has this transfer to harvest
pub record IsHarvestDue (p : Parts) (e t : ℕ) (found : Found) : Type 0 where
  pub idle : p.driver.command ≡ None
  pub endpoint : Endpoint
  pub transfer : Transfer
  pub here : slice_get p.driver.endpoints e ≡ Some endpoint
  pub goes_on : endpoint.ended ≡ None
  pub next : endpoint.next ≡ Some t
  pub there : slice_get p.driver.transfers t ≡ Some transfer
  pub waits : waits_for e transfer ≡ true
  pub tells : found ≡ found_of p.driver p.memory transfer transfer.sort

abbrev pub IsDue : Parts → DriverRow → Type 0
IsDue p rows.Lend = IsNextOf p rows.Lend
IsDue p (rows.Store b at v) = IsNextOf p (rows.Store b at v) ⊎ IsLinkOf p (rows.Store b at v)
IsDue p (rows.Mend w) = (p.driver.command ≡ None) × (slice_get p.driver.mends 0 ≡ Some w)
IsDue p rows.Frames = IsNextOf p rows.Frames
IsDue p rows.LendDescriptors = IsNextOf p rows.LendDescriptors
IsDue p (rows.Unlink t) = IsUnlinkDue p t
IsDue p (rows.ReleaseRemoved what) = IsRemovalDue p what
IsDue p (rows.ReleaseTransfer t) = IsTransferDue p t
IsDue p (rows.ReleaseEndpoint e) = IsEndpointDue p e
IsDue p rows.ClearAdvance = (p.driver.command ≡ None) × (p.driver.bell ≡ bells.Heard)
IsDue p rows.RingBell = (p.driver.command ≡ None) × (p.driver.bell ≡ bells.Quiet)
IsDue p (rows.ReadStatus heard) = (p.driver.command ≡ None) × (p.driver.bell ≡ bells.Rung) × (heard ≡ tells_advance p.registers)
IsDue p (rows.ReadFrame n) = (p.driver.command ≡ None) × (n ≡ p.registers.frame_index)
IsDue p (rows.Harvest e t found) = IsHarvestDue p e t found
IsDue p rows.Rest = Unit {0}
