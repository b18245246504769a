-- No run of blocks leaks (EHCI 1.0, 3, 4.8.2 and 4.10): each run that the driver's book has is one that the driver still needs.
--     AreQueuesHarvested d     of the transfers that are to be given back, those in the list of harvested ones have qTDs
--     OwnsAll d                both
use Rattle.std.specs.Prelude.{◌≡◌, ℕ, ◌≤◌, false, Some}
use Rattle.drv_table.specs.DriverContent.{DriverContent}
use Rattle.claims_driver.specs.Owners.{TransferRuns, transfer_in}
use Rattle.claims_driver.specs.Leaving.{times}
use Rattle.claims_world.specs.Owned.{AreAllOwned}

abbrev pub AreQueuesHarvested : DriverContent → Type 0
AreQueuesHarvested d = (t : ℕ) (y : TransferRuns) → 1 ≤ times t d.harvested → transfer_in d.transfers t ≡ Some y → y.isochronous ≡ false

pub record OwnsAll (d : DriverContent) : Type 0 where
  pub all : AreAllOwned d
  pub queues : AreQueuesHarvested d
