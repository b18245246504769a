-- The structures of a driver with its isochronous descriptors (EHCI 1.0, 3, 4.6 and 4.8): what its queues have, and beside it what its descriptors have.
--     owns descs n             a descriptor stands at n
--     both descs parts         the structures of each owner: of a descriptor those that it has, of any other those of the queues
--     descs_now, parts_now     what became of the one and of the other, where all became this
--     KeepDescriptors parts now      each descriptor is one still
--     Keeps parts now          each name has a structure of the same kind, as far as it was, and each descriptor is one still
--     SameDescriptors v w      what is told of lent descriptors is the same
use Rattle.std.specs.Prelude.{◌≡◌, ℕ, Bool, is_some, if◌then◌else◌}
use Rattle.claims_driver.specs.Owners.{SlotHas, TransferRuns, Views}
use Rattle.law_structures.specs.lent_structures.Structures.{StructureSets}
use Rattle.law_driver_ring.specs.Inventory.{SameSorts}
use Rattle.law_driver_ring.specs.Extents.{KeepExtents}
use Rattle.law_descriptors.specs.Described.{IsDescriptorLent, HasDescriptor}

abbrev pub owns : StructureSets → ℕ → Bool
owns descs n = is_some (descs n n)

abbrev pub both : StructureSets → StructureSets → StructureSets
both descs parts n = if owns descs n then descs n else parts n

-- ---- what became of them

abbrev pub descs_now : StructureSets → StructureSets → StructureSets
descs_now descs now n = if owns descs n then now n else descs n

abbrev pub parts_now : StructureSets → StructureSets → StructureSets → StructureSets
parts_now descs parts now n = if owns descs n then parts n else now n

abbrev pub KeepDescriptors : StructureSets → StructureSets → Type 0
KeepDescriptors parts now = (split : Bool) (n : ℕ) → HasDescriptor split (parts n) n → HasDescriptor split (now n) n

pub record Keeps (parts now : StructureSets) : Type 0 where
  pub sorts : SameSorts parts now
  pub extents : KeepExtents parts now
  pub descriptors : KeepDescriptors parts now

-- ---- what the driver tells of them

pub record SameDescriptors (v w : Views) : Type 0 where
  pub slots : (c k : ℕ) → SlotHas (v.slot c) k → SlotHas (w.slot c) k
  pub stay : (t : ℕ) (y : TransferRuns) → IsDescriptorLent v t y → IsDescriptorLent w t y
  pub were : (t : ℕ) (y : TransferRuns) → IsDescriptorLent w t y → IsDescriptorLent v t y
  pub notes : (t : ℕ) (y : TransferRuns) → IsDescriptorLent v t y → w.descriptor y.first ≡ v.descriptor y.first
