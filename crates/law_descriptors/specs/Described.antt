-- The isochronous descriptors of a driver, each an iTD or a siTD, with their buffers, as structures in memory (EHCI 1.0, 3.3, 3.4, 4.7 and 4.12.3): those of
-- the transfers that weren't given back, as far as the driver has lent them. The owner of a descriptor and of its buffer is the descriptor's address.
--     IsDescriptorLent v t y   transfer t has an isochronous descriptor, wasn't given back, and its descriptor is lent
--     HasItd part n            an iTD stands at n, and the bytes of each microframe that is active lie in one buffer
--     HasSitd part n           a siTD stands at n, and where it is active the bytes that are left lie in one buffer
--     HasDescriptor split part n     the one or the other
--     HasBufferIn slot part c cs     a buffer begins in block c, and reaches no further than the runs that begin in these blocks
--     IsOfDescriptor v n a     the driver has a descriptor at n, and it or its buffer has the name a
--     AreDescribed v descs     each descriptor stands so with its buffer, and nothing else is there
--     AreHeld m descs          each of these structures stands in memory
use Rattle.std.specs.Prelude.{◌≡◌, ℕ, ◌*◌, ◌<◌, Bool, true, false, List, [], ◌∷◌, Some}
use Rattle.word_mem.specs.Memory.{Mem}
use Rattle.mem_runs.specs.declared.slots.Slot.{Slot}
use Rattle.itd_sitd.specs.declared.itd.Itd.{Itd}
use Rattle.itd_sitd.specs.declared.sitd.Sitd.{Sitd}
use Rattle.itd_sitd.specs.Itd.{slot_of}
use Rattle.hc_iso.specs.Sitd.{sitd_place}
use Rattle.hc_iso.specs.WriteBack.{itd_pages, slot_place, sitd_pages}
use Rattle.claims_driver.specs.Owners.{TransferRuns, Views}
use Rattle.law_structures.specs.lent_structures.Structures.{Structure, Buffer, Isochronous, SplitIsochronous, Structures, StructureSets, Holds, Has}
use Rattle.law_driver_ring.specs.Inventory.{IsLent}
use Rattle.law_driver_ring.specs.Extents.{InRuns}
use Rattle.law_frames.specs.Met.{IsBuffered}

pub record IsDescriptorLent (v : Views) (t : ℕ) (y : TransferRuns) : Type 0 where
  pub here : v.transfer t ≡ Some y
  pub held : y.released ≡ false
  pub isochronous : y.isochronous ≡ true
  pub lent : IsLent (v.slot y.first)

-- ---- the descriptor

-- each microframe that is active has its bytes (3.3.2)
pub record HasItd (part : Structures) (n : ℕ) : Type 0 where
  pub itd : Itd
  pub here : part n ≡ Some (Isochronous itd)
  pub slots : (u : ℕ) → u < 8 → (slot_of u itd).active ≡ true → 0 < (slot_of u itd).length
      → IsBuffered part (itd_pages itd) (slot_place (slot_of u itd)) (slot_of u itd).length

-- where it is active, the bytes that are left are there (3.4.3, 3.4.4)
pub record HasSitd (part : Structures) (n : ℕ) : Type 0 where
  pub sitd : Sitd
  pub here : part n ≡ Some (SplitIsochronous sitd)
  pub bytes : sitd.active ≡ true → 0 < sitd.total → IsBuffered part (sitd_pages sitd) (sitd_place sitd) sitd.total

abbrev pub HasDescriptor : Bool → Structures → ℕ → Type 0
HasDescriptor true part n = HasSitd part n
HasDescriptor false part n = HasItd part n

-- ---- its buffer

pub record HasBufferIn (slot : ℕ → Slot) (part : Structures) (c : ℕ) (cs : List ℕ) : Type 0 where
  pub pages : List ℕ
  pub start : ℕ
  pub bytes : List ℕ
  pub here : part (32 * c) ≡ Some (Buffer pages start bytes)
  pub runs : (j : ℕ) → Has (32 * c) (Buffer pages start bytes) j → InRuns slot (c ∷ cs) j

-- one of no bytes has none
abbrev pub HasItsBuffer : (ℕ → Slot) → Structures → List ℕ → Type 0
HasItsBuffer slot part [] = Unit {0}
HasItsBuffer slot part (c ∷ cs) = HasBufferIn slot part c cs

-- ---- the whole

pub data IsOfDescriptor (v : Views) : ℕ → ℕ → Type 0 where
  a_descriptor : (t : ℕ) (y : TransferRuns) → IsDescriptorLent v t y → IsOfDescriptor v (32 * y.first) (32 * y.first)
  a_buffer : (t c : ℕ) (cs : List ℕ) (y : TransferRuns) → IsDescriptorLent v t y → (v.descriptor y.first).buffer ≡ c ∷ cs → IsOfDescriptor v (32 * y.first) (32 * c)

pub record AreDescribed (v : Views) (descs : StructureSets) : Type 0 where
  pub descriptors : (t : ℕ) (y : TransferRuns) → IsDescriptorLent v t y → HasDescriptor (v.descriptor y.first).split (descs (32 * y.first)) (32 * y.first)
  pub buffers : (t : ℕ) (y : TransferRuns) → IsDescriptorLent v t y → HasItsBuffer v.slot (descs (32 * y.first)) (v.descriptor y.first).buffer
  pub only : (n a : ℕ) (s : Structure) → descs n a ≡ Some s → IsOfDescriptor v n a

abbrev pub AreHeld : Mem → StructureSets → Type 0
AreHeld m descs = (n a : ℕ) (s : Structure) → descs n a ≡ Some s → Holds m a s
