-- What a driver holds back of each endpoint (EHCI 1.0, 4.10): of the transfer that is harvested, the bytes of the qTDs that were read; of the others nothing is
-- noted yet.
--     IsUnderWay hand parts n note y held     the transfer y of the queue head at n is harvested up to its place, and these bytes are held back
--     IsToCome note y                         nothing of the transfer y is harvested
--     HoldsEach d hand parts held             so it is of each endpoint that has a stream and goes on; of a control endpoint that nothing of the requests that are to
--                                             come is harvested
--     AreReadable d parts                     the qTDs and buffers of each transfer that wasn't given back are those that were noted
use Rattle.std.specs.Prelude.{◌≡◌, ℕ, ◌-◌, ◌*◌, ◌≤◌, true, false, List, [], slice_get, Some, None}
use Rattle.law_structures.specs.lent_structures.Structures.{StructureSets}
use Rattle.law_ring.specs.Hand.{Hand}
use Rattle.claims_report.specs.Streams.{has_stream}
use Rattle.drv_table.specs.declared.content.Endpoint.{Endpoint}
use Rattle.drv_table.specs.declared.content.Transfer.{Transfer}
use Rattle.drv_table.specs.declared.content.QtdNote.{QtdNote}
use Rattle.drv_table.specs.DriverContent.{DriverContent}
use Rattle.drv_table.specs.Harvests.{note_at}
use Rattle.law_driver_ring.specs.told_harvests.Held.{AreHeld, AreUnmoved, told_of}
use Rattle.law_driver.specs.endpoint_lives.Lives.{told_end}

pub record IsUnderWay (hand : Hand) (parts : StructureSets) (n : ℕ) (note : ℕ → QtdNote) (y : Transfer) (held : List ℕ) : Type 0 where
  pub done : AreHeld hand parts n note y.first (y.qtds - y.left) y.place held
  pub rest : AreUnmoved note y.place y.left

pub record IsToCome (note : ℕ → QtdNote) (y : Transfer) : Type 0 where
  pub place : y.place ≡ y.first
  pub left : y.left ≡ y.qtds
  pub rest : AreUnmoved note y.first y.qtds

-- the transfer is the next one of an endpoint that goes on
pub record IsNextOf (d : DriverContent) (e t : ℕ) (x : Endpoint) (y : Transfer) : Type 0 where
  pub endpoint : slice_get d.endpoints e ≡ Some x
  pub going : told_end x ≡ None
  pub next : x.next ≡ Some t
  pub transfer : slice_get d.transfers t ≡ Some y

pub record HoldsEach (d : DriverContent) (hand : Hand) (parts : StructureSets) (held : ℕ → List ℕ) : Type 0 where
  pub next : (e t : ℕ) (x : Endpoint) (y : Transfer) → IsNextOf d e t x y → has_stream x.desc.kind ≡ true → IsUnderWay hand parts (32 * x.queue) (note_at d.notes) y (held e)
  pub none : (e : ℕ) (x : Endpoint) → slice_get d.endpoints e ≡ Some x → x.next ≡ None → has_stream x.desc.kind ≡ true → held e ≡ []
  pub to_come : (t : ℕ) (y : Transfer) → slice_get d.transfers t ≡ Some y → y.reported ≡ false → y.released ≡ false
      → ((x : Endpoint) → slice_get d.endpoints y.endpoint ≡ Some x → x.next ≡ Some t → ⊥) → IsToCome (note_at d.notes) y
  pub within : (t : ℕ) (y : Transfer) → slice_get d.transfers t ≡ Some y → y.released ≡ false → told_of (note_at d.notes) y.first y.qtds ≤ y.most
