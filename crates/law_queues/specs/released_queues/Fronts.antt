-- How far the walk has gone along the queues of a driver (EHCI 1.0, 4.10.2), so that the blocks of what was harvested may be given back.
--     piece_address d y i        the byte address of qTD number i of transfer y
--     end_at d y                 the byte address to which the last qTD of transfer y leads
--     StandsAt d part order out e x
--                                endpoint e has its front: those of its transfers that are to be given back stand before it, and those of their qTDs
--                                that no harvest read were passed over
--     FrontsStand d parts order out
--                                so has each endpoint that the walk may meet
use Rattle.std.specs.Prelude.{◌≡◌, ℕ, ◌-◌, ◌*◌, ◌<◌, ◌≤◌, false, List, slice_get, Some}
use Rattle.drv_table.specs.declared.content.Endpoint.{Endpoint}
use Rattle.drv_table.specs.declared.content.Transfer.{Transfer}
use Rattle.drv_table.specs.DriverContent.{DriverContent}
use Rattle.claims_driver.specs.Owners.{note_in}
use Rattle.law_structures.specs.lent_structures.Structures.{Structures, StructureSets}
use Rattle.law_ring.specs.Front.{IsPassed, HasFront}
use Rattle.law_driver.specs.chained_transfers.Chains.{piece_at}
use Rattle.law_driver_ring.specs.fed_queues.Places.{IsMet}

abbrev pub piece_address : DriverContent → Transfer → ℕ → ℕ
piece_address d y i = 32 * piece_at (note_in d.notes) y.first i

abbrev pub end_at : DriverContent → Transfer → ℕ
end_at d y = piece_address d y y.qtds

pub record StandsAt (d : DriverContent) (part : Structures) (order : ℕ → ℕ) (out : List ℕ) (e : ℕ) (x : Endpoint) : Type 0 where
  pub front : ℕ
  pub has : HasFront order front out (32 * x.queue) part
  pub ended : (i t : ℕ) (y : Transfer) → slice_get d.harvested i ≡ Some t → slice_get d.transfers t ≡ Some y → y.released ≡ false → y.endpoint ≡ e
      → order (end_at d y) ≤ front
  pub passed : (i t j : ℕ) (y : Transfer) → slice_get d.harvested i ≡ Some t → slice_get d.transfers t ≡ Some y → y.released ≡ false → y.endpoint ≡ e
      → y.qtds - y.left < j → j < y.qtds → IsPassed order front part (piece_address d y j)

abbrev pub FrontsStand : DriverContent → StructureSets → (ℕ → ℕ → ℕ) → (ℕ → List ℕ) → Type 0
FrontsStand d parts order out =
    (e : ℕ) (x : Endpoint) → slice_get d.endpoints e ≡ Some x → IsMet d e x → StandsAt d (parts (32 * x.queue)) (order (32 * x.queue)) (out (32 * x.queue)) e x
