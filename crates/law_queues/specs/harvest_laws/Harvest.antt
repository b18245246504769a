-- A harvest of the next transfer of an endpoint that has a stream (EHCI 1.0, 4.10).
--     Harvests d e t x y      transfer t is the next of endpoint e, its place is one of its qTDs, and the qTD there is no other's
use Rattle.std.specs.Prelude.{◌≡◌, ◌≢◌, ℕ, ◌-◌, ◌≤◌, true, false, slice_get, Some, None}
use Rattle.claims_report.specs.Streams.{has_stream}
use Rattle.drv_table.specs.declared.content.Endpoint.{Endpoint}
use Rattle.drv_table.specs.declared.content.Transfer.{Transfer}
use Rattle.drv_table.specs.DriverContent.{DriverContent}
use Rattle.law_driver.specs.endpoint_lives.Lives.{told_end}
use Rattle.drv_table.specs.Harvests.{note_at}
use Rattle.claims_driver.specs.Owners.{note_in}
use Rattle.law_driver.specs.chained_transfers.Turns.{IsAtPlace}
use Rattle.law_driver_ring.specs.told_harvests.Held.{IsOneFrom}
use Rattle.law_queues.specs.harvest_laws.Holds.{IsNextOf}

pub record Harvests (d : DriverContent) (e t : ℕ) (x : Endpoint) (y : Transfer) : Type 0 where
  pub next : IsNextOf d e t x y
  pub stream : has_stream x.desc.kind ≡ true
  pub some : 1 ≤ y.left
  pub most : y.left ≤ y.qtds
  pub waits : (f u : ℕ) (w : Endpoint) (z : Transfer) → IsNextOf d f u w z → (z.endpoint ≡ f) × (z.reported ≡ false)
  pub unreleased : (u : ℕ) (z : Transfer) (w : Endpoint) → slice_get d.transfers u ≡ Some z → slice_get d.endpoints z.endpoint ≡ Some w → told_end w ≡ None → z.reported ≡ false → z.released ≡ false
  pub places : (u : ℕ) (z : Transfer) → slice_get d.transfers u ≡ Some z → z.reported ≡ false → z.released ≡ false → IsAtPlace (note_in d.notes) z
  pub others : (u : ℕ) (z : Transfer) → slice_get d.transfers u ≡ Some z → z.reported ≡ false → z.released ≡ false → u ≢ t → IsOneFrom (note_at d.notes) z.first z.qtds y.place → ⊥
  pub once : IsOneFrom (note_at d.notes) (note_at d.notes y.place).next (y.left - 1) y.place → ⊥
