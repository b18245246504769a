-- Which qTDs are out before and after a harvest (EHCI 1.0, 4.10).
--     IsOutEarlier ..       the qTD at p is out of an earlier transfer of the endpoint: a short packet passed over it
--     SplitsOut ..          those that are out: passed over ones, the one that is read, and the others; after the harvest all but that
use Rattle.std.specs.Prelude.{◌≡◌, ℕ, ◌*◌, ◌<◌, List, ◌∷◌, ◌++◌, slice_get, slice_set, Some, None}
use Rattle.drv_table.specs.declared.content.Transfer.{Transfer}
use Rattle.claims_driver.specs.Owners.{NoteRuns}
use Rattle.law_ring.specs.Order.{IsAmong}
use Rattle.law_driver.specs.chained_transfers.Out.{pieces_from, out_of_transfer, out_of}

pub record IsOutEarlier (note : ℕ → NoteRuns) (e t : ℕ) (ts : List Transfer) (p : ℕ) : Type 0 where
  pub number : ℕ
  pub earlier : number < t
  pub transfer : Transfer
  pub here : slice_get ts number ≡ Some transfer
  pub among : IsAmong p (out_of_transfer note e 0 transfer)

pub record SplitsOut (note : ℕ → NoteRuns) (e t made : ℕ) (ts : List Transfer) (y : Transfer) (l : ℕ) : Type 0 where
  pub passed : List ℕ
  pub rest : List ℕ
  pub before : out_of note e None made ts ≡ passed ++ 32 * y.place ∷ (pieces_from note (note y.place).next l ++ rest)
  pub after : (z : Transfer) → out_of_transfer note e 0 z ≡ pieces_from note (note y.place).next l
      → out_of note e None made (slice_set ts t z) ≡ passed ++ (pieces_from note (note y.place).next l ++ rest)
  pub earlier : (p : ℕ) → IsAmong p passed → IsOutEarlier note e t ts p
