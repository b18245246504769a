-- Transfers that weren't given back, and their endpoints.
use Rattle.std.proofs.Common.{◌≡◌, ℕ, Bool, true, false, slice_get, Some, None, option_map, ap, sym, ◌∙◌, refl}
use Rattle.std.proofs.lemmas.Bool.{false≢true}
use Rattle.drv_table.specs.declared.content.Endpoint.{Endpoint}
use Rattle.drv_table.specs.declared.content.Transfer.{Transfer}
use Rattle.drv_table.specs.DriverContent.{DriverContent}
use Rattle.law_driver.specs.endpoint_lives.Lives.{told_end}
use Rattle.law_driver.specs.chained_transfers.Bulk.{OnlyBulk}
use Rattle.law_driver.specs.chained_transfers.Asynchronous.{StandsAsynchronous}
use Rattle.law_driver.specs.chained_transfers.Turns.{turn_of, AreInTurn}
use Rattle.law_driver.proofs.lemmas.chained_transfers.BulkAndControl.{standing}
use Rattle.law_driver.proofs.lemmas.chained_transfers.Staying.{told_stands_alive}

-- what isn't reported of an endpoint that goes on isn't given back
pub stands_unreleased : (d : DriverContent) (u : ℕ) (z : Transfer) (w : Endpoint) → StandsAsynchronous w → AreInTurn d → slice_get d.transfers u ≡ Some z → slice_get d.endpoints z.endpoint ≡ Some w → told_end w ≡ None
    → z.reported ≡ false → z.released ≡ false
stands_unreleased d u z w stands turns there here goes waits = by z.released refl
  where
    by : (b : Bool) → z.released ≡ b → z.released ≡ false
    by false is = is
    by true is =
        absurd (false≢true (sym waits ∙ turns.turns.told u (turn_of z) (ap (option_map turn_of) there)
        (record { endpoint = w; here = here; gone = told_stands_alive w stands goes }) is))

-- .. of a bulk one
pub unreleased : (d : DriverContent) (u : ℕ) (z : Transfer) (w : Endpoint) → OnlyBulk d → AreInTurn d → slice_get d.transfers u ≡ Some z → slice_get d.endpoints z.endpoint ≡ Some w → told_end w ≡ None
    → z.reported ≡ false → z.released ≡ false
unreleased d u z w bulk turns there here = stands_unreleased d u z w (standing w (bulk.endpoints z.endpoint w here)) turns there here

-- an endpoint with such a transfer wasn't given back
pub held_alive : (d : DriverContent) (t : ℕ) (y : Transfer) (x : Endpoint) → AreInTurn d → slice_get d.transfers t ≡ Some y → y.released ≡ false → slice_get d.endpoints y.endpoint ≡ Some x → x.gone ≡ false
held_alive d t y x turns there held here = by x.gone refl
  where
    by : (b : Bool) → x.gone ≡ b → x.gone ≡ false
    by false is = is
    by true is = absurd (false≢true (sym held ∙ (turns.returned t (turn_of y) x (ap (option_map turn_of) there) here is).released))
