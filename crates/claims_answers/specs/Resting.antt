-- When a driver may rest (EHCI 1.0, 4.6 to 4.8 and 4.10): nothing that it was asked for is left to be done.
--     IsOfGoing d t y    y is transfer t, and is one of an endpoint that hasn't ended
--     IsAllDone d        each endpoint that was cancelled is given back; and of each endpoint that hasn't ended all that was
--                        asked for has its line, and its blocks are given back
--     MayRest d          no command is unfinished, and it is so
--     RestsOnlyWhenDone p   where the driver's next event is Rest, it may
use Rattle.std.specs.Prelude.{◌≡◌, ℕ, true, slice_get, Some, None}
use Rattle.drv_table.specs.declared.content.Endpoint.{Endpoint}
use Rattle.drv_table.specs.declared.content.Transfer.{Transfer}
use Rattle.drv_table.specs.declared.rows.DriverRow.TheVariants.{Rest}
use Rattle.drv_table.specs.DriverContent.{DriverContent}
use Rattle.drv_table.specs.Parts.{Parts}
use Rattle.drv_table.specs.Rows.{driver_row}

-- a transfer with qTDs, a request, or an isochronous descriptor
pub record IsOfGoing (d : DriverContent) (t : ℕ) (y : Transfer) : Type 0 where
  pub there : slice_get d.transfers t ≡ Some y
  pub endpoint : Endpoint
  pub here : slice_get d.endpoints y.endpoint ≡ Some endpoint
  pub going : endpoint.ended ≡ None

pub record IsAllDone (d : DriverContent) : Type 0 where
  pub cancelled : (e : ℕ) (x : Endpoint) → slice_get d.endpoints e ≡ Some x → x.cancelled ≡ true → x.gone ≡ true
  pub told : (t : ℕ) (y : Transfer) → IsOfGoing d t y → y.reported ≡ true
  pub returned : (t : ℕ) (y : Transfer) → IsOfGoing d t y → y.released ≡ true

pub record MayRest (d : DriverContent) : Type 0 where
  pub commands : d.command ≡ None
  pub done : IsAllDone d

abbrev pub RestsOnlyWhenDone : Parts → Type 0
RestsOnlyWhenDone p = driver_row p ≡ Rest → MayRest p.driver
