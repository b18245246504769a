-- What a driver of bulk and control endpoints has to give back while endpoints leave the ring (EHCI 1.0, 4.8.2).
--     AreOwedMet d            each transfer that was harvested and is to be given back belongs to an endpoint that a walk may still meet
--     IsClearing d            what the driver finds when it clears Async Advance: the doorbell was answered, and nothing is left that comes before
--     NewDriverOwesMet, EventsOweMet, CommandsOweMet, ClearFinds     the laws
--     ClearedAreUnmet, GoneAreUnmet     the laws: a walk can't meet an endpoint for which Async Advance was cleared, nor one that was given back
use Rattle.std.specs.Prelude.{◌≡◌, ℕ, true, false, [], slice_get, Some, None, Ok}
use Rattle.usb_base.specs.declared.commands.Cmd.{Cmd}
use Rattle.word_mem.specs.Memory.{Mem}
use Rattle.drv_table.specs.declared.content.Reserve.{Reserve}
use Rattle.drv_table.specs.declared.content.Endpoint.{Endpoint}
use Rattle.drv_table.specs.declared.content.Transfer.{Transfer}
use Rattle.drv_table.specs.declared.content.Bell.TheVariants as bells
use Rattle.drv_table.specs.declared.rows.DriverRow.TheVariants as rows
use Rattle.drv_table.specs.DriverContent.{DriverContent}
use Rattle.drv_table.specs.Opening.{opening}
use Rattle.drv_table.specs.Accepting.{Offered}
use Rattle.drv_table.specs.Offers.{offered}
use Rattle.drv_table.specs.Parts.{Parts}
use Rattle.drv_table.specs.Rows.{driver_row, after_driver_row}
use Rattle.law_driver.specs.endpoint_lives.Lives.{may_meet}
use Rattle.claims_driver.specs.Leaving.{HasOwners}
use Rattle.law_driver.specs.AsynchronousScripts.{OpensAsynchronous}
use Rattle.law_driver.specs.chained_transfers.AsynchronousTurns.{AsynchronousTakesTurns}

abbrev pub AreOwedMet : DriverContent → Type 0
AreOwedMet d = (i t : ℕ) (y : Transfer) (x : Endpoint) → slice_get d.harvested i ≡ Some t → slice_get d.transfers t ≡ Some y → slice_get d.endpoints y.endpoint ≡ Some x
    → may_meet d y.endpoint x ≡ true

abbrev pub NewDriverOwesMet : Type 0
NewDriverOwesMet = (n : ℕ) (room : Reserve) → AreOwedMet (opening n room).driver

abbrev pub EventsOweMet : Type 0
EventsOweMet = (p : Parts) → AsynchronousTakesTurns p.driver → AreOwedMet p.driver → AreOwedMet (after_driver_row (driver_row p) p).driver

abbrev pub CommandsOweMet : Type 0
CommandsOweMet = (d : DriverContent) (m : Mem) (cmd : Cmd) (o : Offered) → HasOwners d → AsynchronousTakesTurns d → OpensAsynchronous cmd → offered d m cmd ≡ Ok o → AreOwedMet d → AreOwedMet o.driver

-- the doorbell is 0 again once it was answered (4.8.2)
pub record IsClearing (d : DriverContent) : Type 0 where
  pub idle : d.command ≡ None
  pub heard : d.bell ≡ bells.Heard
  pub none_harvested : d.harvested ≡ []
  pub none_cleared : d.cleared ≡ []

abbrev pub ClearFinds : Type 0
ClearFinds = (p : Parts) → driver_row p ≡ rows.ClearAdvance → IsClearing p.driver

-- ---- whom a walk can't meet

abbrev pub ClearedAreUnmet : Type 0
ClearedAreUnmet = (d : DriverContent) (i e : ℕ) (x : Endpoint) → HasOwners d → slice_get d.cleared i ≡ Some e → slice_get d.endpoints e ≡ Some x → may_meet d e x ≡ false

abbrev pub GoneAreUnmet : Type 0
GoneAreUnmet = (d : DriverContent) (e : ℕ) (x : Endpoint) → HasOwners d → slice_get d.endpoints e ≡ Some x → x.gone ≡ true → may_meet d e x ≡ false
