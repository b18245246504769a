-- Drivers of bulk endpoints none of which leaves the ring (EHCI 1.0, 4.8.2).
--     IsAcceptedAs d m o cmd   what the command does where it is accepted: an endpoint more, a get or put of an endpoint, or an endpoint that is to leave
--     CommandIsAccepted        the law
--     NothingLeaves d          no endpoint leaves, has left or is to leave
--     NewDriverStays, NothingStartsToLeave, NothingIsTakenAway     the laws: without a cancel it stays so
use Rattle.std.specs.Prelude.{◌≡◌, ℕ, true, false, [], slice_get, Some, None, Ok}
use Rattle.usb_base.specs.declared.commands.Cmd.{Cmd}
use Rattle.usb_base.specs.declared.commands.Cmd.TheVariants as commands
use Rattle.word_mem.specs.Memory.{Mem}
use Rattle.mem_runs.specs.Book.{holding, Stands}
use Rattle.drv_table.specs.declared.content.Reserve.{Reserve}
use Rattle.drv_table.specs.declared.content.Endpoint.{Endpoint}
use Rattle.drv_table.specs.DriverContent.{DriverContent}
use Rattle.drv_table.specs.Opening.{opening}
use Rattle.drv_table.specs.Accepting.{Offered}
use Rattle.drv_table.specs.Offers.{offered}
use Rattle.drv_table.specs.Parts.{Parts}
use Rattle.drv_table.specs.Rows.{driver_row, after_driver_row}
use Rattle.claims_driver.specs.Leaving.{leaver, HasOwners}
use Rattle.law_driver.specs.run_owners.Accepts.{Cancels}
use Rattle.law_driver.specs.chained_transfers.Bulk.{OpensBulk, OpensOrCancelsBulk}
use Rattle.law_driver.specs.chained_transfers.Accepted.{IsAccepted}
use Rattle.law_driver.specs.chained_transfers.InTurn.{TakesTurns}

-- what the command does where it is accepted
abbrev pub IsAcceptedAs : DriverContent → Mem → Offered → Cmd → Type 0
IsAcceptedAs d m o (commands.Cancel name) = Cancels d m o
IsAcceptedAs d m o _ = IsAccepted d m o

abbrev pub CommandIsAccepted : Type 0
CommandIsAccepted = (d : DriverContent) (m : Mem) (cmd : Cmd) (o : Offered) → Stands (holding d.book m) → HasOwners d → TakesTurns d → OpensOrCancelsBulk cmd → offered d m cmd ≡ Ok o
    → IsAcceptedAs d m o cmd

pub record IsStaying (x : Endpoint) : Type 0 where
  pub cancelled : x.cancelled ≡ false
  pub linked : x.linked ≡ true
  pub gone : x.gone ≡ false

pub record NothingLeaves (d : DriverContent) : Type 0 where
  pub endpoints : (e : ℕ) (x : Endpoint) → slice_get d.endpoints e ≡ Some x → IsStaying x
  pub command : leaver d.command ≡ None
  pub waiting : d.waiting ≡ []
  pub rung : d.rung ≡ []
  pub cleared : d.cleared ≡ []

-- ---- the laws

abbrev pub NewDriverStays : Type 0
NewDriverStays = (n : ℕ) (room : Reserve) → NothingLeaves (opening n room).driver

abbrev pub NothingStartsToLeave : Type 0
NothingStartsToLeave = (p : Parts) → HasOwners p.driver → TakesTurns p.driver → NothingLeaves p.driver → NothingLeaves (after_driver_row (driver_row p) p).driver

abbrev pub NothingIsTakenAway : Type 0
NothingIsTakenAway = (d : DriverContent) (m : Mem) (cmd : Cmd) (o : Offered) → Stands (holding d.book m) → HasOwners d → TakesTurns d → NothingLeaves d → OpensBulk cmd → offered d m cmd ≡ Ok o
    → NothingLeaves o.driver
