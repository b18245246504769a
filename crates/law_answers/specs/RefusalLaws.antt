-- What becomes of a command that is offered to a driver (EHCI 1.0, 4.8): it is refused for the first cause that stands, or none stands.
--     PlansExactly d m cmd     the open of a periodic endpoint that passes the checks before is refused for want of a placement
--                              exactly where each allowed one breaks a budget
--     IsAnswered d m cmd r     the refusal r is for the first cause that stands; where the command is accepted none does
--     CommandsAreAnswered      the law
use Rattle.std.specs.Prelude.{◌≡◌, ◌↔◌, Result, Ok, Err}
use Rattle.usb_base.specs.declared.commands.Cmd.{Cmd}
use Rattle.usb_base.specs.declared.commands.Cmd.TheVariants.{OpenEp}
use Rattle.usb_base.specs.declared.endpoints.EpDesc.{EpDesc}
use Rattle.usb_base.specs.declared.reports.OfferError.{OfferError}
use Rattle.usb_base.specs.declared.reports.OfferError.TheVariants.{NoPlacement}
use Rattle.word_mem.specs.Memory.{Mem}
use Rattle.drv_table.specs.Accepting.{Offered}
use Rattle.drv_table.specs.DriverContent.{DriverContent}
use Rattle.drv_table.specs.Offers.{offered}
use Rattle.drv_table.specs.PeriodicOpens.{PassesBefore, BreaksBudgets}
use Rattle.claims_answers.specs.Refusals.{IsFirstCause, HasNoCause}

abbrev pub PlansExactly : DriverContent → Mem → Cmd → Type 0
PlansExactly d m cmd = (x : EpDesc) → cmd ≡ OpenEp x → PassesBefore d x → (offered d m (OpenEp x) ≡ Err NoPlacement) ↔ BreaksBudgets d x

abbrev pub IsAnswered : DriverContent → Mem → Cmd → Result Offered OfferError → Type 0
IsAnswered d m cmd (Err why) = IsFirstCause d m cmd why
IsAnswered d m cmd (Ok o) = HasNoCause d m cmd

abbrev pub CommandsAreAnswered : Type 0
CommandsAreAnswered = (d : DriverContent) (m : Mem) (cmd : Cmd) → PlansExactly d m cmd → IsAnswered d m cmd (offered d m cmd)
