-- The budgets of the periodic endpoints along a run whose driver may be at a job: as Budgets has it, for every script.
--     AdmitsExactlyAtWork rules p    at this place of a run placements follow these rules, and all that is placed fits; and where the next
--                                    order is the open of a periodic endpoint that passes the checks before, and no job is under way, it is
--                                    refused for want of a placement exactly where no allowed one fits
--     AdmitsAtWork s                 at each moment of the run of a script
use Rattle.std.specs.Prelude.{◌≡◌, ◌↔◌, ℕ, List, ◌∷◌, None, Err}
use Rattle.usb_base.specs.declared.endpoints.EpDesc.{EpDesc}
use Rattle.usb_base.specs.declared.rules.Rules.{Rules}
use Rattle.usb_base.specs.declared.commands.Cmd.TheVariants.{OpenEp}
use Rattle.usb_base.specs.declared.reports.OfferError.TheVariants.{NoPlacement}
use Rattle.script_types.specs.declared.scripts.Script.{Script}
use Rattle.bandwidth.specs.Sums.{Fits}
use Rattle.drv_table.specs.PeriodicOpens.{PassesBefore, BreaksBudgets}
use Rattle.drv_jobs.specs.JobOffers.{offered_any}
use Rattle.bus_world.specs.Rooms.{rules_of}
use Rattle.bus_world.specs.Orders.{Left, Command}
use Rattle.bus_world.specs.AtWork.{WorldAtWork, driver_of}
use Rattle.bus_world.specs.RunsAtWork.{PlaceAtWork, moment_at_work}

abbrev pub IsRefusedExactlyAtWork : WorldAtWork → EpDesc → Type 0
IsRefusedExactlyAtWork w x = (offered_any (driver_of w) w.world.memory (OpenEp x) ≡ Err NoPlacement) ↔ BreaksBudgets w.world.driver x

pub record AdmitsExactlyAtWork (rules : Rules) (p : PlaceAtWork) : Type 0 where
  pub rules_stand : p.work.world.driver.periodic.plan.rules ≡ rules
  pub fits : Fits p.work.world.driver.periodic.plan.placed
  pub refused : (n : ℕ) (x : EpDesc) (rest : List Left) → p.orders ≡ Command n (OpenEp x) ∷ rest → p.work.job ≡ None
      → PassesBefore p.work.world.driver x → IsRefusedExactlyAtWork p.work x

abbrev pub AdmitsAtWork : Script → Type 0
AdmitsAtWork s = (k : ℕ) → AdmitsExactlyAtWork (rules_of s) (moment_at_work s k)
