-- What a driver's commands and events do to the placements of its periodic endpoints (USB 2.0, 5.11.3 and 11.18; EHCI 1.0, 4.7 and 4.12).
--     Account              the plan, and how many endpoints more may be opened
--     account_of d         those of a driver
--     KeepsBudgets a       each sum of the plan is within its budget, and it has room for what may be opened
--     account_after row d  those after an event: the release of what a cancelled endpoint had takes its placement out, and no other
--                          event changes the plan
use Rattle.std.specs.Prelude.{ℕ, ◌+◌, ◌≤◌, length, slice_get, Option, Some, None}
use Rattle.bandwidth.specs.Sums.{Fits}
use Rattle.bandwidth.specs.Admission.{Admissions, without}
use Rattle.drv_periodic_table.specs.declared.content.Removed.TheVariants as removed
use Rattle.drv_table.specs.declared.content.Endpoint.{Endpoint}
use Rattle.drv_table.specs.declared.rows.DriverRow.{DriverRow}
use Rattle.drv_table.specs.declared.rows.DriverRow.TheVariants as rows
use Rattle.drv_table.specs.DriverContent.{DriverContent}

pub record Account : Type 0 where
  pub plan : Admissions
  pub endpoints : ℕ

abbrev pub account_of : DriverContent → Account
account_of d = record { plan = d.periodic.plan; endpoints = d.room.endpoints }

pub record KeepsBudgets (a : Account) : Type 0 where
  pub fits : Fits a.plan.placed
  pub room : length a.plan.placed + a.endpoints ≤ a.plan.room

-- the endpoint of this number isn't placed any more
abbrev pub taken_out : Account → ℕ → Option Endpoint → Account
taken_out a e None = a
taken_out a e (Some x) = record a { plan = without a.plan e }

abbrev pub account_after : DriverRow → DriverContent → Account
account_after (rows.ReleaseRemoved (removed.Endpoint e)) d = taken_out (account_of d) e (slice_get d.endpoints e)
account_after _ d = account_of d
