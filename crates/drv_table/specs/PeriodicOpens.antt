-- The open of a periodic endpoint, and the budgets of bus time (USB 2.0, 5.11.3 and 11.18; EHCI 1.0, 4.7 and 4.12).
--     PassesBefore d x   no command is unfinished, and no endpoint has its name
use Rattle.std.specs.Prelude.{◌≡◌, true, length, None}
use Rattle.usb_base.specs.declared.endpoints.EpDesc.{EpDesc}
use Rattle.bandwidth.specs.declared.placements.Want.{Want}
use Rattle.bandwidth.specs.Admission.{HasNone}
use Rattle.drv_periodic_table.specs.Periodic.{is_periodic, want_of}
use Rattle.drv_table.specs.DriverContent.{DriverContent, endpoint_named}

-- what it asks of the plan, under the number that it gets
abbrev pub asked : DriverContent → EpDesc → Want
asked d x = want_of (length d.endpoints) x

-- nothing refuses the open of this periodic endpoint before its placement is asked
pub record PassesBefore (d : DriverContent) (x : EpDesc) : Type 0 where
  pub idle : d.command ≡ None
  pub name : endpoint_named d x.name ≡ None
  pub kind : is_periodic x.kind ≡ true

-- each allowed placement breaks a budget beside what is placed
abbrev pub BreaksBudgets : DriverContent → EpDesc → Type 0
BreaksBudgets d x = HasNone d.periodic.plan.rules d.periodic.plan.placed (asked d x)
