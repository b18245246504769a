-- The open of a periodic endpoint.
--     IsPlaced d x o          o stands once it was accepted: it has the best placement that fits beside what is placed
--     AccountAfter d cmd o    the plan and the room once a command was accepted: only the open of a periodic endpoint places anything
use Rattle.std.specs.Prelude.{◌≡◌, ℕ, ◌-◌, Bool, true, false, [], ◌∷◌, ◌++◌}
use Rattle.usb_base.specs.declared.endpoints.EpDesc.{EpDesc}
use Rattle.usb_base.specs.declared.commands.Cmd.{Cmd}
use Rattle.usb_base.specs.declared.commands.Cmd.TheVariants as commands
use Rattle.bandwidth.specs.declared.placements.Placement.{Placement}
use Rattle.bandwidth.specs.Admission.{IsBest}
use Rattle.drv_periodic_table.specs.Periodic.{is_periodic}
use Rattle.drv_table.specs.DriverContent.{DriverContent}
use Rattle.drv_table.specs.Accepting.{Offered}
use Rattle.drv_table.specs.Offers.{placed_endpoint, with_placement}
use Rattle.law_admission.specs.Budgets.{account_of}
use Rattle.drv_table.specs.PeriodicOpens.{asked}

pub record IsPlaced (d : DriverContent) (x : EpDesc) (o : Offered) : Type 0 where
  pub placement : Placement
  pub queue : ℕ
  pub dummy : ℕ
  pub best : IsBest d.periodic.plan.rules d.periodic.plan.placed (asked d x) placement
  pub account : account_of o.driver ≡ record { plan = with_placement d x placement; endpoints = d.room.endpoints - 1 }
  pub endpoints : o.driver.endpoints ≡ d.endpoints ++ placed_endpoint x placement queue dummy ∷ []

-- by whether the endpoint is periodic
abbrev pub OpenAfter : DriverContent → EpDesc → Offered → Bool → Type 0
OpenAfter d x o true = IsPlaced d x o
OpenAfter d x o false = account_of o.driver ≡ record { plan = d.periodic.plan; endpoints = d.room.endpoints - 1 }

abbrev pub AccountAfter : DriverContent → Cmd → Offered → Type 0
AccountAfter d (commands.OpenEp x) o = OpenAfter d x o (is_periodic x.kind)
AccountAfter d _ o = account_of o.driver ≡ account_of d
