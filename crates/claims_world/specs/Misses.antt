-- Missed Micro-Frame is told of a split transaction alone: of a complete-split that didn't come in its microframe (EHCI 1.0, 3.5.3 and
-- 4.12.2.4), so never of an endpoint at high speed.
--     IsLineOf d line P          the line is of an endpoint of the driver that is so described
--     MissesAreBelow d           each line that tells a missed microframe is of an endpoint at low or full speed
--     MissesAreBelowThroughout   so it is at each moment of the run of a script
use Rattle.std.specs.Prelude.{◌≡◌, ℕ, false, slice_get, Some}
use Rattle.usb_base.specs.declared.endpoints.EpDesc.{EpDesc}
use Rattle.usb_base.specs.declared.reports.Report.{Report}
use Rattle.usb_base.specs.declared.reports.What.TheVariants as lines
use Rattle.script_types.specs.declared.scripts.Script.{Script}
use Rattle.drv_table.specs.declared.content.Endpoint.{Endpoint}
use Rattle.drv_table.specs.DriverContent.{DriverContent}
use Rattle.drv_table.specs.Words.{is_high}
use Rattle.bus_world.specs.Budgets.{moment}

pub record IsLineOf (d : DriverContent) (line : Report) (P : EpDesc → Type 0) : Type 0 where
  pub number : ℕ
  pub endpoint : Endpoint
  pub here : slice_get d.endpoints number ≡ Some endpoint
  pub name : line.name ≡ endpoint.desc.name
  pub so : P endpoint.desc

abbrev pub MissesAreBelow : DriverContent → Type 0
MissesAreBelow d = (i : ℕ) (line : Report) → slice_get d.reports i ≡ Some line → line.what ≡ lines.Miss
    → IsLineOf d line (λ x. is_high x.speed ≡ false)

abbrev pub MissesAreBelowThroughout : Script → Type 0
MissesAreBelowThroughout s = (k : ℕ) → MissesAreBelow (moment s k).world.driver
