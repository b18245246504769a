-- Runs of scripts of which each command is of some kind: what each event keeps, and each such command, holds at each moment.
--     KindOfLine can l             a line's command, if any, can be of this kind
--     IsKeptBy fixed can holds     what holds of worlds is kept by each event, and by each such command for which there is room
--     HoldsThroughout can holds    the law
use Rattle.std.specs.Prelude.{ℕ}
use Rattle.std.specs.List.{AllByRecursion}
use Rattle.usb_base.specs.declared.commands.Cmd.{Cmd}
use Rattle.script_types.specs.declared.scripts.Line.{Line}
use Rattle.script_types.specs.declared.scripts.Line.TheVariants as lines
use Rattle.script_types.specs.declared.scripts.Script.{Script}
use Rattle.script_fits.specs.Fits.{IsFit}
use Rattle.bus_wire.specs.Bus.{Fixed, fixed_of}
use Rattle.drv_table.specs.Offers.{IsOffered}
use Rattle.bus_world.specs.World.{World, driver_next, controller_next, commanded}
use Rattle.bus_world.specs.Opening.{opening_world}
use Rattle.bus_world.specs.Budgets.{moment}

abbrev pub KindOfLine : (Cmd → Type 0) → Line → Type 0
KindOfLine can (lines.Command cmd) = can cmd
KindOfLine can _ = Unit {0}

pub record IsKeptBy (fixed : Fixed) (can : Cmd → Type 0) (holds : World → Type 0) : Type 0 where
  pub driver : (w : World) → holds w → holds (driver_next w)
  pub controller : (w : World) → holds w → holds (controller_next fixed w)
  pub command : (w : World) (line : ℕ) (cmd : Cmd) → can cmd → IsOffered w.driver.room cmd → holds w → holds (commanded w line cmd)

abbrev pub HoldsThroughout : (Cmd → Type 0) → (World → Type 0) → Type 0
HoldsThroughout can holds = (s : Script) → IsFit s → AllByRecursion (λ line. KindOfLine can line.1) s.lines → holds (opening_world s) → IsKeptBy (fixed_of s) can holds
    → (k : ℕ) → holds (moment s k).world
