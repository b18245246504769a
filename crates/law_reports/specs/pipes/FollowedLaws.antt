-- Laws of the streams of the endpoints at high speed, with those that left the schedule and those that were given back (EHCI 1.0, 4.8.2).
--     NewWorldIsFollowed       before the first line nothing moved
--     ControllerKeepsFollowed, DriverKeepsFollowed, CommandKeepsFollowed      each event and each command leaves the streams so
--     ScriptsAreFollowed, TextsAreFollowed      so it is at each moment of each script
use Rattle.std.specs.Prelude.{ℕ, List}
use Rattle.usb_base.specs.declared.commands.Cmd.{Cmd}
use Rattle.script_types.specs.declared.scripts.Script.{Script}
use Rattle.script_text.specs.Faults.{Spells}
use Rattle.script_fits.specs.Fits.{IsFit}
use Rattle.bus_wire.specs.Bus.{Fixed, fixed_of}
use Rattle.drv_table.specs.Offers.{IsOffered}
use Rattle.law_scripts.specs.byte_answers.Bytes.{IsByteScript}
use Rattle.law_world.specs.memory.Opens.{OpensMixed}
use Rattle.law_world.specs.memory.PlacedLaws.{FitsMixed}
use Rattle.bus_world.specs.Budgets.{moment}
use Rattle.bus_world.specs.Opening.{opening_world}
use Rattle.bus_world.specs.World.{World, driver_next, controller_next, commanded}
use Rattle.law_reports.specs.pipes.Declared.{Sides, sides_of}
use Rattle.law_reports.specs.pipes.Piped.{HasFollowed}
use Rattle.law_reports.specs.pipes.PipedLaws.{OpensDeclared, DeclaresOpens}

abbrev pub ControllerKeepsFollowed : Type 0
ControllerKeepsFollowed = (fixed : Fixed) (x : Sides) (w : World) → HasFollowed fixed x w → HasFollowed fixed x (controller_next fixed w)

abbrev pub DriverKeepsFollowed : Type 0
DriverKeepsFollowed = (fixed : Fixed) (x : Sides) (w : World) → HasFollowed fixed x w → HasFollowed fixed x (driver_next w)

abbrev pub CommandKeepsFollowed : Type 0
CommandKeepsFollowed = (fixed : Fixed) (x : Sides) (w : World) (line : ℕ) (cmd : Cmd) → OpensMixed cmd → OpensDeclared x cmd
    → IsOffered w.driver.room cmd → HasFollowed fixed x w → HasFollowed fixed x (commanded w line cmd)

abbrev pub NewWorldIsFollowed : Type 0
NewWorldIsFollowed = (s : Script) → IsFit s → IsByteScript s → HasFollowed (fixed_of s) (sides_of s) (opening_world s)

abbrev pub ScriptsAreFollowed : Type 0
ScriptsAreFollowed = (s : Script) → IsFit s → IsByteScript s → FitsMixed s → DeclaresOpens s → (k : ℕ)
    → HasFollowed (fixed_of s) (sides_of s) (moment s k).world

abbrev pub TextsAreFollowed : Type 0
TextsAreFollowed = (text : List ℕ) (s : Script) → Spells text s → (k : ℕ) → HasFollowed (fixed_of s) (sides_of s) (moment s k).world
