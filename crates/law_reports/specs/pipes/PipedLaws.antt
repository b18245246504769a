-- Laws of the streams of the endpoints at high speed, beside all others (EHCI 1.0, 4.6 to 4.11; USB 2.0, 5.7, 5.8, 8.5 and 8.6).
--     OpensDeclared x cmd      an endpoint that the command opens is so described as the devices have it
--     ControllerKeepsPiped, DriverKeepsPiped, CommandKeepsPiped      each event and each command leaves the streams so
--     DeclaresOpens s          so described is each endpoint that a line of the script opens
--     TextsDeclare             so it is in each script that a text spells
--     NewWorldIsPiped          before the first line nothing moved
--     ScriptsArePiped, TextsArePiped      so it is at each moment of each script
use Rattle.std.specs.Prelude.{ℕ, List}
use Rattle.std.specs.List.{AllByRecursion}
use Rattle.usb_base.specs.declared.commands.Cmd.{Cmd}
use Rattle.usb_base.specs.declared.commands.Cmd.TheVariants as commands
use Rattle.script_types.specs.declared.scripts.Script.{Script}
use Rattle.script_fits.specs.Fits.{IsFit}
use Rattle.script_text.specs.Faults.{Spells}
use Rattle.bus_wire.specs.Bus.{Fixed, fixed_of}
use Rattle.drv_table.specs.Offers.{IsOffered}
use Rattle.law_scripts.specs.byte_answers.Bytes.{IsByteScript}
use Rattle.law_world.specs.steps.receiving_runs.Runs.{KindOfLine}
use Rattle.law_world.specs.memory.Opens.{OpensMixed}
use Rattle.law_world.specs.memory.PlacedLaws.{FitsMixed}
use Rattle.bus_world.specs.Budgets.{moment}
use Rattle.bus_world.specs.Opening.{opening_world}
use Rattle.bus_world.specs.World.{World, driver_next, controller_next, commanded}
use Rattle.law_reports.specs.pipes.Declared.{Sides, sides_of, IsDeclared}
use Rattle.law_reports.specs.pipes.Piped.{HasPiped}

abbrev pub OpensDeclared : Sides → Cmd → Type 0
OpensDeclared x (commands.OpenEp desc) = IsDeclared x desc
OpensDeclared x _ = Unit {0}

abbrev pub ControllerKeepsPiped : Type 0
ControllerKeepsPiped = (fixed : Fixed) (x : Sides) (w : World) → HasPiped fixed x w → HasPiped fixed x (controller_next fixed w)

abbrev pub DriverKeepsPiped : Type 0
DriverKeepsPiped = (fixed : Fixed) (x : Sides) (w : World) → HasPiped fixed x w → HasPiped fixed x (driver_next w)

abbrev pub CommandKeepsPiped : Type 0
CommandKeepsPiped = (fixed : Fixed) (x : Sides) (w : World) (line : ℕ) (cmd : Cmd) → OpensMixed cmd → OpensDeclared x cmd
    → IsOffered w.driver.room cmd → HasPiped fixed x w → HasPiped fixed x (commanded w line cmd)

-- ---- a script

abbrev pub DeclaresOpens : Script → Type 0
DeclaresOpens s = AllByRecursion (λ line. KindOfLine (OpensDeclared (sides_of s)) line.1) s.lines

abbrev pub TextsDeclare : Type 0
TextsDeclare = (text : List ℕ) (s : Script) → Spells text s → DeclaresOpens s

abbrev pub NewWorldIsPiped : Type 0
NewWorldIsPiped = (s : Script) → IsFit s → IsByteScript s → HasPiped (fixed_of s) (sides_of s) (opening_world s)

abbrev pub ScriptsArePiped : Type 0
ScriptsArePiped = (s : Script) → IsFit s → IsByteScript s → FitsMixed s → DeclaresOpens s → (k : ℕ)
    → HasPiped (fixed_of s) (sides_of s) (moment s k).world

abbrev pub TextsArePiped : Type 0
TextsArePiped = (text : List ℕ) (s : Script) → Spells text s → (k : ℕ) → HasPiped (fixed_of s) (sides_of s) (moment s k).world
