-- Laws of what is sent to the OUT endpoints at high speed, whatever else is open (EHCI 1.0, 4.6 to 4.10).
--     NewWorldIsSent           before the first line nothing is published
--     ControllerKeepsSent, DriverKeepsSent, CommandKeepsSent
--                              each event and each command leaves it so
--     ScriptsAreSent, TextsAreSent
--                              so it is at each moment of each script
use Rattle.std.specs.Prelude.{ℕ, List}
use Rattle.usb_base.specs.declared.commands.Cmd.{Cmd}
use Rattle.script_types.specs.declared.scripts.Script.{Script}
use Rattle.script_text.specs.Faults.{Spells}
use Rattle.script_fits.specs.Fits.{IsFit}
use Rattle.bus_wire.specs.Bus.{Fixed, fixed_of}
use Rattle.drv_table.specs.Offers.{IsOffered}
use Rattle.law_scripts.specs.byte_answers.Bytes.{IsByteScript}
use Rattle.law_world.specs.memory.Opens.{OpensMixed}
use Rattle.law_world.specs.memory.PlacedLaws.{FitsMixed}
use Rattle.bus_world.specs.Budgets.{moment}
use Rattle.bus_world.specs.Opening.{opening_world}
use Rattle.bus_world.specs.World.{World, driver_next, controller_next, commanded}
use Rattle.law_reports.specs.pipes.Declared.{Sides, sides_of}
use Rattle.law_reports.specs.pipes.PipedLaws.{OpensDeclared, DeclaresOpens}
use Rattle.law_reports.specs.pipes.puts.Sent.{HasSent}

abbrev pub ControllerKeepsSent : Type 0
ControllerKeepsSent = (fixed : Fixed) (x : Sides) (w : World) → HasSent fixed x w → HasSent fixed x (controller_next fixed w)

abbrev pub DriverKeepsSent : Type 0
DriverKeepsSent = (fixed : Fixed) (x : Sides) (w : World) → HasSent fixed x w → HasSent fixed x (driver_next w)

abbrev pub CommandKeepsSent : Type 0
CommandKeepsSent = (fixed : Fixed) (x : Sides) (w : World) (line : ℕ) (cmd : Cmd) → OpensMixed cmd → OpensDeclared x cmd
    → IsOffered w.driver.room cmd → HasSent fixed x w → HasSent fixed x (commanded w line cmd)

abbrev pub NewWorldIsSent : Type 0
NewWorldIsSent = (s : Script) → IsFit s → IsByteScript s → HasSent (fixed_of s) (sides_of s) (opening_world s)

abbrev pub ScriptsAreSent : Type 0
ScriptsAreSent = (s : Script) → IsFit s → IsByteScript s → FitsMixed s → DeclaresOpens s → (k : ℕ)
    → HasSent (fixed_of s) (sides_of s) (moment s k).world

abbrev pub TextsAreSent : Type 0
TextsAreSent = (text : List ℕ) (s : Script) → Spells text s → (k : ℕ) → HasSent (fixed_of s) (sides_of s) (moment s k).world
