-- The requests of control endpoints at high speed, in a world with endpoints of every kind: each event and each command leaves them as they
-- must stand (EHCI 1.0, 4.8,
-- 4.10; USB 2.0, 8.5.3).
--     NewWorldHighAsks          before the first line there is none
--     DriverKeepsHighAsks       each event of the driver
--     ControllerKeepsHighAsks   each event of the controller
--     CommandKeepsHighAsks      each command
--     TextsHaveHighAsks         so it is at each moment of each script that a text spells
use Rattle.std.specs.Prelude.{ℕ, List}
use Rattle.usb_base.specs.declared.commands.Cmd.{Cmd}
use Rattle.script_types.specs.declared.scripts.Script.{Script}
use Rattle.script_fits.specs.Fits.{IsFit}
use Rattle.script_text.specs.Faults.{Spells}
use Rattle.bus_wire.specs.Bus.{Fixed, fixed_of}
use Rattle.bus_world.specs.Budgets.{moment}
use Rattle.bus_world.specs.Opening.{opening_world}
use Rattle.bus_world.specs.World.{World, driver_next, controller_next, commanded}
use Rattle.claims_report.specs.Requests.{Request}
use Rattle.claims_world.specs.Requests.{Windows, no_windows, no_asks, asks_then, after_event, windows_at, asks_at}
use Rattle.drv_table.specs.Offers.{IsOffered}
use Rattle.law_scripts.specs.byte_answers.Bytes.{IsByteCommand, IsByteScript}
use Rattle.law_world.specs.memory.Opens.{OpensMixed}
use Rattle.law_reports.specs.pipes.Declared.{Sides as Pipes, sides_of}
use Rattle.law_reports.specs.pipes.PipedLaws.{OpensDeclared}
use Rattle.law_reports.specs.requests.Asking.{Sides}
use Rattle.law_reports.specs.requests.AskingLaws.{IsFirst}
use Rattle.law_reports.specs.requests.HighAsking.{AsksHigh, SuitsCommand, HasHighAsks}
use Rattle.law_reports.specs.requests.HighGiven.{high_sides_of}

abbrev pub NewWorldHighAsks : Type 0
NewWorldHighAsks = (s : Script) (g : Sides) → IsFit s → IsByteScript s → IsFirst s g
    → HasHighAsks g (fixed_of s) (sides_of s) no_windows no_asks (opening_world s)

abbrev pub DriverKeepsHighAsks : Type 0
DriverKeepsHighAsks = (g : Sides) (fixed : Fixed) (x : Pipes) (v : Windows) (asks : ℕ → Request) (w : World)
    → HasHighAsks g fixed x v asks w
    → HasHighAsks g fixed x v asks (driver_next w)

abbrev pub ControllerKeepsHighAsks : Type 0
ControllerKeepsHighAsks = (g : Sides) (fixed : Fixed) (x : Pipes) (v : Windows) (asks : ℕ → Request) (w : World) → AsksHigh g
    → HasHighAsks g fixed x v asks w
    → HasHighAsks g fixed x (after_event fixed w v) asks (controller_next fixed w)

abbrev pub CommandKeepsHighAsks : Type 0
CommandKeepsHighAsks = (g : Sides) (fixed : Fixed) (x : Pipes) (v : Windows) (asks : ℕ → Request) (w : World) (line : ℕ) (cmd : Cmd)
    → OpensMixed cmd → OpensDeclared x cmd → SuitsCommand g cmd → IsByteCommand cmd → IsOffered w.driver.room cmd
    → HasHighAsks g fixed x v asks w → HasHighAsks g fixed x v (asks_then w.driver cmd asks) (commanded w line cmd)

abbrev pub TextsHaveHighAsks : Type 0
TextsHaveHighAsks = (text : List ℕ) (s : Script) → Spells text s → (k : ℕ)
    → HasHighAsks (high_sides_of s) (fixed_of s) (sides_of s) (windows_at s k) (asks_at s k) (moment s k).world
