-- Laws of high-speed endpoints whose packets all get through (EHCI 1.0, 3.5.3 and 4.10.3; USB 2.0, 8.4 and 8.5).
--     OpeningIsHeard, AskKeepsHeard, BeginKeepsHeard      what is known of the bus stands before the first line, and after each ask and
--                                each beginning of a microframe
--     ControllerKeepsHeard, DriverKeepsHeard      what is known of the world stands after each event
--     TextsAreHeard              so it is at each moment of each script whose packets on the high-speed bus all get through
--     TextsFailBelow             so each line that tells a halt by errors is of an endpoint below a hub
use Rattle.std.specs.Prelude.{ℕ, List}
use Rattle.usb_base.specs.declared.packets.Ask.{Ask}
use Rattle.script_types.specs.declared.scripts.Script.{Script}
use Rattle.script_text.specs.Faults.{Spells}
use Rattle.bus_wire.specs.Bus.{Bus, fixed_of, opening_bus, transact_after, begin_after}
use Rattle.claims_world.specs.Quiet.{IsHeardAbove, ErrorsAreBelowThroughout}
use Rattle.bus_world.specs.Budgets.{moment}
use Rattle.bus_world.specs.World.{World, driver_next, controller_next}
use Rattle.law_reports.specs.quiet.Heard.{IsHeardBus, IsHeardWorld}

-- ---- the bus

abbrev pub AskKeepsHeard : Type 0
AskKeepsHeard = (s : Script) (b : Bus) → IsHeardBus s b → (ask : Ask) (out : List ℕ) → IsHeardBus s (transact_after (fixed_of s) b ask out)

abbrev pub BeginKeepsHeard : Type 0
BeginKeepsHeard = (s : Script) (b : Bus) → IsHeardBus s b → (frindex : ℕ) → IsHeardBus s (begin_after (fixed_of s) frindex b)

abbrev pub OpeningIsHeard : Type 0
OpeningIsHeard = (s : Script) → IsHeardAbove s → IsHeardBus s (opening_bus s)

-- ---- the world

abbrev pub ControllerKeepsHeard : Type 0
ControllerKeepsHeard = (text : List ℕ) (s : Script) → Spells text s → IsHeardAbove s → (w : World) → IsHeardWorld s w
    → IsHeardWorld s (controller_next (fixed_of s) w)

abbrev pub DriverKeepsHeard : Type 0
DriverKeepsHeard = (s : Script) (w : World) → IsHeardWorld s w → IsHeardWorld s (driver_next w)

abbrev pub TextsAreHeard : Type 0
TextsAreHeard = (text : List ℕ) (s : Script) → Spells text s → IsHeardAbove s → (k : ℕ) → IsHeardWorld s (moment s k).world

-- ---- lines

abbrev pub TextsFailBelow : Type 0
TextsFailBelow = (text : List ℕ) (s : Script) → Spells text s → IsHeardAbove s → ErrorsAreBelowThroughout s
