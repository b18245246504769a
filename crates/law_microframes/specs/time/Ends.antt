-- Each microframe of a run ends (EHCI 1.0, 4.4, 4.6 and 4.8.3): the events of the controller in it are no more than were counted before it, so no run stops in one that goes on.
--     CarriesOutAll s          so each run of it carries out all its lines
--     TextsEndMicroframes, TextsCarryOutAll     the laws, of each script that a text spells
--     TimeIsKept s             at each moment no walk has more time left than a microframe has
--     ScriptsKeepTime          the law, of each script
use Rattle.std.specs.Prelude.{ℕ, List, []}
use Rattle.script_types.specs.declared.scripts.Script.{Script}
use Rattle.script_text.specs.Faults.{Spells}
use Rattle.bus_wire.specs.Bus.{fixed_of}
use Rattle.bus_world.specs.World.{World}
use Rattle.bus_world.specs.Budgets.{moment}
use Rattle.bus_world.specs.Opening.{opening_world}
use Rattle.bus_world.specs.Orders.{Leads, at_place, orders_of, IsRun}
use Rattle.law_microframes.specs.time.Ahead.{IsWithinTime}
use Rattle.claims_world.specs.Microframes.{MicroframesEnd}

abbrev pub CarriesOutAll : Script → Type 0
CarriesOutAll s = (w : World) → IsRun (fixed_of s) (opening_world s) (orders_of s.lines) w
    → Leads (fixed_of s) (at_place (opening_world s) (orders_of s.lines)) (at_place w [])

abbrev pub TextsEndMicroframes : Type 0
TextsEndMicroframes = (text : List ℕ) (s : Script) → Spells text s → MicroframesEnd s

abbrev pub TextsCarryOutAll : Type 0
TextsCarryOutAll = (text : List ℕ) (s : Script) → Spells text s → CarriesOutAll s

-- ---- the time of a microframe

abbrev pub TimeIsKept : Script → Type 0
TimeIsKept s = (k : ℕ) → IsWithinTime (moment s k).world

abbrev pub ScriptsKeepTime : Type 0
ScriptsKeepTime = (s : Script) → TimeIsKept s
