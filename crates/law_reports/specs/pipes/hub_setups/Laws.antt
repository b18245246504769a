-- Laws of the requests that hubs hear (EHCI 1.0, 3.5, 4.8 and 4.10; USB 2.0, 8.5.3 and 11.24).
--     SetsUpFit a Q cmd        where the command makes a request to the device with the address a, Q holds of its setup bytes
--     IsFitBy fits setup       setup bytes that pass a test
--     ControllerKeepsHeeding, DriverKeepsHeeding, CommandKeepsHeeding
--                              each event, and each command whose setup bytes pass it, leaves a world that sets up only such so
--     HasControl s a setup     a `control` line of the script to this address has these setup bytes
--     HubsHearControls         the last request that a hub heard, at each moment of a script that a text spells, is one of its `control`
--                              lines to this hub
--     LinesSpareHubs           so the hub of endpoint x is spared at each moment, where no `control` line to it clears a buffer or resets a
--                              translator
use Rattle.std.specs.Prelude.{◌≡◌, ℕ, Bool, true, List, slice_get, Some}
use Rattle.std.specs.List.{AllByRecursion}
use Rattle.usb_base.specs.declared.commands.Cmd.{Cmd}
use Rattle.usb_base.specs.declared.commands.Cmd.TheVariants as commands
use Rattle.usb_base.specs.declared.endpoints.EpDesc.{EpDesc}
use Rattle.usb_base.specs.declared.endpoints.EpName.{EpName}
use Rattle.script_types.specs.declared.scripts.Line.TheVariants as lines
use Rattle.script_types.specs.declared.scripts.Script.{Script}
use Rattle.script_text.specs.Faults.{Spells}
use Rattle.dev_control.specs.Stages.{setup_of}
use Rattle.bus_wire.specs.Bus.{Fixed}
use Rattle.drv_table.specs.Offers.{IsOffered}
use Rattle.law_devices.specs.declared_controls.Requests.{AsksCommand}
use Rattle.law_scripts.specs.byte_answers.Bytes.{IsByteCommand}
use Rattle.law_world.specs.memory.Opens.{OpensMixed}
use Rattle.bus_world.specs.Budgets.{moment}
use Rattle.bus_world.specs.World.{World, driver_next, controller_next, commanded}
use Rattle.claims_world.specs.BelowStreams.{IsSparedAt, LeavesTranslator}
use Rattle.law_reports.specs.pipes.Declared.{Sides}
use Rattle.law_reports.specs.pipes.PipedLaws.{OpensDeclared}
use Rattle.law_reports.specs.pipes.hub_setups.Setups.{HasHeeding}

abbrev pub SetsUpFit : ℕ → (List ℕ → Type 0) → Cmd → Type 0
SetsUpFit a Q (commands.Control name setup bytes) = name.addr ≡ a → Q setup
SetsUpFit a Q _ = Unit {0}

abbrev pub IsFitBy : (List ℕ → Bool) → List ℕ → Type 0
IsFitBy fits setup = fits setup ≡ true

-- ---- each event and each command

abbrev pub ControllerKeepsHeeding : Type 0
ControllerKeepsHeeding = (fixed : Fixed) (x : Sides) (a : ℕ) (fits : List ℕ → Bool) (w : World) → HasHeeding fixed x a (IsFitBy fits) w
    → HasHeeding fixed x a (IsFitBy fits) (controller_next fixed w)

abbrev pub DriverKeepsHeeding : Type 0
DriverKeepsHeeding = (fixed : Fixed) (x : Sides) (a : ℕ) (fits : List ℕ → Bool) (w : World) → HasHeeding fixed x a (IsFitBy fits) w
    → HasHeeding fixed x a (IsFitBy fits) (driver_next w)

abbrev pub CommandKeepsHeeding : Type 0
CommandKeepsHeeding = (fixed : Fixed) (x : Sides) (a : ℕ) (fits : List ℕ → Bool) (w : World) (line : ℕ) (cmd : Cmd) → OpensMixed cmd
    → OpensDeclared x cmd → AsksCommand cmd → IsByteCommand cmd → SetsUpFit a (IsFitBy fits) cmd → IsOffered w.driver.room cmd
    → HasHeeding fixed x a (IsFitBy fits) w → HasHeeding fixed x a (IsFitBy fits) (commanded w line cmd)

-- ---- each moment

pub record HasControl (s : Script) (a : ℕ) (setup : List ℕ) : Type 0 where
  pub place : ℕ
  pub number : ℕ
  pub name : EpName
  pub bytes : List ℕ
  pub here : slice_get s.lines place ≡ Some (number, lines.Command (commands.Control name setup bytes))
  pub address : name.addr ≡ a

abbrev pub HubsHearControls : Type 0
HubsHearControls = (text : List ℕ) (s : Script) → Spells text s → (k : ℕ)
    → AllByRecursion (λ h. (setup : List ℕ) → setup_of h.control.request ≡ Some setup → HasControl s h.address setup)
    (moment s k).world.bus.hubs

abbrev pub LinesSpareHubs : Type 0
LinesSpareHubs = (text : List ℕ) (s : Script) (x : EpDesc) → Spells text s → LeavesTranslator s x → (k : ℕ) → IsSparedAt s x k
