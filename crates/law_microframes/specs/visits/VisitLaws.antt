-- Laws of the visits of the walk of the frames (EHCI 1.0, 4.6, 4.7 and 4.12): in one microframe it visits each structure at most once, also while members are linked and
-- unlinked.
--     VisitsMeetNow              those whose links lead down may be taken to be such that each may be met
--     NewIsVisiting              a world before its first line has visited nothing
--     ControllerKeepsVisiting    each event of the controller goes on with the visits
--     RowKeepsVisiting row       so does the driver's event where it is this row
--     DriverKeepsVisiting        .. and so each event of the driver
--     CommandKeepsVisiting       .. and each command, accepted or refused
--     ScriptsVisit               so the visits go on at each moment of the run of a script
--     TextsVisitEachOnce         the law
use Rattle.std.specs.Prelude.{◌≡◌, ℕ, List, []}
use Rattle.usb_base.specs.declared.commands.Cmd.{Cmd}
use Rattle.script_types.specs.declared.scripts.Script.{Script}
use Rattle.script_text.specs.Faults.{Spells}
use Rattle.script_fits.specs.Fits.{IsFit}
use Rattle.law_scripts.specs.byte_answers.Bytes.{IsByteScript}
use Rattle.drv_table.specs.declared.rows.DriverRow.{DriverRow}
use Rattle.drv_table.specs.Offers.{IsOffered}
use Rattle.drv_table.specs.Rows.{driver_row}
use Rattle.bus_wire.specs.Bus.{Fixed}
use Rattle.bus_world.specs.World.{World, driver_parts, driver_next, controller_parts, controller_row, controller_next, commanded}
use Rattle.bus_world.specs.Opening.{opening_world}
use Rattle.bus_world.specs.Budgets.{moment}
use Rattle.law_world.specs.memory.Mixed.{Standing, IsMixedAt}
use Rattle.law_world.specs.memory.Laws.{OpensMixed}
use Rattle.law_world.specs.memory.PlacedLaws.{FitsMixed}
use Rattle.law_microframes.specs.visits.Began.{began, began_by}
use Rattle.claims_world.specs.Visits.{visits_after, visited, VisitsEachOnce}
use Rattle.law_microframes.specs.visits.Visited.{VisitsGoOn, IsGoneOn, IsVisiting, VisitsGoOnAt}

abbrev pub VisitsMeetNow : Type 0
VisitsMeetNow = (s : Standing) (start w : World) (vs : List ℕ) → IsMixedAt s w → VisitsGoOn start w vs → VisitsGoOnAt s start w vs

-- ---- each event and command

abbrev pub NewIsVisiting : Type 0
NewIsVisiting = (s : Script) → IsFit s → IsByteScript s → IsVisiting (opening_world s) (opening_world s) []

abbrev pub ControllerKeepsVisiting : Type 0
ControllerKeepsVisiting = (fixed : Fixed) (start w : World) (vs : List ℕ) → IsVisiting start w vs
    → IsVisiting (began_by fixed w start) (controller_next fixed w) (visits_after (controller_row w) (controller_parts w) vs)

abbrev pub RowKeepsVisiting : DriverRow → Type 0
RowKeepsVisiting row = (s : Standing) (start w : World) (vs : List ℕ) → IsMixedAt s w → VisitsGoOnAt s start w vs → driver_row (driver_parts w) ≡ row
    → IsGoneOn start w (driver_next w) vs

abbrev pub DriverKeepsVisiting : Type 0
DriverKeepsVisiting = (start w : World) (vs : List ℕ) → IsVisiting start w vs → IsVisiting start (driver_next w) vs

abbrev pub CommandKeepsVisiting : Type 0
CommandKeepsVisiting = (start w : World) (line : ℕ) (cmd : Cmd) (vs : List ℕ) → OpensMixed cmd → IsOffered w.driver.room cmd → IsVisiting start w vs
    → IsVisiting start (commanded w line cmd) vs

-- ---- a run

abbrev pub ScriptsVisit : Type 0
ScriptsVisit = (s : Script) → IsFit s → IsByteScript s → FitsMixed s → (k : ℕ) → IsVisiting (began s k) (moment s k).world (visited s k)

abbrev pub TextsVisitEachOnce : Type 0
TextsVisitEachOnce = (text : List ℕ) (s : Script) → Spells text s → VisitsEachOnce s
