-- Laws of worlds with endpoints of every kind: each event and each command leaves such a world one, everything is in place, and the controller meets no fault.
--     NewWorldIsMixed            the world of each script of bytes is one before its first line
--     ControllerKeepsMixed       each event of the controller leaves it one
--     ControllerTellsEvent       .. with the standing that what the event does leads to
--     RowKeepsMixed row          so does the driver's event where it is this row, by a step of its queues
--     DriverTellsStep            .. and so each event of the driver
--     DriverKeepsMixed           .. which leaves it one
--     CommandKeepsMixed          each command that opens nothing else leaves it one, accepted or refused
--     CommandKeepsStanding       .. with the standing that it had
--     CommandTellsStep           .. so that no queue has a step
use Rattle.std.specs.Prelude.{◌≡◌, ℕ}
use Rattle.usb_base.specs.declared.commands.Cmd.{Cmd}
use Rattle.script_types.specs.declared.scripts.Script.{Script}
use Rattle.script_fits.specs.Fits.{IsFit}
use Rattle.law_scripts.specs.byte_answers.Bytes.{IsByteScript}
use Rattle.bus_wire.specs.Bus.{Fixed}
use Rattle.drv_table.specs.declared.rows.DriverRow.{DriverRow}
use Rattle.drv_table.specs.Offers.{IsOffered}
use Rattle.drv_table.specs.Rows.{driver_row}
use Rattle.bus_world.specs.World.{World, driver_parts, driver_next, controller_next, commanded}
use Rattle.bus_world.specs.Opening.{opening_world}
use Rattle.law_world.specs.memory.Mixed.{Standing, IsMixedAt, IsMixedWorld}
pub use Rattle.law_world.specs.memory.Opens.{IsMixed, OpensMixed}
use Rattle.law_world.specs.memory.Steps.{IsMixedNext, IsMixedControlled}

abbrev pub NewWorldIsMixed : Type 0
NewWorldIsMixed = (s : Script) → IsFit s → IsByteScript s → IsMixedWorld (opening_world s)

abbrev pub ControllerKeepsMixed : Type 0
ControllerKeepsMixed = (fixed : Fixed) (w : World) → IsMixedWorld w → IsMixedWorld (controller_next fixed w)

abbrev pub ControllerTellsEvent : Type 0
ControllerTellsEvent = (fixed : Fixed) (s : Standing) (w : World) → IsMixedAt s w → IsMixedControlled fixed s w

abbrev pub RowKeepsMixed : DriverRow → Type 0
RowKeepsMixed row = (s : Standing) (w : World) → IsMixedAt s w → driver_row (driver_parts w) ≡ row → IsMixedNext s w (driver_next w)

abbrev pub DriverTellsStep : Type 0
DriverTellsStep = (s : Standing) (w : World) → IsMixedAt s w → IsMixedNext s w (driver_next w)

abbrev pub DriverKeepsMixed : Type 0
DriverKeepsMixed = (w : World) → IsMixedWorld w → IsMixedWorld (driver_next w)

abbrev pub CommandKeepsMixed : Type 0
CommandKeepsMixed = (w : World) (line : ℕ) (cmd : Cmd) → OpensMixed cmd → IsOffered w.driver.room cmd → IsMixedWorld w → IsMixedWorld (commanded w line cmd)

abbrev pub CommandKeepsStanding : Type 0
CommandKeepsStanding = (s : Standing) (w : World) (line : ℕ) (cmd : Cmd) → OpensMixed cmd → IsOffered w.driver.room cmd → IsMixedAt s w
    → IsMixedAt s (commanded w line cmd)

abbrev pub CommandTellsStep : Type 0
CommandTellsStep = (s : Standing) (w : World) (line : ℕ) (cmd : Cmd) → OpensMixed cmd → IsOffered w.driver.room cmd → IsMixedAt s w
    → IsMixedNext s w (commanded w line cmd)
