-- Laws of the visits of the walk of the frames beside the driver (EHCI 1.0, 4.6, 4.7 and 4.12).
--     EachRowKeepsVisiting     the visits go on with each event of the driver, whichever row it is
--     CommandLeavesVisits      .. and with each command, accepted or refused
use Rattle.std.specs.Prelude.{ℕ, List}
use Rattle.usb_base.specs.declared.commands.Cmd.{Cmd}
use Rattle.drv_table.specs.declared.rows.DriverRow.{DriverRow}
use Rattle.drv_table.specs.Offers.{IsOffered}
use Rattle.bus_world.specs.World.{World, commanded}
use Rattle.law_world.specs.memory.Mixed.{Standing, IsMixedAt}
use Rattle.law_microframes.specs.visits.Visited.{IsGoneOn, VisitsGoOnAt}
use Rattle.law_microframes.specs.visits.VisitLaws.{RowKeepsVisiting}

abbrev pub EachRowKeepsVisiting : Type 0
EachRowKeepsVisiting = (row : DriverRow) → RowKeepsVisiting row

abbrev pub CommandLeavesVisits : Type 0
CommandLeavesVisits = (s : Standing) (start w : World) (line : ℕ) (cmd : Cmd) (vs : List ℕ) → IsOffered w.driver.room cmd → IsMixedAt s w → VisitsGoOnAt s start w vs
    → IsGoneOn start w (commanded w line cmd) vs
