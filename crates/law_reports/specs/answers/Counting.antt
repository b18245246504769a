-- Each event of a driver leaves as many transfers less without a line as it wrote lines; and a line tells what is pending then.
--     EventsCountDown         so it does, whatever the driver has
--     ClosingsTellPending     so the lines that close a report do, of each world
--     OneLineForOneGet        the line of a get leaves one transfer less
--     TwoLinesForOneGet       two lines of it don't count down
--     AGetAddsUp              a get without a line adds up
--     ALineIsMissing          one that was told without a line doesn't
use Rattle.std.specs.Prelude.{true, [], ◌∷◌}
use Rattle.usb_base.specs.declared.reports.Report.{Report}
use Rattle.usb_base.specs.declared.reports.What.TheVariants.{Done}
use Rattle.drv_table.specs.declared.content.Reserve.{Reserve}
use Rattle.drv_table.specs.Parts.{Parts}
use Rattle.drv_table.specs.Rows.{driver_row, after_driver_row}
use Rattle.bus_wire.specs.Bus.{Fixed}
use Rattle.bus_world.specs.World.{World}
use Rattle.claims_world.specs.Pending.{IsCountedDown, TellsAllPending, AddsUp}
use Rattle.law_footprints.specs.Worked.{a_get, working}
use Rattle.law_resting.specs.Worked.{with_one}

abbrev pub EventsCountDown : Type 0
EventsCountDown = (p : Parts) → IsCountedDown p.driver (after_driver_row (driver_row p) p).driver

abbrev pub ClosingsTellPending : Type 0
ClosingsTellPending = (fixed : Fixed) (w : World) → TellsAllPending fixed w

-- ---- worked rows

abbrev pub a_line : Report
a_line = record { name = working.desc.name; what = Done; from = 0; len = 0 }

abbrev pub OneLineForOneGet : Type 0
OneLineForOneGet =
    (room : Reserve)
    → IsCountedDown (with_one room working a_get) (record
    (with_one room working (record a_get { reported = true })) { reports = a_line ∷ [] })

abbrev pub TwoLinesForOneGet : Type 0
TwoLinesForOneGet =
    (room : Reserve)
    → IsCountedDown (with_one room working a_get)
    (record (with_one room working (record a_get { reported = true })) { reports = a_line ∷ a_line ∷ [] }) → ⊥

abbrev pub AGetAddsUp : Type 0
AGetAddsUp = (room : Reserve) → AddsUp (with_one room working a_get)

abbrev pub ALineIsMissing : Type 0
ALineIsMissing = (room : Reserve) → AddsUp (with_one room working (record a_get { reported = true })) → ⊥
