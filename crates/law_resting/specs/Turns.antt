-- Each event of a driver does what is left to be done, or leaves it to the next one.
--     DriversTakeTurns     the law
--     WaitingIsNoTurn             a driver that leaves it so doesn't take its turn
use Rattle.std.specs.Prelude.{◌≡◌, true, [], ◌∷◌}
use Rattle.drv_table.specs.declared.content.Reserve.{Reserve}
use Rattle.drv_table.specs.declared.rows.DriverRow.{DriverRow}
use Rattle.drv_table.specs.DriverContent.{DriverContent}
use Rattle.drv_table.specs.Parts.{Parts}
use Rattle.drv_table.specs.Rows.{driver_row, after_driver_row}
use Rattle.claims_driver.specs.Leaving.{IsOrderly}
use Rattle.claims_answers.specs.Turns.{TakesTurns}
use Rattle.law_footprints.specs.Worked.{a_get, working}
use Rattle.law_resting.specs.Counted.{IsCounted}
use Rattle.law_resting.specs.Worked.{with_one}

abbrev pub DriversTakeTurns : Type 0
DriversTakeTurns = (p : Parts) → IsOrderly p.driver → IsCounted p.driver
    → TakesTurns (driver_row p) p (after_driver_row (driver_row p) p).driver

-- ---- a worked row

-- the get has its line, and its blocks are to be given back
abbrev pub owing : Reserve → DriverContent
owing room = record (with_one room working (record a_get { reported = true })) { harvested = 0 ∷ [] }

abbrev pub WaitingIsNoTurn : Type 0
WaitingIsNoTurn = (row : DriverRow) (p : Parts) (room : Reserve) → p.driver ≡ owing room → TakesTurns row p p.driver → ⊥
