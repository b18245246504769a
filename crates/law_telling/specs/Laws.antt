-- Each line that a driver's event writes has its reason.
use Rattle.drv_table.specs.Parts.{Parts}
use Rattle.drv_table.specs.Rows.{driver_row, after_driver_row}
use Rattle.claims_answers.specs.Telling.{AreTold}

abbrev pub TellsForReasons : Parts → Type 0
TellsForReasons p =
    AreTold p (after_driver_row (driver_row p) p).driver.notes (after_driver_row (driver_row p) p).driver.reports
    (after_driver_row (driver_row p) p).driver.store

abbrev pub DriversTellForReasons : Type 0
DriversTellForReasons = (p : Parts) → TellsForReasons p
