-- Rows that write no line of the report.
use Rattle.std.proofs.Common.{◌≡◌, ◌≢◌, false, None, refl}
use Rattle.drv_table.specs.declared.rows.DriverRow.{DriverRow}
use Rattle.drv_table.specs.declared.rows.DriverRow.TheVariants as rows
use Rattle.drv_table.specs.Parts.{Parts}
use Rattle.drv_table.specs.Rows.{after_driver_row}
use Rattle.law_driver.specs.run_owners.Due.{IsDue}
use Rattle.law_driver.specs.queued_drivers.Rows.{TellsAlike}
use Rattle.law_footprints.specs.Footprint.{footprint}
use Rattle.law_footprints.proofs.Fields.{reports_stays, store_stays}

pub tells_by : (row : DriverRow) (p : Parts) → (footprint row p.driver.command).reports ≡ false
    → (footprint row p.driver.command).store ≡ false
    → TellsAlike p.driver (after_driver_row row p).driver
tells_by row p reports store = record {
  reports = reports_stays row p p.driver.command refl reports;
  store = store_stays row p p.driver.command refl store;
}

-- while a command is unfinished
pub busy_tells : (row : DriverRow) (p : Parts) → IsDue p row → p.driver.command ≢ None → TellsAlike p.driver (after_driver_row row p).driver
busy_tells (rows.ReleaseRemoved what) p due busy = absurd (busy due.idle)
busy_tells (rows.ReleaseEndpoint e) p due busy = absurd (busy due.idle)
busy_tells (rows.Harvest e t found) p due busy = absurd (busy due.idle)
busy_tells row p due busy = tells_by row p refl refl
