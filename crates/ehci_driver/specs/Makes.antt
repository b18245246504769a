-- Which events can be made.
--     CanMake d row       a descriptor that is unlinked is one that waits for it
use Rattle.std.specs.Prelude.{◌≤◌, length}
use Rattle.drv_table.specs.declared.rows.DriverRow.{DriverRow}
use Rattle.drv_table.specs.declared.rows.DriverRow.TheVariants as rows
use Rattle.drv_table.specs.DriverContent.{DriverContent}

abbrev pub CanMake : DriverContent → DriverRow → Type 0
CanMake d (rows.Unlink t) = 1 ≤ length d.periodic.unlinks
CanMake d row = Unit {0}
