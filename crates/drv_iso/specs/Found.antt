-- What the descriptor in a block tells: an iTD by its eight slots, a siTD by its one.
use Rattle.std.specs.Prelude.{ℕ, if◌then◌else◌}
use Rattle.word_mem.specs.Memory.{Mem}
use Rattle.drv_periodic_table.specs.Descriptors.{itd_is_active, itd_errors, sitd_in, sitd_errors}
use Rattle.drv_table.specs.declared.rows.Found.{Found}
use Rattle.drv_table.specs.declared.rows.Found.TheVariants as founds

abbrev pub itd_found : Mem → ℕ → Found
itd_found m b = if itd_is_active m b then founds.Active else founds.Served (itd_errors m b)

abbrev pub sitd_found : Mem → ℕ → Found
sitd_found m b = if (sitd_in m b).active then founds.Active else founds.Served (sitd_errors m b)
