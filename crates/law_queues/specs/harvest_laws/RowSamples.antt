-- Transfers of worked rows.
--     three_qtds       a get of three qTDs, in blocks 3, 0 and 2
--     read_on          .. once the first was read
--     ended_there      .. where that was short
use Rattle.std.specs.Prelude.{true, false}
use Rattle.drv_table.specs.declared.content.Transfer.{Transfer}
use Rattle.drv_table.specs.declared.content.Sort.TheVariants as sorts
use Rattle.drv_table.specs.declared.content.Part.TheVariants as parts

abbrev pub three_qtds : Transfer
three_qtds = record { endpoint = 0; sort = sorts.Get; first = 3; qtds = 3; place = 3; left = 3; most = 1124; reported = false; released = false; part = parts.Own }

abbrev pub read_on : Transfer
read_on = record three_qtds { place = 0; left = 2 }

abbrev pub ended_there : Transfer
ended_there = record three_qtds { reported = true }
