-- Events of the driver that store nothing in the frame list or in a link of one of its members (EHCI 1.0, 4.6, 4.8 and 4.10).
--     links_now o        the unfinished command links or unlinks members
--     is_elsewhere o row the row is no store of such a command, lends no descriptor, unlinks none, and mends no queue head
use Rattle.std.specs.Prelude.{Bool, true, false, not, Option, Some, None}
use Rattle.drv_table.specs.declared.content.Command.{Command}
use Rattle.drv_table.specs.declared.rows.DriverRow.{DriverRow}
use Rattle.drv_table.specs.declared.rows.DriverRow.TheVariants as rows
use Rattle.drv_table.specs.Commands.{links}

abbrev pub links_now : Option Command → Bool
links_now None = false
links_now (Some c) = links c

abbrev pub is_elsewhere : Option Command → DriverRow → Bool
is_elsewhere o (rows.Store b at v) = not (links_now o)
is_elsewhere o (rows.Mend w) = false
is_elsewhere o rows.LendDescriptors = false
is_elsewhere o (rows.Unlink t) = false
is_elsewhere o _ = true
