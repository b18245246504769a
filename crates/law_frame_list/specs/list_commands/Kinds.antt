-- Commands that write no byte of a transfer, and link no member of the frame list (EHCI 1.0, 4.6, 4.8 and 4.10).
--     OpensOrCancels d m o     o stands once a bulk, control or isochronous endpoint was opened, or an endpoint was cancelled
use Rattle.std.specs.Prelude.{◌⊎◌}
use Rattle.word_mem.specs.Memory.{Mem}
use Rattle.drv_table.specs.DriverContent.{DriverContent}
use Rattle.drv_table.specs.Accepting.{Offered}
use Rattle.law_driver.specs.run_owners.Accepts.{Opens, Places, Cancels, Unchains}

abbrev pub OpensOrCancels : DriverContent → Mem → Offered → Type 0
OpensOrCancels d m o = Opens d m o ⊎ (Places d m o ⊎ (Cancels d m o ⊎ Unchains d m o))
