-- The words of a queue head that no event writes: its endpoint's characteristics and capabilities (EHCI 1.0, 3.6.2). They are words 1 and
-- 2; the head alone has the bit H of the head of the reclamation list.
--     KeepsFixed d m o                      they stand once a command was accepted
use Rattle.word_mem.specs.Memory.{Mem, IsShaped}
use Rattle.mem_runs.specs.Book.{holding, Stands}
use Rattle.drv_table.specs.Accepting.{Offered}
use Rattle.drv_table.specs.DriverContent.{DriverContent}
use Rattle.claims_driver.specs.Leaving.{HasOwners}
use Rattle.claims_driver.specs.InPlace.{AreFixed}

abbrev pub KeepsFixed : DriverContent → Mem → Offered → Type 0
KeepsFixed d m o = Stands (holding d.book m) → IsShaped m → HasOwners d → AreFixed m d → AreFixed o.memory o.driver
