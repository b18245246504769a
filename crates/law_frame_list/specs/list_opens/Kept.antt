-- An accepted command beside the frame list (EHCI 1.0, 4.6, 4.7, 4.8 and 4.10).
--     KeepsList d m o     where the words of memory stood for the list, they stand for it once the command was accepted
use Rattle.word_mem.specs.Memory.{Mem, IsShaped}
use Rattle.mem_runs.specs.Book.{holding, Stands}
use Rattle.drv_table.specs.DriverContent.{DriverContent}
use Rattle.drv_table.specs.Accepting.{Offered}
use Rattle.claims_driver.specs.Leaving.{HasOwners}
use Rattle.law_driver.specs.listed_members.Members.{IsListed}
use Rattle.claims_driver.specs.FrameWords.{ListStands}

abbrev pub KeepsList : DriverContent → Mem → Offered → Type 0
KeepsList d m o = Stands (holding d.book m) → IsShaped m → HasOwners d → IsListed d → ListStands m d → ListStands o.memory o.driver
