-- A store of a driver's frame list, made in memory (EHCI 1.0, 4.6).
--     IsStoredFor m d s      once the store s is made the words stand for what the list is then, whose members are kept in order
use Rattle.word_mem.specs.Memory.{Mem, word_at}
use Rattle.mem_runs.specs.Book.{store}
use Rattle.drv_periodic.specs.declared.work.Store.{Store}
use Rattle.drv_periodic.specs.Periodic.{after_store}
use Rattle.claims_driver.specs.FrameWords.{IsInOrder, StandFor}
use Rattle.drv_table.specs.DriverContent.{DriverContent}

pub record IsStoredFor (m : Mem) (d : DriverContent) (s : Store) : Type 0 where
  pub order : IsInOrder (after_store d.periodic.list)
  pub words : StandFor (after_store d.periodic.list) (word_at (store d.book m s.block s.at s.value))
