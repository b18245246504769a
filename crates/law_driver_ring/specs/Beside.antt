-- What the controller leaves of a new endpoint before it is met.
--     OpenedStays          the law: what isn't Lent stays, so the structures that are to be lent do
use Rattle.std.specs.Prelude.{◌≡◌, ℕ, false}
use Rattle.word_mem.specs.Memory.{Mem, word_at, reaches}
use Rattle.qh_qtd.specs.declared.queue_head.Qh.{Qh}
use Rattle.mem_runs.specs.Book.{holding, Stands}
use Rattle.drv_table.specs.DriverContent.{DriverContent}
use Rattle.claims_driver.specs.Owners.{EndpointRuns}
use Rattle.claims_driver.specs.Leaving.{HasOwners}
use Rattle.law_driver_ring.specs.LendOpened.{IsOpened}

abbrev pub OpenedStays : Type 0
OpenedStays = (d : DriverContent) (m new : Mem) (e : ℕ) (x : EndpointRuns) (q : Qh) → IsOpened d m e x q → HasOwners d → Stands (holding d.book m)
    → ((at : ℕ) → reaches m at ≡ false → word_at new at ≡ word_at m at) → IsOpened d new e x q
