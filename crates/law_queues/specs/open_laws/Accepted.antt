-- An open that was accepted waits for its lend (EHCI 1.0, 4.8.1).
--     OpenBecomesReady, ReadyStays     the laws: its structures stand in runs that are kept, and what isn't Lent stays
use Rattle.std.specs.Prelude.{◌≡◌, ℕ, false}
use Rattle.word_mem.specs.Memory.{Mem, IsShaped, word_at, reaches}
use Rattle.qh_qtd.specs.QueueHead.{IsQhInRange}
use Rattle.mem_runs.specs.Book.{holding, Stands}
use Rattle.drv_table.specs.DriverContent.{DriverContent}
use Rattle.drv_table.specs.Accepting.{Offered}
use Rattle.claims_driver.specs.Leaving.{HasOwners}
use Rattle.law_driver.specs.run_owners.Accepts.{Opens}
use Rattle.claims_driver.specs.LentRuns.{AreLent}
use Rattle.law_driver_ring.specs.LendOpened.{opened_head}
use Rattle.law_queues.specs.open_laws.Lends.{IsOpenReady}

abbrev pub OpenBecomesReady : Type 0
OpenBecomesReady = (m : Mem) (d : DriverContent) (o : Offered) → (why : Opens d m o) → HasOwners d → AreLent d → Stands (holding d.book m) → IsShaped m
    → IsQhInRange (opened_head d why.desc why.holding_after) → IsOpenReady o.driver o.memory

abbrev pub ReadyStays : Type 0
ReadyStays = (d : DriverContent) (m new : Mem) → HasOwners d → Stands (holding d.book m) → ((at : ℕ) → reaches m at ≡ false → word_at new at ≡ word_at m at)
    → IsOpenReady d m → IsOpenReady d new
