-- A get, put or request that was accepted is to be lent, and stays so until it is (EHCI 1.0, 3.5 and 4.10).
--     AskedIsToBeLent, RequestedIsToBeLent, ToBeLentStays     the laws
use Rattle.std.specs.Prelude.{◌≡◌, ℕ, false, List, Some}
use Rattle.word_mem.specs.Memory.{Mem, IsShaped, word_at, reaches}
use Rattle.mem_runs.specs.Book.{holding, Stands}
use Rattle.drv_table.specs.declared.content.Command.TheVariants as unfinished
use Rattle.drv_table.specs.DriverContent.{DriverContent}
use Rattle.drv_table.specs.Accepting.{Offered}
use Rattle.claims_driver.specs.Leaving.{HasOwners}
use Rattle.claims_driver.specs.LentRuns.{AreLent}
use Rattle.law_driver.specs.chained_transfers.Accepted.{IsAsked}
use Rattle.law_driver.specs.chained_transfers.Asynchronous.{IsRequested}
use Rattle.law_queues.specs.fed_lends.ToLend.{IsToBeLent}

abbrev pub AskedIsToBeLent : Type 0
AskedIsToBeLent = (d : DriverContent) (m : Mem) (o : Offered) → IsAsked d m o → HasOwners d → AreLent d → Stands (holding d.book m) → IsShaped m
    → (b : ℕ) (words : List ℕ) → o.driver.command ≡ Some (unfinished.Publish b words) → IsToBeLent o.driver o.memory b words

abbrev pub RequestedIsToBeLent : Type 0
RequestedIsToBeLent = (d : DriverContent) (m : Mem) (o : Offered) → IsRequested d m o → HasOwners d → AreLent d → Stands (holding d.book m) → IsShaped m
    → (b : ℕ) (words : List ℕ) → o.driver.command ≡ Some (unfinished.Publish b words) → IsToBeLent o.driver o.memory b words

abbrev pub ToBeLentStays : Type 0
ToBeLentStays = (d : DriverContent) (m new : Mem) (b : ℕ) (words : List ℕ) → IsToBeLent d m b words → Stands (holding d.book m)
    → ((at : ℕ) → reaches m at ≡ false → word_at new at ≡ word_at m at) → IsToBeLent d new b words
