-- What is known of the command that the driver of a world of bulk and control endpoints hasn't finished (EHCI 1.0, 4.8.1, 4.10 and 4.10.2).
--     IsUnderWay ..             what is known of the unfinished command: what it has still to lend stands ready, or is lent
use Rattle.std.specs.Prelude.{◌≡◌, ℕ, ◌≤◌, ◌⊎◌, Bool, Option, Some}
use Rattle.word_mem.specs.Memory.{Mem}
use Rattle.drv_table.specs.declared.content.Command.{Command}
use Rattle.drv_table.specs.declared.content.Command.TheVariants as unfinished
use Rattle.drv_table.specs.DriverContent.{DriverContent}
use Rattle.law_structures.specs.lent_structures.Structures.{StructureSets}
use Rattle.law_queues.specs.fed_lends.ToLend.{IsToBeLent}
use Rattle.law_queues.specs.open_laws.Lends.{IsOpenReady}
use Rattle.law_queues.specs.open_laws.Opens.{IsOpenLent}

abbrev pub IsUnderWay : DriverContent → Mem → (ℕ → Bool) → StructureSets → Option Command → Type 0
IsUnderWay d m member parts (Some (unfinished.Open queue)) = IsOpenReady d m ⊎ IsOpenLent d member parts
IsUnderWay d m member parts (Some (unfinished.Publish b words)) = IsToBeLent d m b words ⊎ (1 ≤ d.made)
IsUnderWay d m member parts (Some (unfinished.Unlink e b link)) = d.made ≡ 0
IsUnderWay d m member parts _ = Unit {0}
