-- Which words an event writes.
--     stores_at d row at         the row stores the word of the byte address `at`, from the content d on
--     OnlyStores d row m n       from m to n each word stays that the row doesn't store, but for those of blocks that are Free then
--     stores_with_job, OnlyStoresWithJob   the same of the rows of a driver with its job
use Rattle.std.specs.Prelude.{◌≡◌, ◌≢◌, ℕ, ◌*◌, ◌/◌, ◌==◌, Bool, false, List, take, drop, slice_get, Option, Some, None}
use Rattle.std.specs.List.{list_any}
use Rattle.word_mem.specs.Memory.{Mem, word_at, state_at}
use Rattle.word_mem.specs.declared.blocks.BlockState.TheVariants.{Free}
use Rattle.drv_periodic.specs.declared.work.Store.{Store}
use Rattle.drv_periodic.specs.Periodic.{next_store}
use Rattle.drv_table.specs.declared.content.Transfer.{Transfer}
use Rattle.drv_table.specs.declared.content.Command.{Command}
use Rattle.drv_table.specs.declared.content.Command.TheVariants as unfinished
use Rattle.drv_table.specs.declared.rows.DriverRow.{DriverRow}
use Rattle.drv_table.specs.declared.rows.DriverRow.TheVariants as rows
use Rattle.drv_table.specs.DriverContent.{DriverContent}
use Rattle.drv_table.specs.Removals.{descriptor_leaving}
use Rattle.drv_jobs.specs.declared.jobs.JobRow.{JobRow}
use Rattle.drv_jobs.specs.declared.jobs.JobRow.TheVariants as works

abbrev pub is_word : ℕ → ℕ → Bool
is_word to at = at / 4 == to / 4

-- the links of these descriptors
abbrev pub links_at : List Transfer → ℕ → Bool
links_at ts at = list_any (λ t. is_word (32 * t.first) at) ts

abbrev pub command_links_at : DriverContent → Option Command → ℕ → Bool
command_links_at d (Some (unfinished.Iso e t count)) at = links_at (take count (drop t d.transfers)) at
command_links_at d _ at = false

abbrev pub link_at : Option Store → ℕ → Bool
link_at None at = false
link_at (Some s) at = is_word s.at at

-- the link that leads to the descriptor of the transfer
abbrev pub unlinks_at : DriverContent → Option Transfer → ℕ → Bool
unlinks_at d None at = false
unlinks_at d (Some x) at = link_at (next_store (descriptor_leaving d x)) at

abbrev pub stores_at : DriverContent → DriverRow → ℕ → Bool
stores_at d (rows.Store b to v) at = is_word to at
stores_at d (rows.Mend w) at = is_word w.at at
stores_at d rows.LendDescriptors at = command_links_at d d.command at
stores_at d (rows.Unlink t) at = unlinks_at d (slice_get d.transfers t) at
stores_at d _ at = false

abbrev pub OnlyStores : DriverContent → DriverRow → Mem → Mem → Type 0
OnlyStores d row m n = (at : ℕ) → stores_at d row at ≡ false → state_at n (at / 32) ≢ Some Free → word_at n at ≡ word_at m at

abbrev pub stores_with_job : DriverContent → JobRow → ℕ → Bool
stores_with_job d (works.Plain row) at = stores_at d row at
stores_with_job d (works.Mends w) at = is_word w.at at
stores_with_job d _ at = false

abbrev pub OnlyStoresWithJob : DriverContent → JobRow → Mem → Mem → Type 0
OnlyStoresWithJob d row m n =
    (at : ℕ) → stores_with_job d row at ≡ false → state_at n (at / 32) ≢ Some Free → word_at n at ≡ word_at m at
