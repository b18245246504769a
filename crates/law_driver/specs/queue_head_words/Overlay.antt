-- What the driver stores in queue heads (EHCI 1.0, 3.6, 3.6.3 and 4.10). A queue head has twelve words: its link, two that no event writes,
-- and from word 3 on the overlay, which is the controller's.
--     HasQueueHead d b        a queue head begins in block b: the head of the ring, or that of an endpoint that wasn't given back, in the
--                             ring or in the frame list; an isochronous one has none
--     stored_address row      the byte address of the word that the row stores
--     IsMendOf p row b at     the row is one of the three stores after a stalled request, and its word that of the queue head in block b
--     StoresAt p b at         the next row stores into a queue head its link, or is such a store
--     LeavesWord p b i        the next event leaves word i of a queue head, or is such a store
--     LeaveQueueHeads d m o   an accepted command leaves all twelve words of each queue head
use Rattle.std.specs.Prelude.{◌≡◌, ℕ, ◌+◌, ◌*◌, ◌<◌, ◌⊎◌, false, slice_get, Option, Some, None}
use Rattle.word_mem.specs.Memory.{Mem, word_at}
use Rattle.mem_runs.specs.Book.{holding, Stands}
use Rattle.drv_table.specs.declared.content.Endpoint.{Endpoint}
use Rattle.drv_table.specs.declared.content.Mend.{Mend}
use Rattle.drv_table.specs.declared.rows.DriverRow.{DriverRow}
use Rattle.drv_table.specs.declared.rows.DriverRow.TheVariants as rows
use Rattle.drv_table.specs.DriverContent.{DriverContent}
use Rattle.drv_table.specs.Words.{head_block}
use Rattle.drv_table.specs.Parts.{Parts}
use Rattle.drv_table.specs.Kinds.{is_iso}
use Rattle.drv_table.specs.Rows.{driver_row, after_driver_row}
use Rattle.drv_table.specs.Accepting.{Offered}
use Rattle.claims_driver.specs.Leaving.{HasOwners}

pub data HasQueueHead (d : DriverContent) (b : ℕ) : Type 0 where
  of_ring : b ≡ head_block → HasQueueHead d b
  of_endpoint : (e : ℕ) (x : Endpoint) → slice_get d.endpoints e ≡ Some x → is_iso x.desc.kind ≡ false → x.gone ≡ false → x.queue ≡ b → HasQueueHead d b

abbrev pub stored_address : DriverRow → Option ℕ
stored_address (rows.Store b at v) = Some at
stored_address (rows.Mend w) = Some w.at
stored_address _ = None

-- the driver owes this store; the word is the overlay's next pointer, its alternate or its token, words 4 to 6
pub record IsMendOf (p : Parts) (row : DriverRow) (b at : ℕ) : Type 0 where
  pub mend : Mend
  pub is : row ≡ rows.Mend mend
  pub owed : slice_get p.driver.mends 0 ≡ Some mend
  pub queue : mend.queue ≡ b
  pub address : mend.at ≡ at
  pub word : (at ≡ 32 * b + 16) ⊎ ((at ≡ 32 * b + 20) ⊎ (at ≡ 32 * b + 24))

abbrev pub StoresAt : Parts → ℕ → ℕ → Type 0
StoresAt p b at = (at ≡ 32 * b) ⊎ IsMendOf p (driver_row p) b at

abbrev pub LeavesWord : Parts → ℕ → ℕ → Type 0
LeavesWord p b i =
    (word_at (after_driver_row (driver_row p) p).memory (32 * b + 4 * i) ≡ word_at p.memory (32 * b + 4 * i)) ⊎ IsMendOf p (driver_row p) b (32 * b + 4 * i)

abbrev pub LeaveQueueHeads : DriverContent → Mem → Offered → Type 0
LeaveQueueHeads d m o =
    (b i : ℕ) → Stands (holding d.book m) → HasOwners d → HasQueueHead d b → i < 12
    → word_at o.memory (32 * b + 4 * i) ≡ word_at m (32 * b + 4 * i)
