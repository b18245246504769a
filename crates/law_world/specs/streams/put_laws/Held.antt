-- The bytes of a put in the buffers that the driver took for it (EHCI 1.0, 3.5.4 and 4.10).
--     held_bytes m notes b n      the bytes in the buffers of n qTDs from block b on, where the notes say that they stand
--     AreFilled ss bytes          each of these stages sends, and together they send these bytes
--     PutsAreFilled               so are those of a put
--     PutIsHeld                   a put that was accepted has its bytes in its buffers
--     HeldStays                   the controller leaves them, until they are lent
use Rattle.std.specs.Prelude.{◌≡◌, ◌≢◌, ℕ, zero, suc, ◌<◌, ◌≤◌, false, List, [], ◌∷◌, ◌++◌, length, drop}
use Rattle.std.specs.List.{AllByRecursion}
use Rattle.word_mem.specs.Memory.{Mem, IsShaped, word_at, reaches}
use Rattle.mem_runs.specs.Book.{holding, Stands}
use Rattle.drv_table.specs.declared.content.QtdNote.{QtdNote}
use Rattle.drv_table.specs.declared.content.Stage.{Stage}
use Rattle.drv_table.specs.DriverContent.{DriverContent}
use Rattle.drv_table.specs.Words.{put_stages}
use Rattle.drv_table.specs.Harvests.{note_at, buffer_bytes}
use Rattle.drv_table.specs.Accepting.{Offered}
use Rattle.claims_driver.specs.Owners.{EndpointRuns, TransferRuns}
use Rattle.law_driver.specs.run_owners.Accepts.{Transfers}
use Rattle.claims_driver.specs.Leaving.{HasOwners}
use Rattle.claims_driver.specs.LentRuns.{AreLent}
use Rattle.law_driver_ring.specs.Written.{AwaitsLend}

unfoldable pub held_bytes : Mem → List QtdNote → ℕ → ℕ → List ℕ
held_bytes m notes b zero = []
held_bytes m notes b (suc n) = buffer_bytes m (note_at notes b) (note_at notes b).told ++ held_bytes m notes (note_at notes b).next n

abbrev pub AreFilled : List Stage → List ℕ → Type 0
AreFilled [] bytes = bytes ≡ []
AreFilled (s ∷ ss) bytes = (s.pid ≢ 1) × (s.told ≡ s.long) × (s.long ≤ length bytes) × AreFilled ss (drop s.long bytes)

abbrev pub PutsAreFilled : Type 0
PutsAreFilled = (bytes : List ℕ) (by : ℕ) → 1 ≤ by → AreFilled (put_stages (length bytes) by) bytes

abbrev pub PutIsHeld : Type 0
PutIsHeld = (d : DriverContent) (m : Mem) (o : Offered) (why : Transfers d m o) → AreFilled why.asked.stages why.asked.bytes → AllByRecursion (λ b. b < 256) why.asked.bytes
    → AllByRecursion (λ r. r.pid ≤ 2) why.asked.stages → HasOwners d → AreLent d → Stands (holding d.book m) → IsShaped m
    → held_bytes o.memory o.driver.notes why.endpoint.dummy (length why.asked.stages) ≡ why.asked.bytes

abbrev pub HeldStays : Type 0
HeldStays = (d : DriverContent) (m new : Mem) (t : ℕ) (y : TransferRuns) (x : EndpointRuns) (s : Stage) (ss : List Stage) → AwaitsLend d m t y x s ss → Stands (holding d.book m)
    → AllByRecursion (λ r. r.told ≡ r.long) (s ∷ ss) → ((at : ℕ) → reaches m at ≡ false → word_at new at ≡ word_at m at)
    → held_bytes new d.notes y.first (suc (length ss)) ≡ held_bytes m d.notes y.first (suc (length ss))
