-- Which words an event of the driver with its job writes: the store of a queue head's word changes that one, and an endpoint that is open
-- again has given back runs, whose blocks are Free then.
use Rattle.std.proofs.Common.{◌≡◌, ◌≢◌, ℕ, zero, suc, ◌/◌, Bool, true, false, cond, length, slice_get, Option, Some, None, ap, refl}
use Rattle.usb_base.specs.declared.reports.What.{What}
use Rattle.usb_base.specs.declared.reports.What.TheVariants as lines
use Rattle.word_mem.specs.Memory.{IsShaped, word_at, state_at}
use Rattle.word_mem.specs.declared.blocks.BlockState.TheVariants.{Free}
use Rattle.mem_runs.specs.Book.{Holding, holding, Stands, slot_of, can_store}
use Rattle.drv_table.specs.declared.content.Endpoint.{Endpoint}
use Rattle.drv_table.specs.declared.content.Transfer.{Transfer}
use Rattle.drv_table.specs.DriverContent.{waits_for}
use Rattle.drv_table.specs.Parts.{Parts}
use Rattle.drv_jobs.specs.declared.jobs.Job.{Job}
use Rattle.drv_jobs.specs.declared.jobs.Job.TheVariants as jobs
use Rattle.drv_jobs.specs.declared.jobs.JobRow.{JobRow}
use Rattle.drv_jobs.specs.declared.jobs.JobRow.TheVariants as works
use Rattle.drv_jobs.specs.AtWork.{PartsAtWork}
use Rattle.drv_jobs.specs.Clearing.{still_has, released_one, released_from, reopened}
use Rattle.drv_jobs.specs.Jobs.{after_job_row, ended_for, request_ended}
use Rattle.ehci_driver.specs.JobEvents.{released_held}
use Rattle.ehci_driver.specs.Written.{OnlyStoresWithJob}
use Rattle.ehci_driver.proofs.Written.{Freed, freed_nothing, freed_both, freed_qtds, written, row_words}

-- ---- the end of a request to a hub

request_words : (p : PartsAtWork) (e h t n : ℕ) (x : Endpoint) (y : Transfer) (what : What)
    → (request_ended p e h t n x y what).parts.memory ≡ p.parts.memory
request_words p e h t n x y lines.Done = refl
request_words p e h t n x y _ = refl

waiting_words : (p : PartsAtWork) (e h t n : ℕ) (x : Endpoint) (y : Transfer) (what : What) (b : Bool)
    → (cond b (request_ended p e h t n x y what) p).parts.memory ≡ p.parts.memory
waiting_words p e h t n x y what true = request_words p e h t n x y what
waiting_words p e h t n x y what false = refl

ended_words : (p : PartsAtWork) (job : Option Job) (h u n : ℕ) (what : What) (x : Option Endpoint) (y : Option Transfer)
    → (ended_for p job h u n what x y).parts.memory ≡ p.parts.memory
ended_words p (Some (jobs.Asks e t)) h u n what (Some x) (Some y) = waiting_words p e h u n x y what (waits_for h y)
ended_words p (Some (jobs.Asks e t)) h u n what (Some x) None = refl
ended_words p (Some (jobs.Asks e t)) h u n what None y = refl
ended_words p job h u n what x y = refl

-- ---- what is given back

abbrev held : Parts → Holding
held p = holding p.driver.book p.memory

freed_where : (b : Bool) (p q : Parts) → Stands (held p) → IsShaped p.memory → Freed (held p) (held q) → Freed (held p) (held (cond b q p))
freed_where true p q stands shape one = one
freed_where false p q stands shape one = freed_nothing (held p) stands shape

freed_one : (p : Parts) (e t : ℕ) (o : Option Transfer) → Stands (held p) → IsShaped p.memory → Freed (held p) (held (released_one p e t o))
freed_one p e t None stands shape = freed_nothing (held p) stands shape
freed_one p e t (Some x) stands shape =
    freed_where (still_has p.driver e t x) p (released_held p t x) stands shape
    (freed_qtds p.driver.notes (held p) x.first x.qtds stands shape)

freed_from : (p : Parts) (e t n : ℕ) → Stands (held p) → IsShaped p.memory → Freed (held p) (held (released_from p e t n))
unfolding released_from
freed_from p e t zero stands shape = freed_nothing (held p) stands shape
freed_from p e t (suc n) stands shape =
    let q = released_one p e t (slice_get p.driver.transfers t) in
    let one = freed_one p e t (slice_get p.driver.transfers t) stands shape in
    freed_both (held p) (held q) (held (released_from q e (suc t) n)) one (freed_from q e (suc t) n one.stands one.shape)

reopened_words : (p : Parts) (e : ℕ) (o : Option Endpoint) → Stands (held p) → IsShaped p.memory
    → (at : ℕ) → state_at (reopened p e o).memory (at / 32) ≢ Some Free → word_at (reopened p e o).memory at ≡ word_at p.memory at
reopened_words p e None stands shape at busy = refl
reopened_words p e (Some x) stands shape at busy = (freed_from p e 0 (length p.driver.transfers) stands shape).words at busy

-- ---- each row

pub job_row_words : (row : JobRow) (p : PartsAtWork) → Stands (held p.parts) → IsShaped p.parts.memory
    → OnlyStoresWithJob p.parts.driver row p.parts.memory (after_job_row row p).parts.memory
job_row_words (works.Plain row) p stands shape = row_words row p.parts stands shape
job_row_words (works.EndsRequest h t n what) p stands shape = λ at apart busy.
    ap (λ m. word_at m at)
    (ended_words p p.job h t n what (slice_get p.parts.driver.endpoints h) (slice_get p.parts.driver.transfers t))
job_row_words (works.Mends w) p stands shape = λ at apart busy.
    written (can_store (slot_of p.parts.driver.book.slots w.queue) w.at) p.parts.memory w.at w.value at apart
job_row_words (works.Reopens e) p stands shape = λ at apart busy.
    reopened_words p.parts e (slice_get p.parts.driver.endpoints e) stands shape at busy
job_row_words (works.ReadsFrame n) p stands shape = λ at apart busy. refl
job_row_words (works.Resets name) p stands shape = λ at apart busy. refl
