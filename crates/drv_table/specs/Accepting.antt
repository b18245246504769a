-- What an accepted command leaves, the runs that it takes, and its place in the ring (EHCI 1.0, 3, 4.8.1 and 4.8.2): the head leads to the
-- newest linked endpoint, and each of these to the one before.
use Rattle.std.specs.Prelude.{ℕ, suc, [], List, fold, ◌∷◌, take, length, drop, Option, Result, Some, if◌then◌else◌, None, Ok, Err}
use Rattle.usb_base.specs.declared.reports.OfferError.{OfferError}
use Rattle.usb_base.specs.declared.reports.OfferError.TheVariants as errors
use Rattle.word_mem.specs.Free.{longest_run}
use Rattle.word_mem.specs.Memory.{Mem}
use Rattle.mem_runs.specs.Book.{Holding, take_run}
use Rattle.drv_table.specs.declared.content.Endpoint.{Endpoint}
use Rattle.drv_table.specs.DriverContent.{DriverContent}
use Rattle.drv_table.specs.Words.{head_block}

-- an accepted command
pub record Offered : Type 0 where
  pub driver : DriverContent
  pub memory : Mem

-- ---- runs

-- runs of these lengths, one after the other, or the first that isn't found
abbrev pub take_runs : Holding → List ℕ → Result Holding OfferError
take_runs h [] = Ok h
take_runs h (n ∷ ns) =
    elim (take_run h n) [ None ↦ Err (errors.NoBlocks n (longest_run h.memory.states)) | Some more ↦ take_runs more ns ]

-- where the runs begin that were taken for the command, in the order of taking
abbrev pub new_runs : DriverContent → Holding → List ℕ
new_runs d h = drop (length d.book.taken) h.book.taken

-- ---- the ring: the head, then the linked endpoints from the newest to the oldest

-- the block to which the head leads
abbrev pub newest_of : List Endpoint → ℕ
newest_of xs = fold (λ b x. if x.linked then x.queue else b) head_block xs

-- the block that leads to the newest endpoint before these
abbrev pub oldest_of : List Endpoint → ℕ
oldest_of [] = head_block
oldest_of (x ∷ xs) = if x.linked then x.queue else oldest_of xs

-- the block whose link leads to endpoint e in the ring (4.8.2)
abbrev pub before : DriverContent → ℕ → ℕ
before d e = oldest_of (drop (suc e) d.endpoints)

-- the block to which endpoint e leads in the ring
abbrev pub after : DriverContent → ℕ → ℕ
after d e = newest_of (take e d.endpoints)

-- ---- get, put and control

-- the number of the first transfer that isn't harvested: the new one, where there was none
abbrev pub first_waiting : Option ℕ → ℕ → Option ℕ
first_waiting None new = Some new
first_waiting (Some t) new = Some t
