-- A transfer was accepted and is to be lent (EHCI 1.0, 3.5 and 4.10): its qTDs but the first, the inactive qTD at the new end of the
-- queue, and its buffers have runs that the driver alone may touch, and the words of the qTDs stand there. The first qTD is still the inactive one
-- that stood at the end of the queue.
--     IsPageRun slot n           the slot's run is kept, has n blocks, and lies in one page
--     AreRuns slot ns cs         the runs that begin in the blocks cs are so, and have these lengths
--     AreAllApart cs             no block is there twice
--     next_blocks notes ss b     the blocks of the qTDs that follow that of block b, one for each stage; the last is the inactive one's
--     buffer_blocks notes ss b   where the runs of their buffers begin
--     last_block notes ss b      the block of the inactive qTD
--     AreNoted slot notes ss b   the notes of the qTDs tell their stages and the runs of their buffers
--     AreWritten m notes ..      the words of these qTDs stand in memory, and then those of the inactive one
--     AwaitsLend d m t y x s ss the whole: the transfer t has the stages s and ss
use Rattle.std.specs.Prelude.{◌≡◌, ◌≢◌, ℕ, ◌+◌, ◌*◌, ◌%◌, ◌≤◌, suc, List, [], ◌∷◌, ◌++◌, length, take, slice_index}
use Rattle.std.specs.List.{AllByRecursion}
use Rattle.word_mem.specs.Runs.{Run}
use Rattle.word_mem.specs.Memory.{Mem}
use Rattle.word_mem.specs.Views.{words_at}
use Rattle.qh_qtd.specs.Qtd.{qtd_words}
use Rattle.mem_runs.specs.declared.slots.Slot.{Slot}
use Rattle.mem_runs.specs.declared.slots.Slot.TheVariants.{Keeps}
use Rattle.mem_runs.specs.Book.{slot_of}
use Rattle.drv_table.specs.declared.content.QtdNote.{QtdNote}
use Rattle.drv_table.specs.declared.content.Stage.{Stage}
use Rattle.drv_table.specs.DriverContent.{DriverContent}
use Rattle.drv_table.specs.Words.{buffer_needs, dummy_qtd}
use Rattle.drv_table.specs.Harvests.{note_at}
use Rattle.drv_table.specs.Offers.{is_last, stage_words}
use Rattle.claims_driver.specs.Owners.{EndpointRuns, TransferRuns, views_of}
use Rattle.law_driver.specs.run_owners.Accepts.{AreShort}
use Rattle.law_driver_ring.specs.Inventory.{IsLent, IsTransferIn}

-- ---- runs

pub record IsPageRun (slot : Slot) (n : ℕ) : Type 0 where
  pub run : Run
  pub is : slot ≡ Keeps run
  pub blocks : run.blocks ≡ n
  pub one_page : run.first % 128 + n ≤ 128

abbrev pub AreRuns : (ℕ → Slot) → List ℕ → List ℕ → Type 0
AreRuns slot [] [] = Unit {0}
AreRuns slot [] (c ∷ cs) = ⊥
AreRuns slot (n ∷ ns) [] = ⊥
AreRuns slot (n ∷ ns) (c ∷ cs) = IsPageRun (slot c) n × AreRuns slot ns cs

abbrev pub AreAllApart : List ℕ → Type 0
AreAllApart [] = Unit {0}
AreAllApart (c ∷ cs) = AllByRecursion (λ k. k ≢ c) cs × AreAllApart cs

-- ---- the chain of qTDs, as the notes tell it

abbrev pub next_blocks : List QtdNote → List Stage → ℕ → List ℕ
next_blocks notes [] b = []
next_blocks notes (s ∷ ss) b = (note_at notes b).next ∷ next_blocks notes ss (note_at notes b).next

abbrev pub buffer_blocks : List QtdNote → List Stage → ℕ → List ℕ
buffer_blocks notes [] b = []
buffer_blocks notes (s ∷ ss) b = take (note_at notes b).runs (note_at notes b).buffer ++ buffer_blocks notes ss (note_at notes b).next

abbrev pub last_block : List QtdNote → List Stage → ℕ → ℕ
last_block notes [] b = b
last_block notes (s ∷ ss) b = last_block notes ss (note_at notes b).next

-- where the buffer has no further run, 0 stands for one
pub record IsStageNoted (slot : ℕ → Slot) (note : QtdNote) (s : Stage) : Type 0 where
  pub runs : AreRuns slot (buffer_needs s.long) (take note.runs note.buffer)
  pub told : note.told ≡ s.told
  pub rest : (i : ℕ) → note.runs ≤ i → slice_index note.buffer i ≡ 0

abbrev pub AreNoted : (ℕ → Slot) → List QtdNote → List Stage → ℕ → Type 0
AreNoted slot notes [] b = Unit {0}
AreNoted slot notes (s ∷ ss) b = IsStageNoted slot (note_at notes b) s × AreNoted slot notes ss (note_at notes b).next

-- ---- their words

abbrev pub AreWritten : Mem → List QtdNote → ℕ → List Stage → ℕ → Type 0
AreWritten m notes dummy [] b = words_at m (32 * b) 8 ≡ qtd_words dummy_qtd
AreWritten m notes dummy (s ∷ ss) b =
    (words_at m (32 * b) 8 ≡ stage_words notes s b dummy (is_last ss)) × AreWritten m notes dummy ss (note_at notes b).next

-- ---- the whole

pub record AwaitsLend (d : DriverContent) (m : Mem) (t : ℕ) (y : TransferRuns) (x : EndpointRuns) (s : Stage) (ss : List Stage) : Type 0 where
  pub here : IsTransferIn (views_of d) t y x
  pub qtds : y.qtds ≡ suc (length ss)
  pub first : IsLent (slot_of d.book.slots y.first)
  pub taken : d.book.taken ≡ next_blocks d.notes (s ∷ ss) y.first ++ buffer_blocks d.notes (s ∷ ss) y.first
  pub apart : AreAllApart d.book.taken
  pub ends : last_block d.notes (s ∷ ss) y.first ≡ x.dummy
  pub qtds_kept : AllByRecursion (λ c. IsPageRun (slot_of d.book.slots c) 1) (next_blocks d.notes (s ∷ ss) y.first)
  pub noted : AreNoted (slot_of d.book.slots) d.notes (s ∷ ss) y.first
  pub words : AreWritten m d.notes x.dummy ss (note_at d.notes y.first).next
  pub short : AreShort (s ∷ ss)
  -- each asks for data the one way or the other, or sends a SETUP (3.5.3)
  pub pids : AllByRecursion (λ r. r.pid ≤ 2) (s ∷ ss)
