-- A memory of worked rows: four blocks, of which a run of two begins in block 1.
--     four_blocks       all of them Lent, each word 7
--     its_book          the run's book
use Rattle.std.specs.Prelude.{[], ◌∷◌, replicate}
use Rattle.word_mem.specs.Memory.{Mem}
use Rattle.word_mem.specs.declared.blocks.BlockState.TheVariants.{Lent}
use Rattle.mem_runs.specs.Book.{Book}
use Rattle.mem_runs.specs.declared.slots.Slot.TheVariants.{Empty, Lends}

abbrev pub four_blocks : Mem
four_blocks = record { words = replicate 32 7; states = replicate 4 Lent; foreign = 0 }

abbrev pub its_book : Book
its_book = record { slots = Empty ∷ Lends (record { first = 1; blocks = 2 }) ∷ Empty ∷ Empty ∷ []; taken = [] }
