-- Memories of worked rows: two blocks of eight words, of which the second is the driver's.
--     sevens, eights       each word is 7; and those of the second block are 8
use Rattle.std.specs.Prelude.{[], ◌∷◌, ◌++◌, replicate}
use Rattle.word_mem.specs.Memory.{Mem}
use Rattle.word_mem.specs.declared.blocks.BlockState.TheVariants.{Kept, Lent}

abbrev pub sevens : Mem
sevens = record { words = replicate 16 7; states = Lent ∷ Kept ∷ []; foreign = 0 }

abbrev pub eights : Mem
eights = record { words = replicate 8 7 ++ replicate 8 8; states = Lent ∷ Kept ∷ []; foreign = 0 }
