-- A memory of worked rows: two blocks of eight words, each 7, of which the second is the driver's.
--     half_lent        it
--     overlay          nine words, 1 to 9
use Rattle.std.specs.Prelude.{ℕ, List, [], ◌∷◌, replicate}
use Rattle.word_mem.specs.Memory.{Mem}
use Rattle.word_mem.specs.declared.blocks.BlockState.TheVariants.{Kept, Lent}

abbrev pub half_lent : Mem
half_lent = record { words = replicate 16 7; states = Lent ∷ Kept ∷ []; foreign = 0 }

abbrev pub overlay : List ℕ
overlay = 1 ∷ 2 ∷ 3 ∷ 4 ∷ 5 ∷ 6 ∷ 7 ∷ 8 ∷ 9 ∷ []
