-- Memories of worked rows.
--     two_words a b            two words, and no blocks
--     two_blocks words n       a Lent block and a Kept one with these words, where n accesses were refused
--     with_one_byte            their sixteen words, 0 but for byte 31, which is 7
use Rattle.std.specs.Prelude.{ℕ, List, [], ◌∷◌, ◌++◌, replicate}
use Rattle.word_mem.specs.declared.blocks.BlockState.TheVariants.{Lent, Kept}
use Rattle.word_mem.specs.Memory.{Mem}

abbrev pub two_words : ℕ → ℕ → Mem
two_words a b = record { words = a ∷ b ∷ []; states = []; foreign = 0 }

abbrev pub two_blocks : List ℕ → ℕ → Mem
two_blocks words n = record { words = words; states = Lent ∷ Kept ∷ []; foreign = n }

abbrev pub with_one_byte : List ℕ
with_one_byte = replicate 7 0 ++ 117440512 ∷ replicate 8 0
