-- For worked rows: two words of memory with the bytes 1 to 5, and one qTD in block 0 whose buffer of five bytes begins there.
use Rattle.std.specs.Prelude.{ℕ, List, [], ◌∷◌}
use Rattle.word_mem.specs.Memory.{Mem}
use Rattle.drv_table.specs.declared.content.QtdNote.{QtdNote}

abbrev pub small : Mem
small = record { words = 67305985 ∷ 5 ∷ []; states = []; foreign = 0 }

abbrev pub notes : List QtdNote
notes = record { next = 7; buffer = 0 ∷ 0 ∷ 0 ∷ 0 ∷ 0 ∷ []; runs = 1; told = 5; moved = 0 } ∷ []

abbrev pub five : List ℕ
five = 1 ∷ 2 ∷ 3 ∷ 4 ∷ 5 ∷ []
