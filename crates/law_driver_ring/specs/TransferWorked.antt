-- A chain of two qTDs for worked rows: they stand in blocks 1 and 2, their buffers of 32 bytes in blocks 5 and 6, and the inactive qTD in block 3.
use Rattle.std.specs.Prelude.{ℕ, List, [], ◌∷◌, map}
use Rattle.drv_table.specs.declared.content.QtdNote.{QtdNote}
use Rattle.drv_table.specs.declared.content.Stage.{Stage}
use Rattle.drv_table.specs.DriverContent.{no_note}
use Rattle.drv_table.specs.Words.{in_stage}
use Rattle.law_ring.specs.Together.{Item}

abbrev pub noted : ℕ → ℕ → QtdNote
noted next first = record { next = next; buffer = first ∷ 0 ∷ 0 ∷ 0 ∷ 0 ∷ []; runs = 1; told = 32; moved = 0 }

abbrev pub notes : List QtdNote
notes = no_note ∷ noted 2 5 ∷ noted 3 6 ∷ no_note ∷ []

abbrev pub stage : Stage
stage = in_stage 32

abbrev pub names : List Item → List ℕ
names is = map (λ i. i.name) is
