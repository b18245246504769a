-- Notes of worked rows.
--     notes     three qTDs of one transfer, in blocks 3, 0 and 2, whose last leads to block 1
use Rattle.std.specs.Prelude.{ℕ, List, [], ◌∷◌}
use Rattle.drv_table.specs.declared.content.QtdNote.{QtdNote}
use Rattle.drv_table.specs.DriverContent.{no_note}

abbrev pub note_of : ℕ → ℕ → ℕ → QtdNote
note_of next first told = record { next = next; buffer = first ∷ 0 ∷ 0 ∷ 0 ∷ 0 ∷ []; runs = 1; told = told; moved = 0 }

abbrev pub notes : List QtdNote
notes = note_of 2 160 512 ∷ no_note ∷ note_of 1 180 100 ∷ note_of 0 140 512 ∷ []
