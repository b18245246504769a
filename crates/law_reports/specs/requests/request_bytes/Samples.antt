-- For worked rows: four words of memory with the setup bytes of a request that sends five bytes and then these, and its SETUP in block 0, its data in block 1.
use Rattle.std.specs.Prelude.{ℕ, List, [], ◌∷◌}
use Rattle.word_mem.specs.Memory.{Mem}
use Rattle.drv_table.specs.declared.content.QtdNote.{QtdNote}
use Rattle.claims_report.specs.Requests.{Request}

-- SET_DESCRIPTOR with wLength 5 (9.4.8)
abbrev pub written : Request
written = record { setup = 0 ∷ 7 ∷ 0 ∷ 1 ∷ 0 ∷ 0 ∷ 5 ∷ 0 ∷ []; bytes = 1 ∷ 2 ∷ 3 ∷ 4 ∷ 5 ∷ [] }

abbrev pub memory : Mem
memory = record { words = 16779008 ∷ 327680 ∷ 0 ∷ 0 ∷ 0 ∷ 0 ∷ 0 ∷ 0 ∷ 67305985 ∷ 5 ∷ []; states = []; foreign = 0 }

abbrev pub noted : ℕ → ℕ → ℕ → QtdNote
noted next first told = record { next = next; buffer = first ∷ 0 ∷ 0 ∷ 0 ∷ 0 ∷ []; runs = 1; told = told; moved = 0 }

abbrev pub notes : List QtdNote
notes = noted 1 0 0 ∷ noted 2 1 5 ∷ []
