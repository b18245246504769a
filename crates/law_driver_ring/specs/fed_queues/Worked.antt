-- Notes for worked rows, and the qTDs that are written for them.
use Rattle.std.specs.Prelude.{false, [], ◌∷◌, None}
use Rattle.qh_qtd.specs.declared.qtd.Qtd.{Qtd}
use Rattle.drv_table.specs.declared.content.QtdNote.{QtdNote}
use Rattle.drv_table.specs.Words.{in_stage, out_stage, setup_stage, new_qtd}
use Rattle.law_structures.specs.lent_structures.Structures.{Element, Buffer, Structures, with_structure}
use Rattle.law_structures.specs.lent_structures.Sound.{element_pages}

-- the qTD after it stands in block 140, and its buffer of 600 bytes begins in block 261
abbrev pub noted : QtdNote
noted = record { next = 140; buffer = 261 ∷ 0 ∷ 0 ∷ 0 ∷ 0 ∷ []; runs = 1; told = 600; moved = 0 }

-- the qTD that is written for it, of a get that leads to block 143
abbrev pub written : Qtd
written = new_qtd (in_stage 600) 140 143 noted.buffer false

-- .. and of a put
abbrev pub sent : Qtd
sent = new_qtd (out_stage 600) 140 143 noted.buffer false

-- the qTD of a SETUP in block 141, which leads to that of its status in block 142; its eight bytes stand in block 262, and none of them is told
abbrev pub setup_noted : QtdNote
setup_noted = record { next = 142; buffer = 262 ∷ 0 ∷ 0 ∷ 0 ∷ 0 ∷ []; runs = 1; told = 0; moved = 0 }

abbrev pub setup_written : Qtd
setup_written = new_qtd setup_stage 142 143 setup_noted.buffer false

abbrev pub setup_part : Structures
setup_part = with_structure (with_structure (λ a. None) 4512 (Element setup_written)) 8384 (Buffer (element_pages setup_written) setup_written.offset (0 ∷ 5 ∷ 3 ∷ 0 ∷ 0 ∷ 0 ∷ 0 ∷ 0 ∷ []))
