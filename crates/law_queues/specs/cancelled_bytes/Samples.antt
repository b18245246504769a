-- A cancelled endpoint for worked rows. Its queue head stands in block 0; its get has two qTDs, in blocks 2 and 3, with buffers of four and of eight bytes in
-- blocks 4 and 5. The first qTD was harvested, and of the second five bytes were moved.
--     notes              what is noted of the qTDs
--     half_read          the transfer
--     memory current     the words, where the overlay's current qTD has this address; it counts three bytes that are left, and the token of the second eight
use Rattle.std.specs.Prelude.{ℕ, ◌++◌, false, List, [], ◌∷◌, replicate}
use Rattle.word_mem.specs.Memory.{Mem, all_lent}
use Rattle.drv_table.specs.declared.content.Sort.TheVariants as sorts
use Rattle.drv_table.specs.declared.content.QtdNote.{QtdNote}
use Rattle.drv_table.specs.declared.content.Transfer.{Transfer}
use Rattle.drv_table.specs.DriverContent.{no_note}
use Rattle.drv_table.specs.declared.content.Part.TheVariants as parts

abbrev pub note_of : ℕ → ℕ → ℕ → ℕ → QtdNote
note_of next first told moved = record { next = next; buffer = first ∷ 0 ∷ 0 ∷ 0 ∷ 0 ∷ []; runs = 1; told = told; moved = moved }

abbrev pub notes : List QtdNote
notes = no_note ∷ no_note ∷ note_of 3 4 4 4 ∷ note_of 1 5 8 0 ∷ []

abbrev pub half_read : Transfer
half_read = record { endpoint = 0; sort = sorts.Get; first = 2; qtds = 2; place = 3; left = 1; most = 12; reported = false; released = false; part = parts.Own }

-- tokens stand in words 6, 18 and 26, and the bytes 1 to 9 from words 32 and 40 on
abbrev pub words : ℕ → List ℕ
words current =
    0 ∷ 0 ∷ 0 ∷ current ∷ 0 ∷ 0 ∷ 0x30180
    ∷ (replicate 11 0 ++ 0x100 ∷ (replicate 7 0 ++ 0x80180 ∷ (replicate 5 0 ++ 0x04030201 ∷ (replicate 7 0 ++ 0x08070605 ∷ 9 ∷ replicate 6 0))))

abbrev pub memory : ℕ → Mem
memory current = all_lent (words current)
