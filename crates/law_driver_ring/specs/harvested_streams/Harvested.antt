-- What a driver reads at a harvest, where memory is told by its structures (EHCI 1.0, 3.5.4 and 4.10).
--     IsNoted note t bs       what the driver noted of the qTD t with this buffer: how many bytes it has, and the address of each
--     TokenIsRead             the token that a harvest reads is that of the qTD
--     BytesAreRead            the bytes that it reads are the first of the buffer
--     DoneIsHarvested         of a qTD that is done it reads all bytes that were moved, and no others
use Rattle.std.specs.Prelude.{◌≡◌, ℕ, ◌+◌, ◌*◌, ◌<◌, ◌≤◌, Bool, false, List, length, take, Some}
use Rattle.word_mem.specs.Memory.{Mem}
use Rattle.mem_bytes.specs.Bytes.{place}
use Rattle.qh_qtd.specs.declared.qtd.Qtd.{Qtd}
use Rattle.law_structures.specs.lent_structures.Structures.{Element, Buffer, StructureSets, Tells}
use Rattle.law_structures.specs.lent_structures.Sound.{element_pages, buffer_name, IsMember}
use Rattle.law_ring.specs.Hand.{Hand}
use Rattle.law_ring.specs.Told.{Told}
use Rattle.drv_table.specs.declared.content.QtdNote.{QtdNote}
use Rattle.drv_table.specs.Harvests.{token_in, moved_of, buffer_address, buffer_bytes}

pub record IsNoted (note : QtdNote) (t : Qtd) (bs : List ℕ) : Type 0 where
  pub told : note.told ≡ length bs
  pub places : (j : ℕ) → j < length bs → buffer_address note j ≡ place (element_pages t) (t.offset + j)

abbrev pub TokenIsRead : Type 0
TokenIsRead = (m : Mem) (parts : StructureSets) (n b : ℕ) (t : Qtd) → Tells m parts → parts n (32 * b) ≡ Some (Element t) → token_in m b ≡ t.token

abbrev pub BytesAreRead : Type 0
BytesAreRead = (m : Mem) (parts : StructureSets) (n : ℕ) (t : Qtd) (bs : List ℕ) (note : QtdNote) (k : ℕ) → Tells m parts
    → parts n (buffer_name t) ≡ Some (Buffer (element_pages t) t.offset bs) → IsNoted note t bs → k ≤ length bs → buffer_bytes m note k ≡ take k bs

abbrev pub DoneIsHarvested : Type 0
DoneIsHarvested = (member : ℕ → Bool) (m : Mem) (parts : StructureSets) (hand : Hand) (n b : ℕ) (t : Qtd) (bs : List ℕ) (note : QtdNote) (x : List ℕ) → Tells m parts → IsMember member n (parts n)
    → parts n (32 * b) ≡ Some (Element t) → parts n (buffer_name t) ≡ Some (Buffer (element_pages t) t.offset bs) → IsNoted note t bs → (token_in m b).active ≡ false
    → Told hand parts n (32 * b) x → buffer_bytes m note (moved_of note.told (token_in m b).total) ≡ x
