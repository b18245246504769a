-- What a driver holds back of a transfer of which some qTDs are harvested (EHCI 1.0, 3.5.4 and 4.10): each of them is done, and what was moved of it stands in
-- its buffer, as it is noted.
--     IsDone hand parts n b k x       of the done qTD in block b the k bytes x were moved
--     AreHeld hand parts n note b i c xs
--                                     so were the bytes xs of the i qTDs from block b on, up to that in block c
--     AreUnmoved note b i             nothing is noted as moved of the i qTDs from block b on
--     told_of note b i                the most bytes that are told of these
--     IsRead part note b              the qTD in block b and its buffer are those that were noted
--     NotesMoved note now c k         the qTD in block c is noted with k bytes moved
use Rattle.std.specs.Prelude.{◌≡◌, ◌≢◌, ℕ, zero, suc, ◌+◌, ◌*◌, ◌<◌, ◌⊎◌, false, List, [], ◌++◌, length, Some}
use Rattle.mem_bytes.specs.Bytes.{place}
use Rattle.qh_qtd.specs.declared.qtd.Qtd.{Qtd}
use Rattle.law_structures.specs.lent_structures.Structures.{Element, Structures, StructureSets}
use Rattle.law_structures.specs.lent_structures.Sound.{element_pages, HasBuffer}
use Rattle.law_ring.specs.Hand.{Hand}
use Rattle.law_ring.specs.Effects.{buffer_of}
use Rattle.law_ring.specs.Told.{Told}
use Rattle.drv_table.specs.declared.content.QtdNote.{QtdNote}
use Rattle.drv_table.specs.Harvests.{buffer_address}

pub record IsDone (hand : Hand) (parts : StructureSets) (n b k : ℕ) (x : List ℕ) : Type 0 where
  pub qtd : Qtd
  pub here : parts n (32 * b) ≡ Some (Element qtd)
  pub off : qtd.token.active ≡ false
  pub told : Told hand parts n (32 * b) x
  pub count : length x ≡ k

pub data AreHeld (hand : Hand) (parts : StructureSets) (n : ℕ) (note : ℕ → QtdNote) : ℕ → ℕ → ℕ → List ℕ → Type 0 where
  none_held : (b : ℕ) → AreHeld hand parts n note b zero b []
  one_held : (b i c : ℕ) (x xs : List ℕ) → IsDone hand parts n b (note b).moved x → AreHeld hand parts n note (note b).next i c xs → AreHeld hand parts n note b (suc i) c (x ++ xs)

abbrev pub AreUnmoved : (ℕ → QtdNote) → ℕ → ℕ → Type 0
AreUnmoved note b zero = Unit {0}
AreUnmoved note b (suc i) = ((note b).moved ≡ 0) × AreUnmoved note (note b).next i

abbrev pub told_of : (ℕ → QtdNote) → ℕ → ℕ → ℕ
told_of note b zero = 0
told_of note b (suc i) = (note b).told + told_of note (note b).next i

-- one of i qTDs from block b on
abbrev pub IsOneFrom : (ℕ → QtdNote) → ℕ → ℕ → ℕ → Type 0
IsOneFrom note b zero c = ⊥
IsOneFrom note b (suc i) c = (c ≡ b) ⊎ IsOneFrom note (note b).next i c

pub record IsRead (part : Structures) (note : QtdNote) (b : ℕ) : Type 0 where
  pub qtd : Qtd
  pub here : part (32 * b) ≡ Some (Element qtd)
  pub long : length (buffer_of part qtd) ≡ note.told
  pub buffer : 0 < note.told → HasBuffer part qtd note.told
  pub places : (j : ℕ) → j < note.told → buffer_address note j ≡ place (element_pages qtd) (qtd.offset + j)

abbrev pub AreRead : Structures → (ℕ → QtdNote) → ℕ → ℕ → Type 0
AreRead part note b zero = Unit {0}
AreRead part note b (suc i) = IsRead part (note b) b × AreRead part note (note b).next i

pub record NotesMoved (note now : ℕ → QtdNote) (c k : ℕ) : Type 0 where
  pub here : now c ≡ record (note c) { moved = k }
  pub beside : (b : ℕ) → b ≢ c → now b ≡ note b
