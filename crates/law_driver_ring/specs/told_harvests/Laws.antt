-- Laws of what is held back of a transfer, and of what its report tells (EHCI 1.0, 3.5.4 and 4.10).
use Rattle.std.specs.Prelude.{◌≡◌, ℕ, suc, ◌+◌, ◌*◌, ◌≤◌, false, List, ◌∷◌, ◌++◌, take, Some}
use Rattle.word_mem.specs.Memory.{Mem}
use Rattle.qh_qtd.specs.declared.qtd.Qtd.{Qtd}
use Rattle.law_structures.specs.lent_structures.Structures.{Element, StructureSets, Tells}
use Rattle.law_ring.specs.Hand.{Hand}
use Rattle.law_ring.specs.QueueParts.{IsQueuePart}
use Rattle.law_ring.specs.Told.{Told}
use Rattle.law_ring.specs.Order.{Accounts}
use Rattle.law_ring.specs.Sparing.{SameHand, SparesHead, SparesElement}
use Rattle.drv_table.specs.declared.content.QtdNote.{QtdNote}
use Rattle.drv_table.specs.Harvests.{note_at, noted, token_in, moved_of, moved_bytes}
use Rattle.law_driver_ring.specs.told_harvests.Held.{IsDone, AreHeld, AreUnmoved, told_of, IsOneFrom, IsRead, AreRead, NotesMoved}
use Rattle.law_driver_ring.specs.told_harvests.Passed.{IsNoneTold, HarvestsFirst}

-- a qTD that is found done, and what is then noted of it
abbrev pub FoundIsDone : Type 0
FoundIsDone = (m : Mem) (parts : StructureSets) (hand : Hand) (n b : ℕ) (x : List ℕ) (note : QtdNote) → Tells m parts → IsQueuePart n (parts n)
    → IsRead (parts n) note b → (token_in m b).active ≡ false
    → Told hand parts n (32 * b) x → IsDone hand parts n b (moved_of note.told (token_in m b).total) x

abbrev pub FoundIsNoted : Type 0
FoundIsNoted = (notes : List QtdNote) (c left : ℕ) → NotesMoved (note_at notes) (note_at (noted notes c (moved_of (note_at notes c).told left))) c (moved_of (note_at notes c).told left)

-- one more is held back
abbrev pub HeldGrows : Type 0
HeldGrows = (hand : Hand) (parts : StructureSets) (n : ℕ) (note now : ℕ → QtdNote) (k b i c : ℕ) (xs x : List ℕ) → IsDone hand parts n c k x → NotesMoved note now c k
    → AreHeld hand parts n note b i c xs
    → AreHeld hand parts n now b (suc i) (note c).next (xs ++ x)

-- notes of other blocks change
abbrev pub HeldIsNoted : Type 0
HeldIsNoted = (hand : Hand) (parts : StructureSets) (n : ℕ) (note now : ℕ → QtdNote) (b i c : ℕ) (xs : List ℕ) → ((a : ℕ) → IsOneFrom note b i a → now a ≡ note a) → AreHeld hand parts n note b i c xs
    → AreHeld hand parts n now b i c xs

-- structures change, and what is done stays so
abbrev pub HeldStays : Type 0
HeldStays = (hand later : Hand) (parts now : StructureSets) (n : ℕ) (note : ℕ → QtdNote) (b i c : ℕ) (xs : List ℕ)
    → ((a : ℕ) (x : List ℕ) → IsOneFrom note b i a → IsDone hand parts n a (note a).moved x → IsDone later now n a (note a).moved x) → AreHeld hand parts n note b i c xs
    → AreHeld later now n note b i c xs

abbrev pub SparedIsDone : Type 0
SparedIsDone = (hand later : Hand) (parts now : StructureSets) (n b k : ℕ) (x : List ℕ) → SameHand hand later → SparesHead parts now n → SparesElement parts now n (32 * b)
    → IsDone hand parts n b k x → IsDone later now n b k x

-- the report of a transfer of k qTDs, of which the first i are harvested and nothing is noted of the others
abbrev pub ReportIsRead : Type 0
ReportIsRead = (m : Mem) (parts : StructureSets) (hand : Hand) (n : ℕ) → Tells m parts → IsQueuePart n (parts n)
    → (notes : List QtdNote) (b i c l k most : ℕ) (xs : List ℕ) → k ≡ i + l
    → AreHeld hand parts n (note_at notes) b i c xs → AreRead (parts n) (note_at notes) b i → AreUnmoved (note_at notes) c l → told_of (note_at notes) b k ≤ most
    → take most (moved_bytes notes m b k) ≡ xs

-- the first that no short packet passed over is harvested
abbrev pub HarvestTakesFirst : Type 0
HarvestTakesFirst = (order : ℕ → ℕ) (place e : ℕ) (passed rest : List ℕ) (hand : Hand) (parts : StructureSets) (n : ℕ) (xs : List ℕ) (t : Qtd) → parts n e ≡ Some (Element t)
    → t.token.active ≡ false → IsNoneTold hand parts n passed
    → Accounts order place (passed ++ e ∷ rest) hand parts n xs → HarvestsFirst order place e (passed ++ rest) hand parts n xs
