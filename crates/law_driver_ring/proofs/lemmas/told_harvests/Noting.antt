-- A qTD that is found done is noted with the bytes that were moved of it.
use Rattle.std.proofs.Common.{◌≡◌, ℕ, zero, suc, ◌-◌, ◌*◌, ◌≤◌, false, List, [], ◌∷◌, length, take, slice_set, slice_index_or, ap, refl, sym, ◌∙◌, arith}
use Rattle.law_driver_ring.proofs.Common.{moved_is, set_else}
use Rattle.word_mem.specs.Memory.{Mem}
use Rattle.qh_qtd.specs.declared.token.Token.{Token}
use Rattle.law_structures.specs.lent_structures.Structures.{StructureSets, Tells}
use Rattle.law_ring.specs.Hand.{Hand}
use Rattle.law_ring.specs.Effects.{buffer_of}
use Rattle.law_ring.specs.Told.{Told}
use Rattle.law_ring.specs.QueueParts.{IsQueuePart}
use Rattle.drv_table.specs.declared.content.QtdNote.{QtdNote}
use Rattle.drv_table.specs.DriverContent.{no_note}
use Rattle.drv_table.specs.Harvests.{note_at, noted, token_in, moved_of}
use Rattle.law_driver_ring.proofs.lemmas.harvested_streams.Harvesting.{token_is_read}
use Rattle.law_driver_ring.specs.told_harvests.Held.{IsDone, IsRead, NotesMoved}
use Rattle.law_driver_ring.proofs.lemmas.told_harvests.Done.{done_in_part}

length_of_taken : (k : ℕ) (xs : List ℕ) → k ≤ length xs → length (take k xs) ≡ k
length_of_taken zero xs within = refl
length_of_taken (suc k) [] within = absurd (omega (arith, within))
length_of_taken (suc k) (x ∷ xs) within = let z = length_of_taken k xs (omega (arith, within)) in omega (arith, z)

pub found_is_done : (m : Mem) (parts : StructureSets) (hand : Hand) (n b : ℕ) (x : List ℕ) (note : QtdNote) → Tells m parts → IsQueuePart n (parts n) → IsRead (parts n) note b → (token_in m b).active ≡ false
    → Told hand parts n (32 * b) x → IsDone hand parts n b (moved_of note.told (token_in m b).total) x
found_is_done m parts hand n b x note tells k r off told =
    let token : token_in m b ≡ r.qtd.token = token_is_read m parts n b r.qtd tells r.here in
    let idle : r.qtd.token.active ≡ false = ap (λ (z : Token). z.active) (sym token) ∙ off in
    record {
      qtd = r.qtd;
      here = r.here;
      off = idle;
      told = told;
      count = ap length (done_in_part parts hand n (32 * b) r.qtd x k r.here idle told) ∙ length_of_taken (length (buffer_of (parts n) r.qtd) - r.qtd.token.total) (buffer_of (parts n) r.qtd) (omega arith)
          ∙ ap (λ (i : ℕ). i - r.qtd.token.total) r.long ∙ ap (λ (z : Token). note.told - z.total) (sym token) ∙ sym (moved_is note.told (token_in m b).total);
    }

-- ---- the notes

set_there : (notes : List QtdNote) (c : ℕ) (new : QtdNote) → (slice_index_or notes c no_note ≡ no_note → new ≡ no_note) → slice_index_or (slice_set notes c new) c no_note ≡ new
set_there [] c new gone = sym (gone refl)
set_there (a ∷ rest) zero new gone = refl
set_there (a ∷ rest) (suc c) new gone = set_there rest c new gone

-- a block of which nothing is noted tells no bytes
pub found_is_noted : (notes : List QtdNote) (c left : ℕ) → NotesMoved (note_at notes) (note_at (noted notes c (moved_of (note_at notes c).told left))) c (moved_of (note_at notes c).told left)
found_is_noted notes c left = record {
  here = set_there notes c (record (note_at notes c) { moved = moved_of (note_at notes c).told left }) (λ none.
      ap (λ (z : QtdNote). record z { moved = moved_of z.told left }) none ∙ ap (λ (i : ℕ). record no_note { moved = i }) (moved_is 0 left ∙ none_left left));
  beside = λ b differs. set_else notes c b (record (note_at notes c) { moved = moved_of (note_at notes c).told left }) differs;
}
  where
    none_left : (i : ℕ) → 0 - i ≡ 0
    none_left i = omega arith
