-- What a transfer sends goes into its buffers: the words of its qTDs stay.
use Rattle.std.proofs.Common.{◌≡◌, ◌≢◌, ℕ, ◌+◌, ◌*◌, ◌<◌, ◌≤◌, List, [], ◌∷◌, length, take, get_or, ◌∙◌, sym, ⊎_elim}
use Rattle.std.specs.List.{AllByRecursion}
use Rattle.std.proofs.lemmas.Bool.{cases_lt}
use Rattle.word_mem.specs.Memory.{Mem}
use Rattle.word_mem.specs.Views.{words_at}
use Rattle.word_mem.proofs.Words.{words_in_same}
use Rattle.mem_runs.specs.declared.slots.Slot.{Slot}
use Rattle.mem_runs.specs.Book.{Book}
use Rattle.drv_table.specs.declared.content.QtdNote.{QtdNote}
use Rattle.drv_table.specs.declared.content.Stage.{Stage}
use Rattle.drv_table.specs.Harvests.{note_at}
use Rattle.drv_table.specs.Offers.{send_stages}
use Rattle.law_driver.proofs.lemmas.ring_members.Stores.{AreApart, AreBuffersNotAt, sends_elsewhere}
use Rattle.law_driver_ring.specs.Written.{next_blocks, buffer_blocks, AreNoted, AreWritten}
use Rattle.law_driver_ring.proofs.Lists.{IsOneOf, one_left, one_right, at_one}
use Rattle.law_driver_ring.proofs.Buffers.{take_same}
use Rattle.law_driver_ring.proofs.Holding.{past_zero}
use Rattle.law_driver_ring.proofs.Chained.{IsBlock, block_has}

-- ---- no run of a buffer begins in block c

buffer_not : (note : QtdNote) (c j : ℕ) → c ≢ 0 → ((k : ℕ) → IsOneOf k (take note.runs note.buffer) → c ≢ k) → ((i : ℕ) → note.runs ≤ i → get_or note.buffer i 0 ≡ 0) → c ≢ get_or note.buffer j 0
buffer_not note c j some apart rest =
    let cs = take note.runs note.buffer in
    ⊎_elim
    (λ (below : j < length cs) (same : c ≡ get_or note.buffer j 0). apart (get_or cs j 0) (at_one cs j below) (same ∙ sym (take_same note.runs note.buffer j below)))
    (λ (past : length cs ≤ j) (same : c ≡ get_or note.buffer j 0). some (same ∙ past_zero note.runs note.buffer j past rest))
    (cases_lt j (length cs))

pub buffers_not : (slot : ℕ → Slot) (notes : List QtdNote) (c : ℕ) (ss : List Stage) (b : ℕ) → c ≢ 0 → AreNoted slot notes ss b → ((k : ℕ) → IsOneOf k (buffer_blocks notes ss b) → c ≢ k) → AreBuffersNotAt notes c b (length ss)
buffers_not slot notes c [] b some noted apart = tt
buffers_not slot notes c (s ∷ ss) b some noted apart =
    let note = note_at notes b in
    let cs = take note.runs note.buffer in
    let rest = buffer_blocks notes ss note.next in
    (λ j. buffer_not note c j some (λ k one. apart k (one_left k cs rest one)) noted.0.rest, buffers_not slot notes c ss note.next some noted.1 (λ k one. apart k (one_right k cs rest one)))

-- ---- the words of the qTDs

qtd_sent : (k : Book) (m : Mem) (notes : List QtdNote) (all : List Stage) (first : ℕ) (bytes : List ℕ) (size c : ℕ) → AreApart k.slots → IsBlock k size c → AreBuffersNotAt notes c first (length all) → words_at (send_stages k m notes all first bytes) (32 * c) 8 ≡ words_at m (32 * c) 8
qtd_sent k m notes all first bytes size c apart block not =
    words_in_same m.words (send_stages k m notes all first bytes).words (32 * c) 8 (λ i below. sends_elsewhere k m notes all first bytes c (32 * c + 4 * i) apart (block_has k size c i block below) not)

pub chain_sent : (k : Book) (m : Mem) (notes : List QtdNote) (all : List Stage) (first : ℕ) (bytes : List ℕ) (size dummy : ℕ) (ss : List Stage) (b : ℕ) → AreApart k.slots → AllByRecursion (IsBlock k size) (b ∷ next_blocks notes ss b) → AllByRecursion (λ c. AreBuffersNotAt notes c first (length all)) (b ∷ next_blocks notes ss b) → AreWritten m notes dummy ss b
    → AreWritten (send_stages k m notes all first bytes) notes dummy ss b
chain_sent k m notes all first bytes size dummy [] b apart blocks not written = qtd_sent k m notes all first bytes size b apart blocks.0 not.0 ∙ written
chain_sent k m notes all first bytes size dummy (s ∷ ss) b apart blocks not written =
    (qtd_sent k m notes all first bytes size b apart blocks.0 not.0 ∙ written.0, chain_sent k m notes all first bytes size dummy ss (note_at notes b).next apart blocks.1 not.1 written.1)
