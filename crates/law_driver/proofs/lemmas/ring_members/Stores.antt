-- Which words stores leave as they are: those of runs of other owners.
use Rattle.std.proofs.Common.{◌≡◌, ◌≢◌, ℕ, zero, suc, ◌+◌, ◌*◌, ◌/◌, ◌<◌, ◌≤◌, Bool, true, false, cond, List, [], ◌∷◌, length, take, drop, get_or, ap, subst, ◌∙◌, refl, arith}
use Rattle.std.proofs.lemmas.Bool.Decides.{nat_tests}
use Rattle.std.proofs.lemmas.List.{get_or-set_other, get_or-set_same}
use Rattle.law_driver.proofs.Common.{stores_in}
use Rattle.word_mem.specs.Runs.{Run}
use Rattle.word_mem.specs.Memory.{Mem, word_at, with_word}
use Rattle.word_mem.specs.Owners.{has_block}
use Rattle.word_mem.proofs.Holders.{has_block_from}
use Rattle.mem_runs.specs.Book.{Book, Holding, Stands, slot_of, has_address, can_store, store, store_words}
use Rattle.mem_runs.specs.declared.slots.Slot.{Slot}
use Rattle.drv_table.specs.declared.content.QtdNote.{QtdNote}
use Rattle.drv_table.specs.declared.content.Stage.{Stage}
use Rattle.drv_table.specs.Words.{pieces}
use Rattle.drv_table.specs.Harvests.{note_at, buffer_address}
use Rattle.drv_table.specs.Offers.{stage_words, is_last, write_stages, word_from, write_bytes, sends, send_stages}
use Rattle.claims_driver.specs.Owners.{SlotHas}
use Rattle.law_driver.proofs.lemmas.run_owners.Apart.{runs_apart}

-- no two runs of the slots share a block
abbrev pub AreApart : List Slot → Type 0
AreApart slots = (b c k : ℕ) → c ≢ b → SlotHas (slot_of slots b) k → SlotHas (slot_of slots c) k → ⊥

pub slots_apart : (h : Holding) → Stands h → AreApart h.book.slots
slots_apart h stands = λ b c k differs one two. runs_apart h b c k stands differs one two

-- a word that can be stored lies in a block of the run
address_in : (r : Run) (at : ℕ) → has_address r at ≡ true → has_block r (at / 32) ≡ true
address_in r at has =
    let parts : (32 * r.first ≤ at) × (at < 32 * (r.first + r.blocks)) = grind (arith, nat_tests) in
    has_block_from r (at / 32) (omega (arith, parts.0)) (omega (arith, parts.1))

-- none of n qTDs from block b on, and none of their buffers, begins in block c
abbrev pub AreNotAt : List QtdNote → ℕ → ℕ → ℕ → Type 0
AreNotAt notes c b zero = Unit {0}
AreNotAt notes c b (suc n) = (c ≢ b) × AreNotAt notes c (note_at notes b).next n

abbrev pub AreBuffersNotAt : List QtdNote → ℕ → ℕ → ℕ → Type 0
AreBuffersNotAt notes c b zero = Unit {0}
AreBuffersNotAt notes c b (suc n) = ((j : ℕ) → c ≢ get_or (note_at notes b).buffer j 0) × AreBuffersNotAt notes c (note_at notes b).next n

stored_at : (k : Book) (m : Mem) (b c at v other : ℕ) (can : Bool) → can_store (slot_of k.slots b) at ≡ can → AreApart k.slots → c ≢ b → SlotHas (slot_of k.slots c) (other / 32) → word_at (cond can (with_word m at v) m) other ≡ word_at m other
stored_at k m b c at v other true can apart differs here =
    get_or-set_other m.words (at / 4) (other / 4) v 0
    (λ same.
    let block : other / 32 ≡ at / 32 = omega (arith, same) in
    apart b c (at / 32) differs (stores_in (slot_of k.slots b) at can) (subst (λ x. SlotHas (slot_of k.slots c) x) block here))
stored_at k m b c at v other false can apart differs here = refl

pub store_elsewhere : (k : Book) (m : Mem) (b c at v other : ℕ) → AreApart k.slots → c ≢ b → SlotHas (slot_of k.slots c) (other / 32) → word_at (store k m b at v) other ≡ word_at m other
store_elsewhere k m b c at v other apart differs here = stored_at k m b c at v other (can_store (slot_of k.slots b) at) refl apart differs here

pub words_elsewhere : (k : Book) (m : Mem) (b c at other : ℕ) (ws : List ℕ) → AreApart k.slots → c ≢ b → SlotHas (slot_of k.slots c) (other / 32) → word_at (store_words k m b at ws) other ≡ word_at m other
unfolding store_words
words_elsewhere k m b c at other [] apart differs here = refl
words_elsewhere k m b c at other (v ∷ vs) apart differs here =
    words_elsewhere k (store k m b at v) b c (at + 4) other vs apart differs here ∙ store_elsewhere k m b c at v other apart differs here

-- the words of qTDs, of which none begins in block c
pub stages_elsewhere : (k : Book) (m : Mem) (notes : List QtdNote) (dummy : ℕ) (ss : List Stage) (b c other : ℕ) → AreApart k.slots → SlotHas (slot_of k.slots c) (other / 32) → AreNotAt notes c b (length ss) → word_at (write_stages k m notes dummy ss b) other ≡ word_at m other
stages_elsewhere k m notes dummy [] b c other apart here not = refl
stages_elsewhere k m notes dummy (s ∷ ss) b c other apart here not =
    stages_elsewhere k (store_words k m b (32 * b) (stage_words notes s b dummy (is_last ss))) notes dummy ss (note_at notes b).next c other apart here not.1
    ∙ words_elsewhere k m b c (32 * b) other (stage_words notes s b dummy (is_last ss)) apart not.0 here

-- the bytes of a buffer, of which no run begins in block c
pub bytes_elsewhere : (k : Book) (m : Mem) (note : QtdNote) (bytes : List ℕ) (i n c other : ℕ) → AreApart k.slots → SlotHas (slot_of k.slots c) (other / 32) → ((j : ℕ) → c ≢ get_or note.buffer j 0) → word_at (write_bytes k m note bytes i n) other ≡ word_at m other
bytes_elsewhere k m note bytes i zero c other apart here not = refl
bytes_elsewhere k m note bytes i (suc n) c other apart here not =
    bytes_elsewhere k (store k m (get_or note.buffer (i / 4096) 0) (buffer_address note i) (word_from bytes i)) note bytes (i + 4) n c other apart here not
    ∙ store_elsewhere k m (get_or note.buffer (i / 4096) 0) c (buffer_address note i) (word_from bytes i) other apart (not (i / 4096)) here

pub sends_elsewhere : (k : Book) (m : Mem) (notes : List QtdNote) (ss : List Stage) (b : ℕ) (bytes : List ℕ) (c other : ℕ) → AreApart k.slots → SlotHas (slot_of k.slots c) (other / 32) → AreBuffersNotAt notes c b (length ss) → word_at (send_stages k m notes ss b bytes) other ≡ word_at m other
sends_elsewhere k m notes [] b bytes c other apart here not = refl
sends_elsewhere k m notes (s ∷ ss) b bytes c other apart here not =
    sends_elsewhere k (write_bytes k m (note_at notes b) (take (sends s) bytes) 0 (pieces (sends s) 4)) notes ss (note_at notes b).next (drop (sends s) bytes) c other apart here not.1
    ∙ bytes_elsewhere k m (note_at notes b) (take (sends s) bytes) 0 (pieces (sends s) 4) c other apart here not.0

-- ---- what stands once it was stored

-- the word is still there once later words of the same row were stored
pub words_below : (k : Book) (m : Mem) (b at other : ℕ) (ws : List ℕ) → other / 4 < at / 4 → word_at (store_words k m b at ws) other ≡ word_at m other
unfolding store_words
words_below k m b at other [] below = refl
words_below k m b at other (v ∷ vs) below =
    words_below k (store k m b at v) b (at + 4) other vs (omega (arith, below)) ∙ before (can_store (slot_of k.slots b) at)
  where
    before : (can : Bool) → word_at (cond can (with_word m at v) m) other ≡ word_at m other
    before true = get_or-set_other m.words (at / 4) (other / 4) v 0 (λ same. omega (arith, same, below))
    before false = refl

pub first_stored : (k : Book) (m : Mem) (b at v : ℕ) (vs : List ℕ) → can_store (slot_of k.slots b) at ≡ true → at / 4 < length m.words → word_at (store_words k m b at (v ∷ vs)) at ≡ v
unfolding store_words
first_stored k m b at v vs can inside =
    words_below k (store k m b at v) b (at + 4) at vs (omega arith)
    ∙ ap (λ (t : Bool). word_at (cond t (with_word m at v) m) at) can
    ∙ get_or-set_same m.words (at / 4) v 0 inside
