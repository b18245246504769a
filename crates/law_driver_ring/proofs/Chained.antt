-- The words of a chain of qTDs stand once they were stored.
use Rattle.std.proofs.Common.{◌≡◌, ◌≢◌, ℕ, ◌+◌, ◌*◌, ◌/◌, ◌<◌, ◌≤◌, List, [], ◌∷◌, length, ap, refl, sym, subst, ◌∙◌, arith}
use Rattle.std.specs.List.{AllByRecursion}
use Rattle.law_driver_ring.proofs.Common.{stored_one}
use Rattle.word_mem.specs.Runs.{Run}
use Rattle.word_mem.specs.Memory.{Mem, with_word}
use Rattle.word_mem.specs.Views.{words_in, words_at, with_words_in, with_words}
use Rattle.word_mem.proofs.Words.{words_in_same, words_in-with_words_in_same}
use Rattle.word_mem.proofs.Holders.{has_block_from}
use Rattle.qh_qtd.specs.declared.qtd.Qtd.{Qtd}
use Rattle.qh_qtd.specs.Qtd.{qtd_words}
use Rattle.mem_runs.specs.declared.slots.Slot.{Slot}
use Rattle.mem_runs.specs.declared.slots.Slot.TheVariants.{Keeps}
use Rattle.mem_runs.specs.Book.{Book, slot_of, store_words}
use Rattle.drv_table.specs.declared.content.QtdNote.{QtdNote}
use Rattle.drv_table.specs.declared.content.Stage.{Stage}
use Rattle.drv_table.specs.Words.{dummy_qtd}
use Rattle.drv_table.specs.Harvests.{note_at}
use Rattle.drv_table.specs.Offers.{is_last, stage_words, write_stages}
use Rattle.claims_driver.specs.Owners.{SlotHas}
use Rattle.law_driver.proofs.lemmas.ring_members.Stores.{AreApart, AreNotAt, words_elsewhere, stages_elsewhere}
use Rattle.law_driver_ring.proofs.PartAccepting.{words_large}
use Rattle.law_driver_ring.specs.Written.{AreAllApart, next_blocks, last_block, AreWritten}

-- ---- words in a run that is kept

stored_all : (k : Book) (m : Mem) (b at : ℕ) (ws : List ℕ) (r : Run) → slot_of k.slots b ≡ Keeps r → 32 * r.first ≤ at → at + 4 * length ws ≤ 32 * (r.first + r.blocks) → store_words k m b at ws ≡ with_words m at ws
unfolding store_words with_words_in
stored_all k m b at [] r there from fits = refl
stored_all k m b at (v ∷ vs) r there from fits =
    ap (λ q. store_words k q b (at + 4) vs) (stored_one k m b at v r there from (omega (arith, fits))) ∙ stored_all k (with_word m at v) b (at + 4) vs r there (omega (arith, from)) (omega (arith, fits))

eight : (t : Qtd) → length (qtd_words t) ≡ 8
unfolding qtd_words
eight t = refl

-- a slot of one block, which lies in memory
pub record IsBlock (k : Book) (size c : ℕ) : Type 0 where
  pub run : Run
  pub is : slot_of k.slots c ≡ Keeps run
  pub first : run.first ≡ c
  pub one : run.blocks ≡ 1
  pub room : 8 * c + 8 ≤ size

pub block_has : (k : Book) (size c i : ℕ) → IsBlock k size c → i < 8 → SlotHas (slot_of k.slots c) ((32 * c + 4 * i) / 32)
block_has k size c i b below =
    let first = b.first in
    let one = b.one in
    subst (λ (s : Slot). SlotHas s ((32 * c + 4 * i) / 32)) (sym b.is) (has_block_from b.run ((32 * c + 4 * i) / 32) (omega (arith, first)) (omega (arith, first, one, below)))

row_stored : (k : Book) (m : Mem) (c : ℕ) (ws : List ℕ) → IsBlock k (length m.words) c → length ws ≡ 8 → words_at (store_words k m c (32 * c) ws) (32 * c) 8 ≡ ws
row_stored k m c ws b many =
    let first = b.first in
    let one = b.one in
    let room = b.room in
    ap (λ (q : Mem). words_at q (32 * c) 8) (stored_all k m c (32 * c) ws b.run b.is (omega (arith, first)) (omega (arith, first, one, many)))
    ∙ ap (λ (n : ℕ). words_in (with_words_in m.words (32 * c) ws) (32 * c) n) (sym many)
    ∙ words_in-with_words_in_same m.words (32 * c) ws (omega arith) (omega (arith, room, many))

-- ---- no later qTD stands there

not_at : (notes : List QtdNote) (c : ℕ) (ss : List Stage) (b : ℕ) → AllByRecursion (λ k. k ≢ c) (b ∷ next_blocks notes ss b) → AreNotAt notes c b (length ss)
not_at notes c [] b all = tt
not_at notes c (s ∷ ss) b all = (λ same. all.0 (sym same), not_at notes c ss (note_at notes b).next all.1)

last_not : (notes : List QtdNote) (c : ℕ) (ss : List Stage) (b : ℕ) → AllByRecursion (λ k. k ≢ c) (b ∷ next_blocks notes ss b) → last_block notes ss b ≢ c
last_not notes c [] b all same = all.0 same
last_not notes c (s ∷ ss) b all same = last_not notes c ss (note_at notes b).next all.1 same

-- ---- the chain

pub chain_stored : (k : Book) (m : Mem) (notes : List QtdNote) (dummy : ℕ) (ss : List Stage) (b : ℕ) → AreApart k.slots → AllByRecursion (IsBlock k (length m.words)) (b ∷ next_blocks notes ss b) → AreAllApart (b ∷ next_blocks notes ss b) → last_block notes ss b ≡ dummy
    → AreWritten (store_words k (write_stages k m notes dummy ss b) dummy (32 * dummy) (qtd_words dummy_qtd)) notes dummy ss b
chain_stored k m notes dummy [] b apart blocks differ ends =
    subst (λ (c : ℕ). words_at (store_words k m c (32 * c) (qtd_words dummy_qtd)) (32 * b) 8 ≡ qtd_words dummy_qtd) ends (row_stored k m b (qtd_words dummy_qtd) blocks.0 (eight dummy_qtd))
chain_stored k m notes dummy (s ∷ ss) b apart blocks differ ends =
    let next = (note_at notes b).next in
    let ws = stage_words notes s b dummy (is_last ss) in
    let one = store_words k m b (32 * b) ws in
    let mid = write_stages k one notes dummy ss next in
    let last = store_words k mid dummy (32 * dummy) (qtd_words dummy_qtd) in
    let size = (words_large k m b (32 * b) ws).size in
    let not_dummy : b ≢ dummy = λ same. last_not notes b ss next differ.0 (ends ∙ sym same) in (
      words_in_same one.words last.words (32 * b) 8
          (λ i below.
          words_elsewhere k mid dummy b (32 * dummy) (32 * b + 4 * i) (qtd_words dummy_qtd) apart not_dummy (block_has k (length m.words) b i blocks.0 below)
          ∙ stages_elsewhere k one notes dummy ss next b (32 * b + 4 * i) apart (block_has k (length m.words) b i blocks.0 below) (not_at notes b ss next differ.0))
          ∙ row_stored k m b ws blocks.0 (eight _),
      chain_stored k one notes dummy ss next apart (subst (λ (n : ℕ). AllByRecursion (IsBlock k n) (next ∷ next_blocks notes ss next)) (sym size) blocks.1) differ.1 ends,
    )
