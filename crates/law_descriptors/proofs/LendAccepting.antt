-- Isochronous descriptors that were accepted are written into runs that are kept.
use Rattle.std.proofs.Common.{◌≡◌, ◌≢◌, ℕ, zero, suc, ◌+◌, ◌*◌, ◌/◌, ◌<◌, ◌≤◌, Bool, true, false, cond, List, [], ◌∷◌, ◌++◌, length, take, drop, get_or, replicate, ap, refl, subst, ◌∙◌, inl, inr, arith}
use Rattle.law_driver.proofs.Common.{stored_many}
use Rattle.law_driver_ring.proofs.Common.{stored_one}
use Rattle.law_common.proofs.Lists.{filled}
use Rattle.usb_base.specs.declared.endpoints.EpDesc.{EpDesc}
use Rattle.word_mem.specs.Runs.{Run}
use Rattle.word_mem.specs.Memory.{Mem, word_at, with_word}
use Rattle.word_mem.specs.Views.{words_in as words_from, words_at, with_words_in, with_words}
use Rattle.word_mem.proofs.Words.{words_in-with_words_in_same}
use Rattle.mem_runs.specs.declared.slots.Slot.TheVariants.{Keeps}
use Rattle.mem_runs.specs.Book.{Book, slot_of, store, store_words}
use Rattle.drv_periodic_table.specs.declared.content.DescriptorNote.{DescriptorNote}
use Rattle.drv_periodic_table.specs.Descriptors.{is_in, buffer_address, seeded_word, descriptor_words, write_seeded}
use Rattle.drv_table.specs.Words.{pieces}
use Rattle.drv_table.specs.IsoOffers.{written_descriptor}
use Rattle.claims_driver.specs.Owners.{SlotHas}
use Rattle.law_driver.proofs.lemmas.ring_members.Stores.{AreApart, store_elsewhere}
use Rattle.law_driver_ring.proofs.Lists.{IsOneOf}

-- ---- lists that are filled up

pub filled_at : (k m : ℕ) (xs zs : List ℕ) (j : ℕ) → j < k → k ≤ m → k ≤ length xs → get_or (take m (take k xs ++ zs)) j 0 ≡ get_or xs j 0
filled_at zero m xs zs j below few long = absurd (omega (arith, below))
filled_at (suc k) zero xs zs j below few long = absurd (omega (arith, few))
filled_at (suc k) (suc m) [] zs j below few long = absurd (omega (arith, long))
filled_at (suc k) (suc m) (x ∷ xs) zs zero below few long = refl
filled_at (suc k) (suc m) (x ∷ xs) zs (suc j) below few long = filled_at k m xs zs j (omega (arith, below)) (omega (arith, few)) (omega (arith, long))

few_zeros : (m n i : ℕ) → get_or (take m (replicate {A = ℕ} n 0)) i 0 ≡ 0
few_zeros zero n i = refl
few_zeros (suc m) zero i = refl
few_zeros (suc m) (suc n) zero = refl
few_zeros (suc m) (suc n) (suc i) = few_zeros m n i

pub past_zeros : (m n : ℕ) (xs : List ℕ) (i : ℕ) → length xs ≤ i → get_or (take m (xs ++ replicate {A = ℕ} n 0)) i 0 ≡ 0
past_zeros zero n xs i past = refl
past_zeros (suc m) n [] i past = few_zeros (suc m) n i
past_zeros (suc m) n (x ∷ xs) zero past = absurd (omega (arith, past))
past_zeros (suc m) n (x ∷ xs) (suc i) past = past_zeros m n xs i (omega (arith, past))

one_taken : (k : ℕ) (xs : List ℕ) (j : ℕ) → j < k → k ≤ length xs → IsOneOf (get_or xs j 0) (take k xs)
one_taken zero xs j below long = absurd (omega (arith, below))
one_taken (suc k) [] j below long = absurd (omega (arith, long))
one_taken (suc k) (x ∷ xs) zero below long = inl refl
one_taken (suc k) (x ∷ xs) (suc j) below long = inr (one_taken k xs j (omega (arith, below)) (omega (arith, long)))

pub one_dropped : (k c : ℕ) (xs : List ℕ) → IsOneOf c (drop k xs) → IsOneOf c xs
one_dropped zero c xs one = one
one_dropped (suc k) c [] one = one
one_dropped (suc k) c (x ∷ xs) one = inr (one_dropped k c xs one)

-- ---- how much is written

size_words : (k : Book) (m : Mem) (b at : ℕ) (ws : List ℕ) → length (store_words k m b at ws).words ≡ length m.words
unfolding store_words
size_words k m b at [] = refl
size_words k m b at (v ∷ vs) = size_words k (store k m b at v) b (at + 4) vs ∙ stored_many k m b at v

size_seeded : (k : Book) (m : Mem) (runs : List ℕ) (seed total i n : ℕ) → length (write_seeded k m runs seed total i n).words ≡ length m.words
size_seeded k m runs seed total i zero = refl
size_seeded k m runs seed total i (suc n) =
    size_seeded k (store k m (get_or runs (i / 4096) 0) (buffer_address runs i) (seeded_word seed total i)) runs seed total (i + 4) n ∙ stored_many k m (get_or runs (i / 4096) 0) (buffer_address runs i) (seeded_word seed total i)

pub size_written : (k : Book) (m : Mem) (x : EpDesc) (note : DescriptorNote) (b seed total : ℕ) → length (written_descriptor k m x note b seed total).words ≡ length m.words
size_written k m x note b seed total = by (is_in x.name.way) ∙ size_words k m b (32 * b) (descriptor_words x note)
  where
    by : (way : Bool) → length (cond way (store_words k m b (32 * b) (descriptor_words x note)) (write_seeded k (store_words k m b (32 * b) (descriptor_words x note)) note.buffer seed total 0 (pieces total 4))).words ≡ length (store_words k m b (32 * b) (descriptor_words x note)).words
    by true = refl
    by false = size_seeded k (store_words k m b (32 * b) (descriptor_words x note)) note.buffer seed total 0 (pieces total 4)

-- ---- the words of other runs stay

seeded_apart : (k : Book) (m : Mem) (runs : List ℕ) (seed total i n r c other : ℕ) → AreApart k.slots → SlotHas (slot_of k.slots c) (other / 32) → ((j : ℕ) → j < r → c ≢ get_or runs j 0) → i + 4 * n ≤ 4096 * r + 3
    → word_at (write_seeded k m runs seed total i n) other ≡ word_at m other
seeded_apart k m runs seed total i zero r c other apart here not room = refl
seeded_apart k m runs seed total i (suc n) r c other apart here not room =
    seeded_apart k (store k m (get_or runs (i / 4096) 0) (buffer_address runs i) (seeded_word seed total i)) runs seed total (i + 4) n r c other apart here not (omega (arith, room))
    ∙ store_elsewhere k m (get_or runs (i / 4096) 0) c (buffer_address runs i) (seeded_word seed total i) other apart (not (i / 4096) (omega (arith, room))) here

pub seeds_apart : (k : Book) (x : EpDesc) (note : DescriptorNote) (m : Mem) (seed total r c other : ℕ) → AreApart k.slots → SlotHas (slot_of k.slots c) (other / 32) → ((j : ℕ) → j < r → c ≢ get_or note.buffer j 0) → total ≤ 4096 * r
    → word_at (cond (is_in x.name.way) m (write_seeded k m note.buffer seed total 0 (pieces total 4))) other ≡ word_at m other
seeds_apart k x note m seed total r c other apart here not room = by (is_in x.name.way)
  where
    by : (way : Bool) → word_at (cond way m (write_seeded k m note.buffer seed total 0 (pieces total 4))) other ≡ word_at m other
    by true = refl
    by false = seeded_apart k m note.buffer seed total 0 (pieces total 4) r c other apart here not (omega (arith, room))

-- ---- the words of one run stand once they were stored

stored_all : (k : Book) (m : Mem) (b at : ℕ) (ws : List ℕ) (r : Run) → slot_of k.slots b ≡ Keeps r → 32 * r.first ≤ at → at + 4 * length ws ≤ 32 * (r.first + r.blocks) → store_words k m b at ws ≡ with_words m at ws
unfolding store_words with_words_in
stored_all k m b at [] r there from fits = refl
stored_all k m b at (v ∷ vs) r there from fits =
    ap (λ q. store_words k q b (at + 4) vs) (stored_one k m b at v r there from (omega (arith, fits))) ∙ stored_all k (with_word m at v) b (at + 4) vs r there (omega (arith, from)) (omega (arith, fits))

pub stored_there : (k : Book) (m : Mem) (b n : ℕ) (ws : List ℕ) (r : Run) → slot_of k.slots b ≡ Keeps r → r.first ≡ b → length ws ≡ n → n ≤ 8 * r.blocks → 8 * b + n ≤ length m.words → words_at (store_words k m b (32 * b) ws) (32 * b) n ≡ ws
stored_there k m b n ws r there first long few room =
    subst (λ (i : ℕ). words_at (store_words k m b (32 * b) ws) (32 * b) i ≡ ws) long
    (ap (λ (q : Mem). words_from q.words (32 * b) (length ws)) (stored_all k m b (32 * b) ws r there (omega (arith, first)) (omega (arith, first, long, few)))
    ∙ words_in-with_words_in_same m.words (32 * b) ws (omega arith) (omega (arith, long, room)))
