-- Bytes that make whole words of one block.
use Rattle.std.proofs.Common.{◌≡◌, ℕ, zero, suc, ◌+◌, ◌*◌, ◌/◌, ◌%◌, ◌<◌, ◌≤◌, List, [], ◌∷◌, true, length, get_or, set, take, drop, arith, ap, refl, sym, ◌∙◌, slice_get}
use Rattle.std.proofs.lemmas.List.{get_or-drop, drop-drop, length-drop}
use Rattle.word_mem.specs.Memory.{Mem, reaches, is_lent}
use Rattle.word_mem.specs.Views.{with_words_in, with_words, words_at}
use Rattle.word_mem.proofs.Words.{get_or-words_in}
use Rattle.mem_bytes.specs.Bytes.{word_of, bytes_of, words_from, place, put_bytes, with_bytes, bytes_at, AreReached}
use Rattle.mem_bytes.proofs.Stores.{place_next, put_bytes_more, put_bytes_whole, put_bytes_none, take_four}
use Rattle.mem_bytes.proofs.Loads.{bytes_at_word}

-- ---- the bytes of one block

pub block_reached : (m : Mem) (pages : List ℕ) (k at : ℕ) → at ≡ place pages k → at % 32 ≡ 0 → reaches m at ≡ true → AreReached m pages k 32
block_reached m pages k at here whole reached = λ i below.
    let next : place pages (k + i) ≡ place pages k + i = place_next pages k i (omega arith) in
    let same : place pages (k + i) / 32 ≡ at / 32 = omega (arith, next, here) in
    ap (λ b. is_lent (slice_get m.states b)) same ∙ reached

-- ---- stored words

-- four of the bytes
put_one : (ws pages : List ℕ) (k at i : ℕ) (bs : List ℕ) → at ≡ place pages k → at % 4 ≡ 0 → i + 4 ≤ length bs → ((j : ℕ) → get_or bs j 0 < 256) → put_bytes ws pages k (take 4 (drop i bs)) ≡ set ws (at / 4) (word_of (get_or bs i 0 ∷ get_or bs (i + 1) 0 ∷ get_or bs (i + 2) 0 ∷ get_or bs (i + 3) 0 ∷ []))
put_one ws pages k at i bs here aligned within small =
    let none : i + 0 ≡ i = omega arith in
    let first : get_or (drop i bs) 0 0 ≡ get_or bs i 0 = get_or-drop i bs 0 0 ∙ ap (λ (j : ℕ). get_or bs j 0) none in
    let four : take 4 (drop i bs) ≡ get_or bs i 0 ∷ get_or bs (i + 1) 0 ∷ get_or bs (i + 2) 0 ∷ get_or bs (i + 3) 0 ∷ [] =
    take_four (drop i bs) (omega (arith, length-drop i bs))
    ∙ rw (first, get_or-drop i bs 1 0, get_or-drop i bs 2 0, get_or-drop i bs 3 0) refl in
    let also : place pages k % 4 ≡ 0 = rw here at aligned in
    ap (put_bytes ws pages k) four
    ∙ put_bytes_whole ws pages k (get_or bs i 0) (get_or bs (i + 1) 0) (get_or bs (i + 2) 0) (get_or bs (i + 3) 0) also (small i) (small (i + 1)) (small (i + 2)) (small (i + 3))
    ∙ ap (λ (a : ℕ). set ws (a / 4) (word_of (get_or bs i 0 ∷ get_or bs (i + 1) 0 ∷ get_or bs (i + 2) 0 ∷ get_or bs (i + 3) 0 ∷ []))) (sym here)

-- one word after another
put_words_is : (n : ℕ) (ws pages : List ℕ) (k at i : ℕ) (bs : List ℕ) → at ≡ place pages k → at % 4 ≡ 0 → at % 32 + 4 * n ≤ 32 → i + 4 * n ≤ length bs → ((j : ℕ) → get_or bs j 0 < 256) → with_words_in ws at (words_from bs i n) ≡ put_bytes ws pages k (take (4 * n) (drop i bs))
unfolding with_words_in words_from
put_words_is zero ws pages k at i bs here aligned block within small = sym (put_bytes_none ws pages k)
put_words_is (suc zero) ws pages k at i bs here aligned block within small = sym (put_one ws pages k at i bs here aligned (omega arith) small)
put_words_is (suc (suc n)) ws pages k at i bs here aligned block within small =
    let w = word_of (get_or bs i 0 ∷ get_or bs (i + 1) 0 ∷ get_or bs (i + 2) 0 ∷ get_or bs (i + 3) 0 ∷ []) in
    let next : at + 4 ≡ place pages (k + 4) = omega (arith, here, place_next pages k 4 (omega (arith, here))) in
    let count : 4 + 4 * suc n ≡ 4 * suc (suc n) = omega arith in
    put_words_is (suc n) (set ws (at / 4) w) pages (k + 4) (at + 4) (i + 4) bs next (omega arith) (omega arith) (omega arith) small
    ∙ ap (λ xs. put_bytes (set ws (at / 4) w) pages (k + 4) (take (4 * suc n) xs)) (sym (drop-drop 4 i bs))
    ∙ ap (λ xs. put_bytes xs pages (k + 4) (take (4 * suc n) (drop 4 (drop i bs)))) (sym (put_one ws pages k at i bs here aligned (omega arith) small))
    ∙ put_bytes_more ws pages k (drop i bs) 4 (4 * suc n) (omega (arith, length-drop i bs))
    ∙ ap (λ (c : ℕ). put_bytes ws pages k (take c (drop i bs))) count

pub block_stored : (m : Mem) (pages : List ℕ) (k at : ℕ) (bs : List ℕ) → at ≡ place pages k → at % 32 ≡ 0 → 32 ≤ length bs → ((j : ℕ) → get_or bs j 0 < 256) → with_words m at (words_from bs 0 8) ≡ with_bytes m pages k (take 32 bs)
block_stored m pages k at bs here whole long small =
    ap (λ (xs : List ℕ). let q : Mem = record m { words = xs } in q) (put_words_is 8 m.words pages k at 0 bs here (omega arith) (omega arith) (omega arith) small)

-- ---- loaded words

-- the bytes of word i of a block
pub word_loaded : (m : Mem) (pages : List ℕ) (k at i word : ℕ) → at ≡ place pages k → at % 32 ≡ 0 → i < 8 → word ≡ get_or (words_at m at 8) i 0 → bytes_of word ≡ bytes_at m pages (k + 4 * i) 4
word_loaded m pages k at i word here whole below is =
    let there : at + 4 * i ≡ place pages (k + 4 * i) = omega (arith, here, place_next pages k (4 * i) (omega (arith, here))) in
    let zeroth : (at + 4 * i) % 4 ≡ 0 = omega arith in
    let found : word ≡ get_or m.words ((at + 4 * i) / 4) 0 = is ∙ get_or-words_in m.words at 8 i below in
    let one : take 4 (drop ((at + 4 * i) % 4) (bytes_of (get_or m.words ((at + 4 * i) / 4) 0))) ≡ bytes_at m pages (k + 4 * i) 4 = bytes_at_word m pages (k + 4 * i) (at + 4 * i) 4 there (omega arith) in
    ap bytes_of found ∙ sym (ap (λ (z : ℕ). take 4 (drop z (bytes_of (get_or m.words ((at + 4 * i) / 4) 0)))) zeroth) ∙ one
