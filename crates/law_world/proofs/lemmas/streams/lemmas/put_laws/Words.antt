-- The words of one buffer, and its bytes once they were written (EHCI 1.0, 3.5.4).
use Rattle.std.proofs.Common.{◌≡◌, ◌≢◌, ℕ, zero, suc, ◌+◌, ◌*◌, ◌/◌, ◌%◌, ◌<◌, ◌≤◌, Bool, true, false, cond, List, length, get_or, map, ap, refl, sym, subst, ◌∙◌, ⊎_elim, arith}
use Rattle.std.proofs.lemmas.Bool.{cases_eq}
use Rattle.std.proofs.lemmas.List.{ext_get_or, get_or-set_same, get_or-set_other}
use Rattle.std.proofs.lemmas.List.FromFn.{get_or-map-range_with_len, length-map-range_with_len}
use Rattle.std.specs.List.{range_with_len}
use Rattle.law_driver.proofs.Common.{stored_many}
use Rattle.word_mem.specs.Memory.{Mem, word_at, with_word}
use Rattle.word_mem.specs.Views.{byte_of, byte_at}
use Rattle.mem_runs.specs.Book.{Book, slot_of, can_store, store}
use Rattle.drv_table.specs.declared.content.QtdNote.{QtdNote}
use Rattle.drv_table.specs.Harvests.{buffer_address, buffer_bytes}
use Rattle.drv_table.specs.Offers.{word_from, write_bytes}

-- ---- a word

word_byte : (bytes : List ℕ) (i r : ℕ) → r < 4 → ((j : ℕ) → get_or bytes j 0 < 256) → byte_of (word_from bytes i) r ≡ get_or bytes (i + r) 0
word_byte bytes i zero below small =
    let a = small i in
    let z : i ≡ i + 0 = omega arith in
    (let e : byte_of (word_from bytes i) 0 ≡ get_or bytes i 0 = omega (arith, a) in e) ∙ ap (λ (k : ℕ). get_or bytes k 0) z
word_byte bytes i (suc zero) below small = let a = small i in let b = small (i + 1) in omega (arith, a, b)
word_byte bytes i (suc (suc zero)) below small = let a = small i in let b = small (i + 1) in let c = small (i + 2) in omega (arith, a, b, c)
word_byte bytes i (suc (suc (suc zero))) below small = let a = small i in let b = small (i + 1) in let c = small (i + 2) in let e = small (i + 3) in omega (arith, a, b, c, e)
word_byte bytes i (suc (suc (suc (suc r)))) below small = absurd (omega (arith, below))

-- ---- a store

pub store_other : (k : Book) (m : Mem) (b at v other : ℕ) → at / 4 ≢ other / 4 → word_at (store k m b at v) other ≡ word_at m other
store_other k m b at v other differs = by (can_store (slot_of k.slots b) at)
  where
    by : (t : Bool) → word_at (cond t (with_word m at v) m) other ≡ word_at m other
    by true = get_or-set_other m.words (at / 4) (other / 4) v 0 (λ same. differs (sym same))
    by false = refl

store_here : (k : Book) (m : Mem) (b at v : ℕ) → can_store (slot_of k.slots b) at ≡ true → at / 4 < length m.words → word_at (store k m b at v) at ≡ v
store_here k m b at v can inside = ap (λ (t : Bool). word_at (cond t (with_word m at v) m) at) can ∙ get_or-set_same m.words (at / 4) v 0 inside

-- ---- all words of a buffer

-- n words of the buffer have places of their own that the driver may write
pub record IsBuffer (k : Book) (size : ℕ) (note : QtdNote) (n : ℕ) : Type 0 where
  pub can : (u : ℕ) → u < n → can_store (slot_of k.slots (get_or note.buffer (4 * u / 4096) 0)) (buffer_address note (4 * u)) ≡ true
  pub inside : (u : ℕ) → u < n → buffer_address note (4 * u) / 4 < size
  pub apart : (u v : ℕ) → u < n → v < n → buffer_address note (4 * u) / 4 ≡ buffer_address note (4 * v) / 4 → u ≡ v

abbrev first_stored : Book → Mem → QtdNote → List ℕ → ℕ → Mem
first_stored k m note bytes w = store k m (get_or note.buffer (4 * w / 4096) 0) (buffer_address note (4 * w)) (word_from bytes (4 * w))

one_more : (k : Book) (m : Mem) (note : QtdNote) (bytes : List ℕ) (w n : ℕ) → write_bytes k m note bytes (4 * w) (suc n) ≡ write_bytes k (first_stored k m note bytes w) note bytes (4 * (w + 1)) n
one_more k m note bytes w n = ap (λ (i : ℕ). write_bytes k (first_stored k m note bytes w) note bytes i n) (let e : 4 * w + 4 ≡ 4 * (w + 1) = omega arith in e)

pub written_other : (k : Book) (m : Mem) (note : QtdNote) (bytes : List ℕ) (w n other : ℕ) → ((u : ℕ) → w ≤ u → u < w + n → buffer_address note (4 * u) / 4 ≢ other / 4)
    → word_at (write_bytes k m note bytes (4 * w) n) other ≡ word_at m other
written_other k m note bytes w zero other not = refl
written_other k m note bytes w (suc n) other not =
    ap (λ (q : Mem). word_at q other) (one_more k m note bytes w n)
    ∙ written_other k (first_stored k m note bytes w) note bytes (w + 1) n other (λ u from below. not u (omega (arith, from)) (omega (arith, below)))
    ∙ store_other k m (get_or note.buffer (4 * w / 4096) 0) (buffer_address note (4 * w)) (word_from bytes (4 * w)) other (not w (omega arith) (omega arith))

written_at : (k : Book) (m : Mem) (note : QtdNote) (bytes : List ℕ) (size all w n u : ℕ) → IsBuffer k size note all → length m.words ≡ size → w + n ≤ all → w ≤ u → u < w + n
    → word_at (write_bytes k m note bytes (4 * w) n) (buffer_address note (4 * u)) ≡ word_from bytes (4 * u)
written_at k m note bytes size all w zero u is long within from below = absurd (omega (arith, from, below))
written_at k m note bytes size all w (suc n) u is long within from below =
    ap (λ (q : Mem). word_at q (buffer_address note (4 * u))) (one_more k m note bytes w n)
    ∙ ⊎_elim
    (λ (same : w ≡ u).
    written_other k (first_stored k m note bytes w) note bytes (w + 1) n (buffer_address note (4 * u))
    (λ v later under place. let e = is.apart v u (omega (arith, under, within)) (omega (arith, below, within)) place in omega (arith, later, e, same))
    ∙ subst (λ (i : ℕ). word_at (first_stored k m note bytes w) (buffer_address note (4 * i)) ≡ word_from bytes (4 * i)) same
    (store_here k m (get_or note.buffer (4 * w / 4096) 0) (buffer_address note (4 * w)) (word_from bytes (4 * w)) (is.can w (omega (arith, within)))
    (let i = is.inside w (omega (arith, within)) in omega (arith, i, long))))
    (λ (differs : w ≢ u).
    written_at k (first_stored k m note bytes w) note bytes size all (w + 1) n u is
    (stored_many k m (get_or note.buffer (4 * w / 4096) 0) (buffer_address note (4 * w)) (word_from bytes (4 * w)) ∙ long)
    (omega (arith, within)) (not_first w u from differs) (omega (arith, below)))
    (cases_eq w u)
  where
    not_first : (w u : ℕ) → w ≤ u → w ≢ u → w + 1 ≤ u
    not_first zero zero from differs = absurd (differs refl)
    not_first zero (suc u) from differs = omega arith
    not_first (suc w) zero from differs = absurd (omega (arith, from))
    not_first (suc w) (suc u) from differs = let e = not_first w u (omega (arith, from)) (λ same. differs (ap suc same)) in omega (arith, e)

-- ---- its bytes

-- byte j stands in word j / 4
address_in : (note : QtdNote) (j : ℕ) → (buffer_address note j / 4 ≡ buffer_address note (4 * (j / 4)) / 4) × (buffer_address note j % 4 ≡ j % 4)
address_in note j =
    let page : 4 * (j / 4) / 4096 ≡ j / 4096 = omega arith in
    let same : get_or note.buffer (4 * (j / 4) / 4096) 0 ≡ get_or note.buffer (j / 4096) 0 = ap (λ (i : ℕ). get_or note.buffer i 0) page in (
      omega (arith, same),
      omega arith,
    )

pub byte_written : (k : Book) (m : Mem) (note : QtdNote) (bytes : List ℕ) (size n j : ℕ) → IsBuffer k size note n → length m.words ≡ size → ((i : ℕ) → get_or bytes i 0 < 256) → j < 4 * n
    → byte_at (write_bytes k m note bytes 0 n) (buffer_address note j) ≡ get_or bytes j 0
byte_written k m note bytes size n j is long small below =
    let at = address_in note j in
    let u = j / 4 in
    let after = write_bytes k m note bytes 0 n in
    let word : word_at after (buffer_address note (4 * u)) ≡ word_from bytes (4 * u) = written_at k m note bytes size n 0 n u is long (omega arith) (omega arith) (omega (arith, below)) in
    ap (λ (i : ℕ). byte_of (get_or after.words i 0) (buffer_address note j % 4)) at.0 ∙ ap (byte_of (word_at after (buffer_address note (4 * u)))) at.1
    ∙ ap (λ (v : ℕ). byte_of v (j % 4)) word ∙ word_byte bytes (4 * u) (j % 4) (omega arith) small
    ∙ ap (λ (i : ℕ). get_or bytes i 0) (let e : 4 * (j / 4) + j % 4 ≡ j = omega arith in e)

-- ---- the bytes as a list

pub bytes_are : (m : Mem) (note : QtdNote) (bytes : List ℕ) (n : ℕ) → length bytes ≡ n → ((j : ℕ) → j < n → byte_at m (buffer_address note j) ≡ get_or bytes j 0) → buffer_bytes m note n ≡ bytes
unfolding buffer_bytes
bytes_are m note bytes n long each =
    let f : ℕ → ℕ = λ j. byte_at m (buffer_address note j) in
    let many = length-map-range_with_len f 0 n in
    ext_get_or 0 (map f (range_with_len 0 n)) bytes (many ∙ sym long)
    (λ i inside. let here : i < n = omega (arith, many, inside) in let z : 0 + i ≡ i = omega arith in get_or-map-range_with_len f 0 n i i 0 here z ∙ each i here)

pub bytes_same : (m after : Mem) (note : QtdNote) (n : ℕ) → ((j : ℕ) → j < n → word_at after (buffer_address note j) ≡ word_at m (buffer_address note j)) → buffer_bytes after note n ≡ buffer_bytes m note n
unfolding buffer_bytes
bytes_same m after note n each =
    let f : ℕ → ℕ = λ j. byte_at m (buffer_address note j) in
    let g : ℕ → ℕ = λ j. byte_at after (buffer_address note j) in
    let many = length-map-range_with_len f 0 n in
    let also = length-map-range_with_len g 0 n in
    ext_get_or 0 (map g (range_with_len 0 n)) (map f (range_with_len 0 n)) (also ∙ sym many)
    (λ i inside.
    let here : i < n = omega (arith, also, inside) in
    let z : 0 + i ≡ i = omega arith in
    get_or-map-range_with_len g 0 n i i 0 here z ∙ ap (λ (v : ℕ). byte_of v (buffer_address note i % 4)) (each i here) ∙ sym (get_or-map-range_with_len f 0 n i i 0 here z))
