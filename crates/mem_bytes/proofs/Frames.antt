-- What a store leaves, for callers: the bytes just stored, the bytes of the buffer before them, every word elsewhere, and the places of runs.
use Rattle.std.proofs.Common.{◌≡◌, ◌≢◌, ℕ, zero, suc, ◌+◌, ◌*◌, ◌/◌, ◌%◌, ◌<◌, ◌≤◌, List, [], ◌∷◌, ◌++◌, true, length, get_or, set, arith, ap, refl, sym, ◌∙◌, ⊎_elim, inl, subst, ◌⊎◌}
use Rattle.std.proofs.lemmas.Bool.{cases_lt, cases_eq}
use Rattle.std.proofs.lemmas.List.{get_or-set_same, get_or-set_other, set_past}
use Rattle.word_mem.specs.Runs.{Run, IsRun, IsInRun, AreApart}
use Rattle.word_mem.specs.Memory.{Mem, IsShaped, word_at, AreAll, with_word}
use Rattle.word_mem.specs.declared.blocks.BlockState.{BlockState}
use Rattle.word_mem.specs.declared.blocks.BlockState.TheVariants.{Lent}
use Rattle.word_mem.proofs.Frames.{reaches_lent, words_within}
use Rattle.mem_bytes.specs.Bytes.{ArePages, AreDistinct, bytes_of, word_of, place, put_byte, put_bytes, with_bytes, bytes_at, all_reached, AreReached, AreThere, stored}
use Rattle.word_mem.specs.Views.{byte_at, byte_of}
use Rattle.mem_bytes.proofs.WordBytes.{bytes_of-set, byte_of_word}
use Rattle.mem_bytes.proofs.Stores.{length-put_byte, length-put_bytes}
use Rattle.mem_bytes.proofs.Reach.{all_reached_if, stored_all}
use Rattle.mem_bytes.proofs.Loads.{length-bytes_at, get_or-bytes_at, bytes_at_is, bytes_at-add}

-- ---- the pages of a buffer
pub pages_none : ArePages []
pages_none = record { each = λ i. omega arith; few = omega arith }

first_or_later : (p : ℕ) (ps : List ℕ) → p < 1048576 → ((i : ℕ) → get_or ps i 0 < 1048576) → (i : ℕ) → get_or (p ∷ ps) i 0 < 1048576
first_or_later p ps small each zero = small
first_or_later p ps small each (suc i) = each i

pub pages_more : (p : ℕ) (ps : List ℕ) → p < 1048576 → length ps < 1048576 → ArePages ps → ArePages (p ∷ ps)
pages_more p ps small few others = record { each = first_or_later p ps small others.each; few = omega arith }

-- two bytes of the buffer have two places
pub place_apart : (pages : List ℕ) (i j : ℕ) → AreDistinct pages → i < 4096 * length pages → j < 4096 * length pages → place pages i ≡ place pages j → i ≡ j
place_apart pages i j distinct here there same =
    let pi = get_or pages (i / 4096) 0 in
    let pj = get_or pages (j / 4096) 0 in
    let page : pi ≡ pj = omega (arith, same) in
    let number : i / 4096 ≡ j / 4096 = distinct (i / 4096) (j / 4096) (omega arith) (omega arith) page in
    omega (arith, same, page, number)

-- ---- a byte put
pub byte_put : (m : Mem) (a b : ℕ) → a / 4 < length m.words → b < 256 → byte_at (record m { words = put_byte m.words a b }) a ≡ b
unfolding put_byte
byte_put m a b inside small =
    let w = get_or m.words (a / 4) 0 in
    let new = word_of (set (bytes_of w) (a % 4) b) in
    let byte : a % 4 < 4 = omega arith in
    ap (λ v. byte_of v (a % 4)) (get_or-set_same m.words (a / 4) new 0 inside) ∙ sym (byte_of_word new (a % 4) byte)
    ∙ ap (λ bs. get_or bs (a % 4) 0) (bytes_of-set w (a % 4) b byte small) ∙ get_or-set_same (bytes_of w) (a % 4) b 0 byte

pub byte_put_other : (m : Mem) (a b c : ℕ) → b < 256 → c ≢ a → byte_at (record m { words = put_byte m.words a b }) c ≡ byte_at m c
unfolding put_byte
byte_put_other m a b c small differs =
    let w = get_or m.words (a / 4) 0 in
    let new = word_of (set (bytes_of w) (a % 4) b) in
    let byte : a % 4 < 4 = omega arith in
    let other_byte : c % 4 < 4 = omega arith in
    ⊎_elim (λ (same : c / 4 ≡ a / 4).
    ⊎_elim (λ (inside : a / 4 < length m.words).
    let part : c % 4 ≢ a % 4 = λ e. differs (omega (arith, same, e)) in
    ap (λ v. byte_of v (c % 4)) (ap (λ q. get_or (set m.words (a / 4) new) q 0) same ∙ get_or-set_same m.words (a / 4) new 0 inside)
    ∙ sym (byte_of_word new (c % 4) other_byte) ∙ ap (λ bs. get_or bs (c % 4) 0) (bytes_of-set w (a % 4) b byte small)
    ∙ get_or-set_other (bytes_of w) (a % 4) (c % 4) b 0 part ∙ byte_of_word w (c % 4) other_byte
    ∙ ap (λ q. byte_of (get_or m.words q 0) (c % 4)) (sym same))
    (λ (past : length m.words ≤ a / 4). ap (λ ws. byte_of (get_or ws (c / 4) 0) (c % 4)) (set_past m.words (a / 4) new past))
    (cases_lt (a / 4) (length m.words)))
    (λ (other : c / 4 ≢ a / 4). ap (λ v. byte_of v (c % 4)) (get_or-set_other m.words (a / 4) (c / 4) new 0 other)) (cases_eq (c / 4) (a / 4))

pub word_put_other : (ws : List ℕ) (a b q : ℕ) → q ≢ a / 4 → get_or (put_byte ws a b) q 0 ≡ get_or ws q 0
unfolding put_byte
word_put_other ws a b q other = get_or-set_other ws (a / 4) q _ 0 other

-- ---- bytes put, one after the other
-- memory has the shape that it had; its states and its count of refusals are those that it had by the definition
pub IsShaped-with_bytes : (m : Mem) (pages : List ℕ) (k : ℕ) (bs : List ℕ) → IsShaped m → IsShaped (with_bytes m pages k bs)
IsShaped-with_bytes m pages k bs shape =
    let long = length-put_bytes m.words pages k bs in
    record {
      at_least = rw long shape.at_least;
      at_most = rw long shape.at_most;
      whole_pages = rw long shape.whole_pages;
      eight_each = rw long shape.eight_each;
    }

later : (pages : List ℕ) (k n : ℕ) (P : ℕ → Type 0) → ((i : ℕ) → i < suc n → P (place pages (k + i))) → (i : ℕ) → i < n → P (place pages (k + 1 + i))
later pages k n P each i inside = let e : k + suc i ≡ k + 1 + i = omega arith in subst (λ j. P (place pages j)) e (each (suc i) (omega arith))

-- a word in which no byte was put is as before
pub word_at-with_bytes : (m : Mem) (pages : List ℕ) (k : ℕ) (bs : List ℕ) (at : ℕ) → ((i : ℕ) → i < length bs → place pages (k + i) / 4 ≢ at / 4) → word_at (with_bytes m pages k bs) at ≡ word_at m at
unfolding put_bytes
word_at-with_bytes m pages k [] at outside = refl
word_at-with_bytes m pages k (b ∷ bs) at outside =
    word_at-with_bytes (record m { words = put_byte m.words (place pages k) b }) pages (k + 1) bs at (later pages k (length bs) (λ a. a / 4 ≢ at / 4) outside)
    ∙ word_put_other m.words (place pages k) b (at / 4)
    (λ e. outside 0 (omega arith) (let z : k + 0 ≡ k = omega arith in ap (λ j. place pages j / 4) z ∙ sym e))

-- a byte elsewhere is as before
pub byte_at-with_bytes : (m : Mem) (pages : List ℕ) (k : ℕ) (bs : List ℕ) (a : ℕ) → ((i : ℕ) → get_or bs i 0 < 256) → ((i : ℕ) → i < length bs → place pages (k + i) ≢ a) → byte_at (with_bytes m pages k bs) a ≡ byte_at m a
unfolding put_bytes
byte_at-with_bytes m pages k [] a small outside = refl
byte_at-with_bytes m pages k (b ∷ bs) a small outside =
    byte_at-with_bytes (record m { words = put_byte m.words (place pages k) b }) pages (k + 1) bs a (λ i. small (suc i))
    (later pages k (length bs) (λ c. c ≢ a) outside)
    ∙ byte_put_other m (place pages k) b a (small 0)
    (λ e. outside 0 (omega arith) (let z : k + 0 ≡ k = omega arith in ap (place pages) z ∙ sym e))

-- a byte just stored
pub byte_at-with_bytes_stored : (m : Mem) (pages : List ℕ) (k : ℕ) (bs : List ℕ) (i : ℕ) → AreDistinct pages → k + length bs ≤ 4096 * length pages → AreThere m pages k (length bs) → ((j : ℕ) → get_or bs j 0 < 256) → i < length bs → byte_at (with_bytes m pages k bs) (place pages (k + i)) ≡ get_or bs i 0
unfolding put_bytes
byte_at-with_bytes_stored m pages k [] i distinct within there small inside = absurd (omega arith)
byte_at-with_bytes_stored m pages k (b ∷ bs) zero distinct within there small inside =
    let now = record m { words = put_byte m.words (place pages k) b } in
    let z : k + 0 ≡ k = omega arith in
    let here : place pages k / 4 < length m.words = omega (arith, subst (λ j. place pages j < 4 * length m.words) z (there 0 (omega arith))) in
    ap (λ j. byte_at (with_bytes now pages (k + 1) bs) (place pages j)) z
    ∙ byte_at-with_bytes now pages (k + 1) bs (place pages k) (λ j. small (suc j))
    (λ j below e. let same = place_apart pages (k + 1 + j) k distinct (omega arith) (omega arith) e in omega (arith, same))
    ∙ byte_put m (place pages k) b here (small 0)
byte_at-with_bytes_stored m pages k (b ∷ bs) (suc i) distinct within there small inside =
    let now = record m { words = put_byte m.words (place pages k) b } in
    let e : k + suc i ≡ k + 1 + i = omega arith in
    let long = length-put_byte m.words (place pages k) b in
    ap (λ j. byte_at (with_bytes now pages (k + 1) bs) (place pages j)) e
    ∙ byte_at-with_bytes_stored now pages (k + 1) bs i distinct (omega arith)
    (λ j below. rw long (later pages k (length bs) (λ a. a < 4 * length m.words) there j below)) (λ j. small (suc j)) (omega arith)

-- ---- what callers cite
-- the bytes just stored are there
pub bytes_at-with_bytes : (m : Mem) (pages : List ℕ) (k : ℕ) (bs : List ℕ) → AreDistinct pages → k + length bs ≤ 4096 * length pages → AreThere m pages k (length bs) → ((i : ℕ) → get_or bs i 0 < 256) → bytes_at (with_bytes m pages k bs) pages k (length bs) ≡ bs
bytes_at-with_bytes m pages k bs distinct within there small =
    bytes_at_is (with_bytes m pages k bs) pages k bs (length bs) refl
    (λ i inside. byte_at-with_bytes_stored m pages k bs i distinct within there small inside)

-- the bytes of the same buffer before or after them are as before
pub bytes_at-with_bytes_apart : (m : Mem) (pages : List ℕ) (k : ℕ) (bs : List ℕ) (j n : ℕ) → AreDistinct pages → k + length bs ≤ 4096 * length pages → j + n ≤ 4096 * length pages → ((i : ℕ) → get_or bs i 0 < 256) → (j + n ≤ k) ⊎ (k + length bs ≤ j) → bytes_at (with_bytes m pages k bs) pages j n ≡ bytes_at m pages j n
bytes_at-with_bytes_apart m pages k bs j n distinct within also small apart =
    bytes_at_is (with_bytes m pages k bs) pages j (bytes_at m pages j n) n (length-bytes_at m pages j n)
    (λ i inside.
    byte_at-with_bytes m pages k bs (place pages (j + i)) small
    (λ h below e. let same = place_apart pages (k + h) (j + i) distinct (omega arith) (omega arith) e in omega (arith, same, apart))
    ∙ sym (get_or-bytes_at m pages j n i 0 inside))

-- so a buffer that grows has what it had, and then the bytes just stored
pub bytes_at-with_bytes_grown : (m : Mem) (pages : List ℕ) (k n : ℕ) (bs : List ℕ) → AreDistinct pages → k + n + length bs ≤ 4096 * length pages → AreThere m pages (k + n) (length bs) → ((i : ℕ) → get_or bs i 0 < 256) → bytes_at (with_bytes m pages (k + n) bs) pages k (n + length bs) ≡ bytes_at m pages k n ++ bs
bytes_at-with_bytes_grown m pages k n bs distinct within there small =
    let after = with_bytes m pages (k + n) bs in
    bytes_at-add after pages k n (length bs)
    ∙ ap (λ xs. xs ++ bytes_at after pages (k + n) (length bs))
    (bytes_at-with_bytes_apart m pages (k + n) bs k n distinct within (omega arith) small (inl (omega arith)))
    ∙ ap (λ xs. bytes_at m pages k n ++ xs) (bytes_at-with_bytes m pages (k + n) bs distinct within there small)

-- bytes whose words are as before are as before
pub bytes_at_same : (m after : Mem) (pages : List ℕ) (k n : ℕ) → ((i : ℕ) → i < n → word_at after (place pages (k + i)) ≡ word_at m (place pages (k + i))) → bytes_at after pages k n ≡ bytes_at m pages k n
bytes_at_same m after pages k n each =
    bytes_at_is after pages k (bytes_at m pages k n) n (length-bytes_at m pages k n)
    (λ i inside. ap (λ w. byte_of w (place pages (k + i) % 4)) (each i inside) ∙ sym (get_or-bytes_at m pages k n i 0 inside))

-- a word written elsewhere leaves a buffer's bytes
pub bytes_at-with_word : (m : Mem) (at v : ℕ) (pages : List ℕ) (k n : ℕ) → ((i : ℕ) → i < n → place pages (k + i) / 4 ≢ at / 4) → bytes_at (with_word m at v) pages k n ≡ bytes_at m pages k n
bytes_at-with_word m at v pages k n outside =
    bytes_at_same m (with_word m at v) pages k n
    (λ i inside. get_or-set_other m.words (at / 4) (place pages (k + i) / 4) v 0 (outside i inside))

-- ---- runs
-- n bytes from byte k on lie in the run
pub record AreInRun (r : Run) (pages : List ℕ) (k n : ℕ) : Type 0 where
  pub each : (i : ℕ) → i < n → IsInRun r (place pages (k + i))

-- a byte of the run, where its page is the run's
pub place_in_run : (r : Run) (pages : List ℕ) (k : ℕ) → get_or pages (k / 4096) 0 ≡ r.first / 128 → r.first % 128 * 32 ≤ k % 4096 → k % 4096 < (r.first % 128 + r.blocks) * 32 → IsInRun r (place pages k)
place_in_run r pages k page from below = record { from = omega (arith, page); below = omega (arith, page) }

-- a run alone: its page, and bytes from its start
pub run_alone : (r : Run) (pages : List ℕ) (k n : ℕ) → IsRun r → get_or pages 0 0 ≡ r.first / 128 → r.first % 128 * 32 ≤ k → k + n ≤ (r.first % 128 + r.blocks) * 32 → AreInRun r pages k n
run_alone r pages k n run page from below = record {
  each = λ i inside.
      let whole = run.one_page in
      let zero_page : (k + i) / 4096 ≡ 0 = omega arith in
      place_in_run r pages (k + i) (ap (λ q. get_or pages q 0) zero_page ∙ page) (omega arith) (omega arith);
}

-- the controller may touch the bytes of a Lent run, and those of any run of one state lie in memory
pub reached_in_run : (m : Mem) (r : Run) (pages : List ℕ) (k n : ℕ) → AreAll m Lent r → AreInRun r pages k n → AreReached m pages k n
reached_in_run m r pages k n all here = λ i inside. reaches_lent m r (place pages (k + i)) all (here.each i inside)

pub there_in_run : (m : Mem) (s : BlockState) (r : Run) (pages : List ℕ) (k n : ℕ) → IsShaped m → AreAll m s r → AreInRun r pages k n → AreThere m pages k n
there_in_run m s r pages k n shape all here = λ i inside. words_within m s r (place pages (k + i)) shape all (here.each i inside)

pub stored_in_run : (m : Mem) (r : Run) (pages : List ℕ) (k : ℕ) (bs : List ℕ) → AreAll m Lent r → AreInRun r pages k (length bs) → stored m pages k bs ≡ with_bytes m pages k bs
stored_in_run m r pages k bs all here = stored_all m pages k bs (reached_in_run m r pages k (length bs) all here)

pub all_reached_in_run : (m : Mem) (r : Run) (pages : List ℕ) (k n : ℕ) → AreAll m Lent r → AreInRun r pages k n → all_reached m pages k n ≡ true
all_reached_in_run m r pages k n all here = all_reached_if m pages k n (reached_in_run m r pages k n all here)

-- the words of two runs that share no block
pub apart_words : (r q : Run) (a at : ℕ) → AreApart r q → IsInRun r a → IsInRun q at → a / 4 ≢ at / 4
apart_words r q a at apart here there =
    ⊎_elim (λ (low : r.first + r.blocks ≤ q.first) e. omega (arith, e, here.below, there.from, low))
    (λ (high : q.first + q.blocks ≤ r.first) e. omega (arith, e, here.from, there.below, high)) apart

-- a store into one run leaves the words of another
pub word_at-with_bytes_apart : (m : Mem) (r q : Run) (pages : List ℕ) (k : ℕ) (bs : List ℕ) (at : ℕ) → AreApart r q → AreInRun r pages k (length bs) → IsInRun q at → word_at (with_bytes m pages k bs) at ≡ word_at m at
word_at-with_bytes_apart m r q pages k bs at apart here there =
    word_at-with_bytes m pages k bs at (λ i inside. apart_words r q (place pages (k + i)) at apart (here.each i inside) there)

-- and a word written in one run leaves the bytes of a buffer in another
pub bytes_at-with_word_apart : (m : Mem) (r q : Run) (at v : ℕ) (pages : List ℕ) (k n : ℕ) → AreApart r q → AreInRun r pages k n → IsInRun q at → bytes_at (with_word m at v) pages k n ≡ bytes_at m pages k n
bytes_at-with_word_apart m r q at v pages k n apart here there =
    bytes_at-with_word m at v pages k n (λ i inside. apart_words r q (place pages (k + i)) at apart (here.each i inside) there)
