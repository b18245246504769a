-- Memories that are the same in Lent blocks, as words and bytes are read and written.
use Rattle.std.proofs.Common.{◌≡◌, ◌≢◌, ℕ, zero, suc, ◌+◌, ◌*◌, ◌/◌, ◌%◌, ◌<◌, Bool, true, false, if◌then◌else◌, List, [], ◌∷◌, length, take, set, get_or, slice_get, ap, refl, sym, subst, ◌∙◌, ⊎_elim, arith}
use Rattle.std.specs.Prelude.{◌&&◌, ◌-◌, ◌^◌, nat_le, min}
use Rattle.std.specs.List.{list_all, prefix_len}
use Rattle.std.proofs.lemmas.Bool.{cases_eq}
use Rattle.std.proofs.lemmas.List.{get_or-set_other, length-set, length-take}
use Rattle.std.proofs.lemmas.List.Sums.{prefix_len_passes, prefix_len-le-length}
use Rattle.law_common.proofs.Booleans.{and_right}
use Rattle.law_ring.proofs.Common.{reached_by}
use Rattle.word_mem.specs.Memory.{Mem, word_at, reaches, is_lent, refused, with_word}
use Rattle.word_mem.specs.Views.{words_in, words_at, with_words_in, with_words}
use Rattle.word_mem.specs.declared.blocks.BlockState.{BlockState}
use Rattle.mem_bytes.specs.Bytes.{bytes_of, word_of, place, places, put_byte, put_bytes, reached, all_reached, AreReached, stored, with_bytes, bytes_at}
use Rattle.mem_bytes.proofs.Frames.{bytes_at_same}
use Rattle.mem_bytes.proofs.Reach.{length-places, get_or-places}
use Rattle.hc_copy.specs.Buffer.{Reading, Writing, size_of, placed, bytes_read, bytes_written}
use Rattle.hc_copy.specs.WriteBack.{then_write}
use Rattle.claims_base.specs.Controller.{IsSameWhereLent}

pub same_reaches : (m n : Mem) (at : ℕ) → IsSameWhereLent m n → reaches n at ≡ reaches m at
same_reaches m n at k = ap (λ (ss : List BlockState). is_lent (slice_get ss (at / 32))) k.states

pub same_both : (m n : Mem) (a b : ℕ) → IsSameWhereLent m n → (reaches n a && reaches n b) ≡ (reaches m a && reaches m b)
same_both m n a b k = ap (λ (x : Bool). x && reaches n b) (same_reaches m n a k) ∙ ap (λ (x : Bool). reaches m a && x) (same_reaches m n b k)

pub same_refused : (m n : Mem) → IsSameWhereLent m n → IsSameWhereLent (refused m) (refused n)
same_refused m n k = record {
  states = k.states;
  size = k.size;
  refusals = ap (λ (f : ℕ). min (f + 1) (2 ^ 64 - 1)) k.refusals;
  words = λ at lent. k.words at lent;
}

-- by the same test
pub same_if : (m n x y : Mem) (a b : Bool) → b ≡ a → IsSameWhereLent m n → IsSameWhereLent x y → IsSameWhereLent (if a then m else x) (if b then n else y)
same_if m n x y a b is one other = subst (λ (t : Bool). IsSameWhereLent (if a then m else x) (if t then n else y)) (sym is) (by a)
  where
    by : (t : Bool) → IsSameWhereLent (if t then m else x) (if t then n else y)
    by true = one
    by false = other

-- ---- words are read

pub words_same : (m n : Mem) (a count : ℕ) → IsSameWhereLent m n → ((i : ℕ) → i < count → reaches m (a + 4 * i) ≡ true) → words_at n a count ≡ words_at m a count
unfolding words_in
words_same m n a zero k each = refl
words_same m n a (suc count) k each =
    let first : a + 4 * 0 ≡ a = omega arith in
    let head : word_at n a ≡ word_at m a = k.words a (ap (reaches m) (sym first) ∙ each 0 (omega arith)) in
    let rest = words_same m n (a + 4) count k (λ i below. let e : a + 4 + 4 * i ≡ a + 4 * suc i = omega arith in ap (reaches m) e ∙ each (suc i) (omega (arith, below))) in
    ap (λ (w : ℕ). w ∷ words_at n (a + 4) count) head ∙ ap (λ (ws : List ℕ). word_at m a ∷ ws) rest

-- ---- words are written

set_both : (xs ys : List ℕ) (i v : ℕ) → length ys ≡ length xs → get_or (set ys i v) i 0 ≡ get_or (set xs i v) i 0
set_both [] [] i v same = refl
set_both (x ∷ xs) (y ∷ ys) zero v same = refl
set_both (x ∷ xs) (y ∷ ys) (suc i) v same = set_both xs ys i v (omega (arith, same))
set_both [] (y ∷ ys) i v same = absurd (omega (arith, same))
set_both (x ∷ xs) [] i v same = absurd (omega (arith, same))

-- the same value is put
pub set_same : (m n : Mem) (i v : ℕ) → IsSameWhereLent m n → IsSameWhereLent (record m { words = set m.words i v }) (record n { words = set n.words i v })
set_same m n i v k = record {
  states = k.states;
  size = length-set n.words i v ∙ k.size ∙ sym (length-set m.words i v);
  refusals = k.refusals;
  words = λ at lent.
      ⊎_elim
      (λ (same : at / 4 ≡ i).
      ap (λ (j : ℕ). get_or (set n.words i v) j 0) same ∙ set_both m.words n.words i v k.size ∙ sym (ap (λ (j : ℕ). get_or (set m.words i v) j 0) same))
      (λ (differs : at / 4 ≢ i).
      get_or-set_other n.words i (at / 4) v 0 differs ∙ k.words at lent ∙ sym (get_or-set_other m.words i (at / 4) v 0 differs))
      (cases_eq (at / 4) i);
}

pub words_put : (ws : List ℕ) (m n : Mem) (a : ℕ) → IsSameWhereLent m n → IsSameWhereLent (with_words m a ws) (with_words n a ws)
unfolding with_words_in
words_put [] m n a k = k
words_put (v ∷ vs) m n a k = words_put vs (with_word m a v) (with_word n a v) (a + 4) (set_same m n (a / 4) v k)

-- ---- bytes

-- the addresses of bytes are reached alike
reached_alike : (m n : Mem) (pages : List ℕ) (at count : ℕ) → IsSameWhereLent m n → reached n pages at count ≡ reached m pages at count
unfolding reached
reached_alike m n pages at count k = ap (λ (ss : List BlockState). prefix_len (λ a. is_lent (slice_get ss (a / 32))) (places pages at count)) k.states

pub all_alike : (m n : Mem) (pages : List ℕ) (at count : ℕ) → IsSameWhereLent m n → all_reached n pages at count ≡ all_reached m pages at count
unfolding all_reached
all_alike m n pages at count k = ap (λ (ss : List BlockState). list_all (λ a. is_lent (slice_get ss (a / 32))) (places pages at count)) k.states

pub all_are_reached : (m : Mem) (pages : List ℕ) (k n : ℕ) → all_reached m pages k n ≡ true → AreReached m pages k n
all_are_reached m pages k n all i below = reached_by m pages k n i (reaches m (place pages (k + i))) below all refl

before_reached : (m : Mem) (pages : List ℕ) (k n i : ℕ) → i < reached m pages k n → reaches m (place pages (k + i)) ≡ true
unfolding reached
before_reached m pages k n i below =
    let few = prefix_len-le-length (reaches m) (places pages k n) in
    let inside : i < n = omega (arith, few, below, length-places pages k n) in
    ap (reaches m) (sym (get_or-places pages k n i 0 inside)) ∙ prefix_len_passes (reaches m) (places pages k n) i 0 below

pub bytes_same : (m n : Mem) (pages : List ℕ) (at count : ℕ) → IsSameWhereLent m n → AreReached m pages at count → bytes_at n pages at count ≡ bytes_at m pages at count
bytes_same m n pages at count k each = bytes_at_same m n pages at count (λ i below. k.words (place pages (at + i)) (each i below))

byte_put : (m n : Mem) (a b : ℕ) → IsSameWhereLent m n → reaches m a ≡ true → IsSameWhereLent (record m { words = put_byte m.words a b }) (record n { words = put_byte n.words a b })
unfolding put_byte
byte_put m n a b k lent =
    subst (λ (w : ℕ). IsSameWhereLent (record m { words = set m.words (a / 4) (word_of (set (bytes_of (word_at m a)) (a % 4) b)) }) (record n { words = set n.words (a / 4) (word_of (set (bytes_of w) (a % 4) b)) }))
    (sym (k.words a lent)) (set_same m n (a / 4) (word_of (set (bytes_of (word_at m a)) (a % 4) b)) k)

bytes_put : (bs : List ℕ) (m n : Mem) (pages : List ℕ) (at : ℕ) → IsSameWhereLent m n → AreReached m pages at (length bs) → IsSameWhereLent (with_bytes m pages at bs) (with_bytes n pages at bs)
unfolding put_bytes
bytes_put [] m n pages at k each = k
bytes_put (b ∷ bs) m n pages at k each =
    let first : at + 0 ≡ at = omega arith in
    bytes_put bs (record m { words = put_byte m.words (place pages at) b }) (record n { words = put_byte n.words (place pages at) b }) pages (at + 1)
    (byte_put m n (place pages at) b k (ap (λ (i : ℕ). reaches m (place pages i)) (sym first) ∙ each 0 (omega arith)))
    (λ i below. let e : at + 1 + i ≡ at + suc i = omega arith in ap (λ (j : ℕ). reaches m (place pages j)) e ∙ each (suc i) (omega (arith, below)))

stored_by : (m n : Mem) (pages : List ℕ) (at : ℕ) (bs : List ℕ) (b : Bool) → IsSameWhereLent m n → all_reached m pages at (length bs) ≡ b
    → IsSameWhereLent (if b then with_bytes m pages at bs else refused (with_bytes m pages at (take (reached m pages at (length bs)) bs)))
    (if b then with_bytes n pages at bs else refused (with_bytes n pages at (take (reached m pages at (length bs)) bs)))
stored_by m n pages at bs true k all = bytes_put bs m n pages at k (all_are_reached m pages at (length bs) all)
stored_by m n pages at bs false k all =
    let count : ℕ = reached m pages at (length bs) in
    let short = length-take count bs in
    same_refused (with_bytes m pages at (take count bs)) (with_bytes n pages at (take count bs))
    (bytes_put (take count bs) m n pages at k (λ i below. before_reached m pages at (length bs) i (omega (arith, below, short))))

pub stored_same : (m n : Mem) (pages : List ℕ) (at : ℕ) (bs : List ℕ) → IsSameWhereLent m n → IsSameWhereLent (stored m pages at bs) (stored n pages at bs)
unfolding stored
stored_same m n pages at bs k =
    subst (λ (count : ℕ). IsSameWhereLent (stored m pages at bs)
    (if all_reached n pages at (length bs) then with_bytes n pages at bs else refused (with_bytes n pages at (take count bs)))) (sym (reached_alike m n pages at (length bs) k))
    (subst (λ (b : Bool). IsSameWhereLent (stored m pages at bs) (if b then with_bytes n pages at bs else refused (with_bytes n pages at (take (reached m pages at (length bs)) bs)))) (sym (all_alike m n pages at (length bs) k))
    (stored_by m n pages at bs (all_reached m pages at (length bs)) k refl))

-- ---- readings and writings

pub record AreSameRead (x y : Reading) : Type 0 where
  pub all : y.all ≡ x.all
  pub memory : IsSameWhereLent x.memory y.memory
  pub bytes : x.all ≡ true → y.bytes ≡ x.bytes

pub read_same : (m n : Mem) (pages : List ℕ) (from count : ℕ) → IsSameWhereLent m n → AreSameRead (bytes_read pages from count m) (bytes_read pages from count n)
read_same m n pages from count k =
    let alike = all_alike m n pages from count k in
    record {
      all = ap (λ (b : Bool). nat_le (from + count) (size_of pages) && b) alike;
      memory = same_if _ _ m n (nat_le (from + count) (size_of pages)) (nat_le (from + count) (size_of pages)) refl
          (same_if m n (refused m) (refused n) (all_reached m pages from count) (all_reached n pages from count) alike k (same_refused m n k)) k;
      bytes = λ all. bytes_same m n pages from count k (all_are_reached m pages from count (and_right (nat_le (from + count) (size_of pages)) (all_reached m pages from count) all));
    }

pub record AreSameWritten (x y : Writing) : Type 0 where
  pub all : y.all ≡ x.all
  pub memory : IsSameWhereLent x.memory y.memory

pub written_same : (m n : Mem) (pages : List ℕ) (from : ℕ) (got : List ℕ) → IsSameWhereLent m n → AreSameWritten (bytes_written pages from got m) (bytes_written pages from got n)
written_same m n pages from got k = record {
  all = ap (λ (b : Bool). b && nat_le (from + length got) (size_of pages)) (all_alike m n pages from (length (placed pages from got)) k);
  memory = stored_same m n pages from (placed pages from got) k;
}

then_by : (x y : Writing) (next : Mem → Writing) (a b : Bool) → b ≡ a → AreSameWritten x y → AreSameWritten (next x.memory) (next y.memory)
    → AreSameWritten (if a then next x.memory else x) (if b then next y.memory else y)
then_by x y next a b is one two = subst (λ (t : Bool). AreSameWritten (if a then next x.memory else x) (if t then next y.memory else y)) (sym is) (by a)
  where
    by : (t : Bool) → AreSameWritten (if t then next x.memory else x) (if t then next y.memory else y)
    by true = two
    by false = one

pub then_same : (x y : Writing) (next : Mem → Writing) → AreSameWritten x y → ((m n : Mem) → IsSameWhereLent m n → AreSameWritten (next m) (next n)) → AreSameWritten (then_write x next) (then_write y next)
then_same x y next one two = then_by x y next x.all y.all one.all one (two x.memory y.memory one.memory)
