-- Writes of words of Lent blocks, and one after the other.
use Rattle.std.proofs.Common.{◌≡◌, ℕ, suc, ◌+◌, ◌*◌, ◌/◌, ◌%◌, ◌<◌, ◌≤◌, Bool, true, false, if◌then◌else◌, List, [], ◌∷◌, length, take, get_or, slice_get, ap, refl, sym, ◌∙◌, ⊎_elim, arith}
use Rattle.std.proofs.lemmas.Bool.{cases_lt, false≢true}
use Rattle.std.proofs.lemmas.List.{get_or-set_other, length-set, length-take, length-take-le}
use Rattle.std.proofs.lemmas.List.Sums.{prefix_len_passes, prefix_len-le-length}
use Rattle.law_structures.proofs.Common.{nine_words}
use Rattle.law_ring.proofs.Common.{reached_by}
use Rattle.word_mem.specs.Memory.{Mem, reaches, is_lent, refused, with_word}
use Rattle.word_mem.specs.Views.{with_words_in, with_words}
use Rattle.word_mem.specs.declared.blocks.BlockState.{BlockState}
use Rattle.mem_bytes.specs.Bytes.{place, places, reached, all_reached, AreReached, stored, with_bytes}
use Rattle.mem_bytes.proofs.Frames.{word_at-with_bytes}
use Rattle.mem_bytes.proofs.Reach.{length-places, get_or-places}
use Rattle.mem_bytes.proofs.Stores.{length-put_bytes}
use Rattle.qh_qtd.specs.declared.token.Token.{Token}
use Rattle.qh_qtd.specs.declared.queue_head.Qh.{Qh}
use Rattle.qh_qtd.specs.Token.{token_word}
use Rattle.mem_queues.specs.Structures.{qtd_was_read, queue_head_was_read, reaches_queue_head, overlay_words, overlay_written, token_written}
use Rattle.law_ring.specs.walk_writes.Writes.{WritesLent}

-- ---- nothing is written, or one write follows another

pub same_writes : (m new : Mem) → new.states ≡ m.states → new.words ≡ m.words → WritesLent m new
same_writes m new states words = record { states = states; size = ap length words; words = λ at apart. ap (λ ws. get_or ws (at / 4) 0) words }

pub both_write : (m mid new : Mem) → WritesLent m mid → WritesLent mid new → WritesLent m new
both_write m mid new one two = record {
  states = two.states ∙ one.states;
  size = two.size ∙ one.size;
  words = λ at apart. two.words at (ap (λ (ss : List BlockState). is_lent (slice_get ss (at / 32))) one.states ∙ apart) ∙ one.words at apart;
}

pub refused_writes : (m : Mem) → WritesLent m (refused m)
refused_writes m = same_writes m (refused m) refl refl

pub either_writes : (m one other : Mem) (b : Bool) → WritesLent m one → WritesLent m other → WritesLent m (if b then one else other)
either_writes m one other true first second = first
either_writes m one other false first second = second

-- ---- words

-- an address of the same block
pub reach_in : (m : Mem) (a b : ℕ) → b / 32 ≡ a / 32 → reaches m a ≡ true → reaches m b ≡ true
reach_in m a b same reached = ap (λ i. is_lent (slice_get m.states i)) same ∙ reached

reach_apart : (m : Mem) (at other : ℕ) → reaches m at ≡ true → reaches m other ≡ false → other / 4 ≡ at / 4 → ⊥
reach_apart m at other reached apart same =
    let block : other / 32 ≡ at / 32 = omega (arith, same) in
    false≢true (sym apart ∙ reach_in m at other block reached)

pub word_writes : (m : Mem) (at v : ℕ) → reaches m at ≡ true → WritesLent m (with_word m at v)
word_writes m at v reached = record {
  states = refl;
  size = length-set m.words (at / 4) v;
  words = λ other apart. get_or-set_other m.words (at / 4) (other / 4) v 0 (λ same. reach_apart m at other reached apart same);
}

pub words_write : (m : Mem) (at : ℕ) (ws : List ℕ) → ((i : ℕ) → i < length ws → reaches m (at + 4 * i) ≡ true) → WritesLent m (with_words m at ws)
unfolding with_words_in
words_write m at [] each = same_writes m m refl refl
words_write m at (v ∷ vs) each =
    let first : at + 4 * 0 ≡ at = omega arith in
    both_write m (with_word m at v) (with_words (with_word m at v) (at + 4) vs) (word_writes m at v (ap (reaches m) (sym first) ∙ each 0 (omega arith)))
    (words_write (with_word m at v) (at + 4) vs
    (λ i below. let e : at + 4 + 4 * i ≡ at + 4 * suc i = omega arith in ap (reaches m) e ∙ each (suc i) (omega (arith, below))))

-- ---- structures are read

pub qtd_read_writes : (m : Mem) (a : ℕ) → WritesLent m (qtd_was_read m a)
qtd_read_writes m a = either_writes m m (refused m) (reaches m a) (same_writes m m refl refl) (refused_writes m)

pub head_read_writes : (m : Mem) (a : ℕ) → WritesLent m (queue_head_was_read m a)
head_read_writes m a = either_writes m m (refused m) (reaches_queue_head m a) (same_writes m m refl refl) (refused_writes m)

-- ---- an overlay and a token

-- a word of the two blocks of a queue head
in_both : (m : Mem) (a i : ℕ) → a % 32 ≡ 0 → reaches m a ≡ true → reaches m (a + 32) ≡ true → i < 9 → reaches m (a + 12 + 4 * i) ≡ true
in_both m a i aligned first second below =
    ⊎_elim (λ (low : i < 5). reach_in m a (a + 12 + 4 * i) (omega (arith, aligned, low)) first)
    (λ (high : 5 ≤ i). reach_in m (a + 32) (a + 12 + 4 * i) (omega (arith, aligned, high, below)) second) (cases_lt i 5)

overlay_by : (m : Mem) (a : ℕ) (ws : List ℕ) (first second : Bool) → a % 32 ≡ 0 → length ws ≡ 9 → reaches m a ≡ first → reaches m (a + 32) ≡ second
    → WritesLent m (if first then (if second then with_words m (a + 12) ws else refused (with_words m (a + 12) (take 5 ws))) else refused m)
overlay_by m a ws true true aligned nine one two = words_write m (a + 12) ws (λ i below. in_both m a i aligned one two (omega (arith, below, nine)))
overlay_by m a ws true false aligned nine one two =
    let five : length (take 5 ws) ≡ 5 = length-take-le 5 ws (omega (arith, nine)) in
    both_write m (with_words m (a + 12) (take 5 ws)) (refused (with_words m (a + 12) (take 5 ws)))
    (words_write m (a + 12) (take 5 ws) (λ i below. reach_in m a (a + 12 + 4 * i) (omega (arith, aligned, below, five)) one))
    (refused_writes (with_words m (a + 12) (take 5 ws)))
overlay_by m a ws false second aligned nine one two = refused_writes m

pub overlay_writes : (m : Mem) (a : ℕ) (q : Qh) → a % 32 ≡ 0 → WritesLent m (overlay_written m a (overlay_words q))
overlay_writes m a q aligned = overlay_by m a (overlay_words q) (reaches m a) (reaches m (a + 32)) aligned (nine_words q) refl refl

token_by : (m : Mem) (a : ℕ) (t : Token) (b : Bool) → a % 32 ≡ 0 → reaches m a ≡ b → WritesLent m (if b then with_word m (a + 8) (token_word t) else refused m)
token_by m a t true aligned is = word_writes m (a + 8) (token_word t) (reach_in m a (a + 8) (omega (arith, aligned)) is)
token_by m a t false aligned is = refused_writes m

pub token_writes : (m : Mem) (a : ℕ) (t : Token) → a % 32 ≡ 0 → WritesLent m (token_written m a t)
token_writes m a t aligned = token_by m a t (reaches m a) aligned refl

-- ---- bytes

bytes_write : (m : Mem) (pages : List ℕ) (k : ℕ) (bs : List ℕ) → AreReached m pages k (length bs) → WritesLent m (with_bytes m pages k bs)
bytes_write m pages k bs each = record {
  states = refl;
  size = length-put_bytes m.words pages k bs;
  words = λ other apart. word_at-with_bytes m pages k bs other (λ i below same. reach_apart m (place pages (k + i)) other (each i below) apart (sym same));
}

-- the bytes before the first that the controller may not touch
before_reached : (m : Mem) (pages : List ℕ) (k n i : ℕ) → i < reached m pages k n → reaches m (place pages (k + i)) ≡ true
unfolding reached
before_reached m pages k n i below =
    let few = prefix_len-le-length (reaches m) (places pages k n) in
    let inside : i < n = omega (arith, few, below, length-places pages k n) in
    ap (reaches m) (sym (get_or-places pages k n i 0 inside)) ∙ prefix_len_passes (reaches m) (places pages k n) i 0 below

stored_by : (m : Mem) (pages : List ℕ) (k : ℕ) (bs : List ℕ) (b : Bool) → all_reached m pages k (length bs) ≡ b
    → WritesLent m (if b then with_bytes m pages k bs else refused (with_bytes m pages k (take (reached m pages k (length bs)) bs)))
stored_by m pages k bs true all = bytes_write m pages k bs (λ i below. reached_by m pages k (length bs) i (reaches m (place pages (k + i))) below all refl)
stored_by m pages k bs false all =
    let n : ℕ = reached m pages k (length bs) in
    let short = length-take n bs in
    both_write m (with_bytes m pages k (take n bs)) (refused (with_bytes m pages k (take n bs)))
    (bytes_write m pages k (take n bs) (λ i below. before_reached m pages k (length bs) i (omega (arith, below, short))))
    (refused_writes (with_bytes m pages k (take n bs)))

pub stored_writes : (m : Mem) (pages : List ℕ) (k : ℕ) (bs : List ℕ) → WritesLent m (stored m pages k bs)
unfolding stored
stored_writes m pages k bs = stored_by m pages k bs (all_reached m pages k (length bs)) refl
