-- The bytes of a transfer's buffer in the words of memory (EHCI 1.0, 3.5.4 and 4.10.6). A buffer lies in pages of 4,096 bytes, which need
-- not follow one another, and k counts its bytes from the start of its first page: page pointer k / 4096, offset k % 4096.
--     ArePages pages              page numbers: each is below 2 ^ 20, so that each byte has an address of 32 bits
--     AreDistinct pages           no two of them are the same
--     bytes_of w, word_of bs      the four bytes of a word, the lowest first, and the word of four bytes
--     words_from bs i n           the n words of the bytes from byte i on
--     with_byte m a b             the byte at the byte address a, byte a mod 4 of its word, is b now, and nothing else differs
--     place pages k               the byte address of byte k, for k below 4,096 times the number of pages
--     places pages k n            the byte addresses of n bytes from byte k on
--     bytes_at m pages k n        those bytes
--     with_bytes m pages k bs     these bytes are put there, one after the other, and nothing else differs
--     reached m pages k n         how many of those n bytes come before the first that the controller may not touch
--     all_reached m pages k n     the controller may touch all of them
--     AreReached m pages k n      the same, as a fact
--     AreThere m pages k n        each of those bytes lies in memory
--     stored m pages k bs         memory after the controller stored these bytes: all of them, or those before the first that it may not
--                                 touch, and then one more refusal is counted
--     loaded m pages k old        what the controller loaded into `old`: a byte into each place, or those before the first that it may
--                                 not touch, and the places after these as they were
use Rattle.std.specs.Prelude.{◌≡◌, ℕ, zero, suc, ◌+◌, ◌*◌, ◌/◌, ◌%◌, ◌<◌, ◌≤◌, Bool, true, List, [], ◌∷◌, ◌++◌, length, take, drop, map, slice_index, slice_set, if◌then◌else◌}
use Rattle.std.specs.Int.{w32, to_le_bytes, from_le_bytes}
use Rattle.std.specs.List.{list_all, prefix_len, range_with_len}
use Rattle.word_mem.specs.Memory.{Mem, reaches, refused}
use Rattle.word_mem.specs.Views.{byte_at}

pub record ArePages (pages : List ℕ) : Type 0 where
  pub each : (i : ℕ) → slice_index pages i < 1048576
  pub few : length pages ≤ 1048576

abbrev pub AreDistinct : List ℕ → Type 0
AreDistinct pages = (i j : ℕ) → i < length pages → j < length pages → slice_index pages i ≡ slice_index pages j → i ≡ j

abbrev pub bytes_of : ℕ → List ℕ
bytes_of w = to_le_bytes w32 w

abbrev pub word_of : List ℕ → ℕ
word_of bs = from_le_bytes w32 bs

-- n words of these bytes, from byte i of them on
unfoldable pub words_from : List ℕ → ℕ → ℕ → List ℕ
words_from bs i zero = []
words_from bs i (suc n) = word_of (slice_index bs i ∷ slice_index bs (i + 1) ∷ slice_index bs (i + 2) ∷ slice_index bs (i + 3) ∷ []) ∷ words_from bs (i + 4) n

-- the words with another byte at the byte address a
unfoldable pub put_byte : List ℕ → ℕ → ℕ → List ℕ
put_byte words a b = slice_set words (a / 4) (word_of (slice_set (bytes_of (slice_index words (a / 4))) (a % 4) b))

abbrev pub with_byte : Mem → ℕ → ℕ → Mem
with_byte m a b = record m { words = put_byte m.words a b }

abbrev pub place : List ℕ → ℕ → ℕ
place pages k = slice_index pages (k / 4096) * 4096 + k % 4096

unfoldable pub places : List ℕ → ℕ → ℕ → List ℕ
places pages k n = map (place pages) (range_with_len k n)

unfoldable pub bytes_at : Mem → List ℕ → ℕ → ℕ → List ℕ
bytes_at m pages k n = map (byte_at m) (places pages k n)

-- the words with these bytes put from byte k of the buffer on
unfoldable pub put_bytes : List ℕ → List ℕ → ℕ → List ℕ → List ℕ
put_bytes words pages k [] = words
put_bytes words pages k (b ∷ bs) = put_bytes (put_byte words (place pages k) b) pages (k + 1) bs

abbrev pub with_bytes : Mem → List ℕ → ℕ → List ℕ → Mem
with_bytes m pages k bs = record m { words = put_bytes m.words pages k bs }

unfoldable pub reached : Mem → List ℕ → ℕ → ℕ → ℕ
reached m pages k n = prefix_len (reaches m) (places pages k n)

unfoldable pub all_reached : Mem → List ℕ → ℕ → ℕ → Bool
all_reached m pages k n = list_all (reaches m) (places pages k n)

abbrev pub AreReached : Mem → List ℕ → ℕ → ℕ → Type 0
AreReached m pages k n = (i : ℕ) → i < n → reaches m (place pages (k + i)) ≡ true

abbrev pub AreThere : Mem → List ℕ → ℕ → ℕ → Type 0
AreThere m pages k n = (i : ℕ) → i < n → place pages (k + i) < 4 * length m.words

unfoldable pub stored : Mem → List ℕ → ℕ → List ℕ → Mem
stored m pages k bs =
    if all_reached m pages k (length bs) then with_bytes m pages k bs
    else refused (with_bytes m pages k (take (reached m pages k (length bs)) bs))

unfoldable pub loaded : Mem → List ℕ → ℕ → List ℕ → List ℕ
loaded m pages k old = bytes_at m pages k (reached m pages k (length old)) ++ drop (reached m pages k (length old)) old
