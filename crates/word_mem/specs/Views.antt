-- What words and bytes stand at an address, and memory with words or bytes in a row written.
--     words_at m at n          the n words from the byte address `at` on, a multiple of 4
--     StandsAt m at ws         these words stand there
--     with_words m at ws       these words are written there, and nothing else differs
--     byte_at m at             the byte at the byte address `at`: byte `at mod 4` of its word, the lowest first
--     bytes_at m at n          the n bytes from there on
--     with_bytes m at bs       these bytes are written there, and nothing else differs
-- The words of `_of` and `_in` say the same of a word and of a list of words.
use Rattle.std.specs.Prelude.{◌≡◌, ℕ, zero, suc, ◌+◌, ◌*◌, ◌/◌, ◌%◌, ◌^◌, List, [], ◌∷◌, length, slice_index, slice_set}
use Rattle.word_mem.specs.Memory.{Mem}

unfoldable pub words_in : List ℕ → ℕ → ℕ → List ℕ
words_in ws at zero = []
words_in ws at (suc n) = slice_index ws (at / 4) ∷ words_in ws (at + 4) n

unfoldable pub with_words_in : List ℕ → ℕ → List ℕ → List ℕ
with_words_in ws at [] = ws
with_words_in ws at (v ∷ vs) = with_words_in (slice_set ws (at / 4) v) (at + 4) vs

abbrev pub words_at : Mem → ℕ → ℕ → List ℕ
words_at m at n = words_in m.words at n

abbrev pub StandsAt : Mem → ℕ → List ℕ → Type 0
StandsAt m at ws = words_at m at (length ws) ≡ ws

abbrev pub with_words : Mem → ℕ → List ℕ → Mem
with_words m at ws = record m { words = with_words_in m.words at ws }

-- byte j of a word, and the word with it changed
abbrev pub byte_of : ℕ → ℕ → ℕ
byte_of w j = w / 256 ^ j % 256

abbrev pub with_byte_of : ℕ → ℕ → ℕ → ℕ
with_byte_of w j b = w / 256 ^ (j + 1) * 256 ^ (j + 1) + b * 256 ^ j + w % 256 ^ j

abbrev pub byte_in : List ℕ → ℕ → ℕ
byte_in ws at = byte_of (slice_index ws (at / 4)) (at % 4)

abbrev pub with_byte_in : List ℕ → ℕ → ℕ → List ℕ
with_byte_in ws at b = slice_set ws (at / 4) (with_byte_of (slice_index ws (at / 4)) (at % 4) b)

unfoldable pub bytes_in : List ℕ → ℕ → ℕ → List ℕ
bytes_in ws at zero = []
bytes_in ws at (suc n) = byte_in ws at ∷ bytes_in ws (at + 1) n

unfoldable pub with_bytes_in : List ℕ → ℕ → List ℕ → List ℕ
with_bytes_in ws at [] = ws
with_bytes_in ws at (b ∷ bs) = with_bytes_in (with_byte_in ws at b) (at + 1) bs

abbrev pub byte_at : Mem → ℕ → ℕ
byte_at m at = byte_in m.words at

abbrev pub bytes_at : Mem → ℕ → ℕ → List ℕ
bytes_at m at n = bytes_in m.words at n

abbrev pub with_bytes : Mem → ℕ → List ℕ → Mem
with_bytes m at bs = record m { words = with_bytes_in m.words at bs }
