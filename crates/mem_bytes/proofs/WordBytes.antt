-- The bytes of a word, and of words in which one byte changed.
use Rattle.std.proofs.Common.{◌≡◌, ℕ, zero, suc, ◌<◌, ◌/◌, ◌%◌, ap, List, length, get_or, set, arith, refl}
use Rattle.std.proofs.Math.ListN.{length-set}
use Rattle.std.proofs.lemmas.List.{get_or-set_same, get_or-set_other}
use Rattle.std.proofs.lemmas.Nat.{le_bytes_4}
use Rattle.word_mem.specs.Views.{byte_of, with_byte_of, with_byte_in}
use Rattle.mem_bytes.specs.Bytes.{bytes_of, word_of, put_byte}

-- the bytes of a word are bytes
pub byte_small : (w i : ℕ) → get_or (bytes_of w) i 0 < 256
byte_small w (suc (suc (suc zero))) = omega arith
byte_small w _ = omega arith

set_small : (xs : List ℕ) (j b : ℕ) → ((i : ℕ) → get_or xs i 0 < 256) → b < 256 → j < length xs → (i : ℕ) → get_or (set xs j b) i 0 < 256
set_small xs j b all small inside i = grind (arith, all i, get_or-set_same xs j b 0, get_or-set_other xs j i b 0)

-- the word of other bytes has them
pub bytes_of-word_of : (bs : List ℕ) → length bs ≡ 4 → ((i : ℕ) → get_or bs i 0 < 256) → bytes_of (word_of bs) ≡ bs
bytes_of-word_of bs four all = le_bytes_4 bs (word_of bs) four all refl

pub bytes_of-set : (w j b : ℕ) → j < 4 → b < 256 → bytes_of (word_of (set (bytes_of w) j b)) ≡ set (bytes_of w) j b
bytes_of-set w j b inside small =
    bytes_of-word_of (set (bytes_of w) j b) (length-set (bytes_of w) j b) (set_small (bytes_of w) j b (byte_small w) small inside)

-- the bytes of a word one by one
pub byte_of_word : (w j : ℕ) → j < 4 → get_or (bytes_of w) j 0 ≡ byte_of w j
byte_of_word w zero below = omega arith
byte_of_word w (suc (suc (suc (suc j)))) below = absurd (omega arith)
byte_of_word w _ below = refl

with_byte_word : (w j b : ℕ) → j < 4 → w < 4294967296 → word_of (set (bytes_of w) j b) ≡ with_byte_of w j b
with_byte_word w (suc (suc (suc (suc j)))) b below fits = absurd (omega arith)
with_byte_word w _ b below fits = omega arith

-- a byte put is the byte that word memory's own words put
pub put_byte_is : (ws : List ℕ) (a b : ℕ) → get_or ws (a / 4) 0 < 4294967296 → put_byte ws a b ≡ with_byte_in ws a b
unfolding put_byte
put_byte_is ws a b fits = ap (set ws (a / 4)) (with_byte_word (get_or ws (a / 4) 0) (a % 4) b (omega arith) fits)
