-- Bytes in a row: what stands at an address after writes. Byte j of a word is the lowest first.
use Rattle.std.proofs.Common.{◌≡◌, ◌≢◌, ℕ, zero, suc, ◌+◌, ◌*◌, ◌/◌, ◌%◌, ◌^◌, ◌<◌, ◌≤◌, ◌⊎◌, List, [], ◌∷◌, ◌++◌, length, take, get_or, set, arith, ap, sym, ◌∙◌, inl, inr, ⊎_elim, refl, add-zero, zero-add, suc-add}
use Rattle.std.proofs.lemmas.Grind.{same_number_lists, get_or-set_at}
use Rattle.std.proofs.lemmas.Bool.{cases_eq}
use Rattle.std.proofs.lemmas.List.{get_or-set_same, get_or-set_other, length-set, length-take-le, set-set, take_more}
use Rattle.std.specs.Prelude.{All}
use Rattle.word_mem.specs.Memory.{Mem}
use Rattle.word_mem.specs.Views.{with_bytes, byte_of, with_byte_of, byte_in, with_byte_in, bytes_in, with_bytes_in}

-- a byte of a word just changed
pub byte_of-with_byte_of_same : (w j b : ℕ) → j < 4 → b < 256 → byte_of (with_byte_of w j b) j ≡ b
byte_of-with_byte_of_same w (suc (suc (suc (suc j)))) b small byte = absurd (omega arith)
byte_of-with_byte_of_same w _ b small byte = omega arith

-- and another byte of it
pub byte_of-with_byte_of_other : (w j b i : ℕ) → j < 4 → b < 256 → i < 4 → i ≢ j → byte_of (with_byte_of w j b) i ≡ byte_of w i
byte_of-with_byte_of_other w zero b zero small byte also other = absurd (other refl)
byte_of-with_byte_of_other w zero b (suc zero) small byte also other = omega arith
byte_of-with_byte_of_other w zero b (suc (suc zero)) small byte also other = omega arith
byte_of-with_byte_of_other w zero b (suc (suc (suc zero))) small byte also other = omega arith
byte_of-with_byte_of_other w zero b (suc (suc (suc (suc i)))) small byte also other = absurd (omega arith)
byte_of-with_byte_of_other w (suc zero) b zero small byte also other = omega arith
byte_of-with_byte_of_other w (suc zero) b (suc zero) small byte also other = absurd (other refl)
byte_of-with_byte_of_other w (suc zero) b (suc (suc zero)) small byte also other = omega arith
byte_of-with_byte_of_other w (suc zero) b (suc (suc (suc zero))) small byte also other = omega arith
byte_of-with_byte_of_other w (suc zero) b (suc (suc (suc (suc i)))) small byte also other = absurd (omega arith)
byte_of-with_byte_of_other w (suc (suc zero)) b zero small byte also other = omega arith
byte_of-with_byte_of_other w (suc (suc zero)) b (suc zero) small byte also other = omega arith
byte_of-with_byte_of_other w (suc (suc zero)) b (suc (suc zero)) small byte also other = absurd (other refl)
byte_of-with_byte_of_other w (suc (suc zero)) b (suc (suc (suc zero))) small byte also other = omega arith
byte_of-with_byte_of_other w (suc (suc zero)) b (suc (suc (suc (suc i)))) small byte also other = absurd (omega arith)
byte_of-with_byte_of_other w (suc (suc (suc zero))) b zero small byte also other = omega arith
byte_of-with_byte_of_other w (suc (suc (suc zero))) b (suc zero) small byte also other = omega arith
byte_of-with_byte_of_other w (suc (suc (suc zero))) b (suc (suc zero)) small byte also other = omega arith
byte_of-with_byte_of_other w (suc (suc (suc zero))) b (suc (suc (suc zero))) small byte also other = absurd (other refl)
byte_of-with_byte_of_other w (suc (suc (suc zero))) b (suc (suc (suc (suc i)))) small byte also other = absurd (omega arith)
byte_of-with_byte_of_other w (suc (suc (suc (suc j)))) b i small byte also other = absurd (omega arith)

-- a word stays a word
pub with_byte_of-fits : (w j b : ℕ) → j < 4 → b < 256 → w < 2 ^ 32 → with_byte_of w j b < 2 ^ 32
with_byte_of-fits w (suc (suc (suc (suc j)))) b small byte fits = absurd (omega arith)
with_byte_of-fits w _ b small byte fits = omega arith

-- a byte just written, and another one
pub byte_in-with_byte_in_same : (ws : List ℕ) (at b : ℕ) → at / 4 < length ws → b < 256 → byte_in (with_byte_in ws at b) at ≡ b
byte_in-with_byte_in_same ws at b within byte =
    let w = get_or ws (at / 4) 0 in
    ap (λ v. byte_of v (at % 4)) (get_or-set_same ws (at / 4) (with_byte_of w (at % 4) b) 0 within) ∙ byte_of-with_byte_of_same w (at % 4) b (omega arith) byte

pub byte_in-with_byte_in_other : (ws : List ℕ) (at b other : ℕ) → at / 4 < length ws → b < 256 → other ≢ at → byte_in (with_byte_in ws at b) other ≡ byte_in ws other
byte_in-with_byte_in_other ws at b other within byte differs =
    let w = get_or ws (at / 4) 0 in
    ⊎_elim
    (λ (same : other / 4 ≡ at / 4).
    let apart : other % 4 ≢ at % 4 = λ e. differs (omega arith) in
    ap (λ v. byte_of v (other % 4)) (get_or-set_at ws (at / 4) (other / 4) (with_byte_of w (at % 4) b) 0 same within)
    ∙ byte_of-with_byte_of_other w (at % 4) b (other % 4) (omega arith) byte (omega arith) apart
    ∙ ap (λ i. byte_of (get_or ws i 0) (other % 4)) (sym same))
    (λ (apart : other / 4 ≡ at / 4 → ⊥). ap (λ v. byte_of v (other % 4)) (get_or-set_other ws (at / 4) (other / 4) (with_byte_of w (at % 4) b) 0 apart))
    (cases_eq (other / 4) (at / 4))

-- bytes in a row
pub length-bytes_in : (ws : List ℕ) (at n : ℕ) → length (bytes_in ws at n) ≡ n
unfolding bytes_in
length-bytes_in ws at zero = refl
length-bytes_in ws at (suc n) = ap suc (length-bytes_in ws (at + 1) n)

pub get_or-bytes_in : (ws : List ℕ) (at n k : ℕ) → k < n → get_or (bytes_in ws at n) k 0 ≡ byte_in ws (at + k)
unfolding bytes_in
get_or-bytes_in ws at zero k below = absurd (omega arith)
get_or-bytes_in ws at (suc n) zero below = ap (byte_in ws) (sym (add-zero at))
get_or-bytes_in ws at (suc n) (suc k) below =
    let same : at + 1 + k ≡ at + suc k = omega arith in
    get_or-bytes_in ws (at + 1) n k (omega arith) ∙ ap (byte_in ws) same

pub bytes_in_is : (ws : List ℕ) (at n : ℕ) (new : List ℕ) → length new ≡ n → ((k : ℕ) → k < n → get_or new k 0 ≡ byte_in ws (at + k)) → new ≡ bytes_in ws at n
bytes_in_is ws at n new long each =
    same_number_lists new (bytes_in ws at n) (long ∙ sym (length-bytes_in ws at n))
    (λ k below. each k (omega arith) ∙ sym (get_or-bytes_in ws at n k (omega arith)))

pub bytes_in_same : (ws new : List ℕ) (at n : ℕ) → ((k : ℕ) → k < n → byte_in new (at + k) ≡ byte_in ws (at + k)) → bytes_in new at n ≡ bytes_in ws at n
bytes_in_same ws new at n each = bytes_in_is ws at n (bytes_in new at n) (length-bytes_in new at n) (λ k below. get_or-bytes_in new at n k below ∙ each k below)

-- one part after another
pub bytes_in-add : (ws : List ℕ) (at n k : ℕ) → bytes_in ws at (n + k) ≡ bytes_in ws at n ++ bytes_in ws (at + n) k
unfolding bytes_in
bytes_in-add ws at zero k = rw (zero-add, add-zero) refl
bytes_in-add ws at (suc n) k =
    let e : at + 1 + n ≡ at + suc n = omega arith in
    rw suc-add (ap (λ xs. byte_in ws at ∷ xs) (bytes_in-add ws (at + 1) n k ∙ ap (λ i. bytes_in ws (at + 1) n ++ bytes_in ws i k) e))

-- no byte, and one more
pub bytes_in_none : (ws : List ℕ) (at : ℕ) → bytes_in ws at 0 ≡ []
unfolding bytes_in
bytes_in_none ws at = refl

pub bytes_in_more : (ws : List ℕ) (at n : ℕ) → bytes_in ws at (n + 1) ≡ bytes_in ws at n ++ byte_in ws (at + n) ∷ []
unfolding bytes_in
bytes_in_more ws at n = bytes_in-add ws at n 1

rest_small : (b : ℕ) (bs : List ℕ) → All (λ c. c < 256) (b ∷ bs) → All (λ c. c < 256) bs
rest_small b bs small = λ k d below. small (suc k) d (omega arith)

-- bytes written in a row
pub length-with_bytes_in : (ws : List ℕ) (at : ℕ) (bs : List ℕ) → length (with_bytes_in ws at bs) ≡ length ws
unfolding with_bytes_in
length-with_bytes_in ws at [] = refl
length-with_bytes_in ws at (b ∷ bs) =
    length-with_bytes_in (with_byte_in ws at b) (at + 1) bs ∙ length-set ws (at / 4) (with_byte_of (get_or ws (at / 4) 0) (at % 4) b)

pub byte_in-with_bytes_in_apart : (ws : List ℕ) (at : ℕ) (bs : List ℕ) (other : ℕ) → at + length bs ≤ 4 * length ws → All (λ b. b < 256) bs → (other < at) ⊎ (at + length bs ≤ other) → byte_in (with_bytes_in ws at bs) other ≡ byte_in ws other
unfolding with_bytes_in
byte_in-with_bytes_in_apart ws at [] other within small apart = refl
byte_in-with_bytes_in_apart ws at (b ∷ bs) other within small apart =
    let kept = length-set ws (at / 4) (with_byte_of (get_or ws (at / 4) 0) (at % 4) b) in
    let later : (other < at + 1) ⊎ (at + 1 + length bs ≤ other) = ⊎_elim (λ (low : other < at). inl (omega arith)) (λ (high : at + suc (length bs) ≤ other). inr (omega arith)) apart in
    byte_in-with_bytes_in_apart (with_byte_in ws at b) (at + 1) bs other (omega (arith, kept)) (rest_small b bs small) later
    ∙ byte_in-with_byte_in_other ws at b other (omega arith) (small 0 0 (omega arith)) (⊎_elim (λ (low : other < at) (e : other ≡ at). absurd (omega arith)) (λ (high : at + suc (length bs) ≤ other) (e : other ≡ at). absurd (omega arith)) apart)

-- they stand there, and others stand as they did
pub bytes_in-with_bytes_in_same : (ws : List ℕ) (at : ℕ) (bs : List ℕ) → at + length bs ≤ 4 * length ws → All (λ b. b < 256) bs → bytes_in (with_bytes_in ws at bs) at (length bs) ≡ bs
unfolding with_bytes_in bytes_in
bytes_in-with_bytes_in_same ws at [] within small = refl
bytes_in-with_bytes_in_same ws at (b ∷ bs) within small =
    let kept = length-set ws (at / 4) (with_byte_of (get_or ws (at / 4) 0) (at % 4) b) in
    let head = byte_in-with_bytes_in_apart (with_byte_in ws at b) (at + 1) bs at (omega (arith, kept)) (rest_small b bs small) (inl (omega arith)) ∙ byte_in-with_byte_in_same ws at b (omega arith) (small 0 0 (omega arith)) in
    let tail = bytes_in-with_bytes_in_same (with_byte_in ws at b) (at + 1) bs (omega (arith, kept)) (rest_small b bs small) in
    ap (λ x. x ∷ bytes_in (with_bytes_in (with_byte_in ws at b) (at + 1) bs) (at + 1) (length bs)) head ∙ ap (λ xs. b ∷ xs) tail

pub bytes_in-with_bytes_in_apart : (ws : List ℕ) (at n other : ℕ) (bs : List ℕ) → other + length bs ≤ 4 * length ws → All (λ b. b < 256) bs → (at + n ≤ other) ⊎ (other + length bs ≤ at) → bytes_in (with_bytes_in ws other bs) at n ≡ bytes_in ws at n
bytes_in-with_bytes_in_apart ws at n other bs within small apart =
    bytes_in_same ws (with_bytes_in ws other bs) at n
    (λ k below. byte_in-with_bytes_in_apart ws other bs (at + k) within small
    (⊎_elim (λ (low : at + n ≤ other). inl (omega arith)) (λ (high : other + length bs ≤ at). inr (omega arith)) apart))

-- one part after another
pub with_bytes_in-append : (ws : List ℕ) (at : ℕ) (bs cs : List ℕ) → with_bytes_in ws at (bs ++ cs) ≡ with_bytes_in (with_bytes_in ws at bs) (at + length bs) cs
unfolding with_bytes_in
with_bytes_in-append ws at [] cs = ap (λ i. with_bytes_in ws i cs) (sym (add-zero at))
with_bytes_in-append ws at (b ∷ bs) cs =
    let e : at + 1 + length bs ≡ at + suc (length bs) = omega arith in
    with_bytes_in-append (with_byte_in ws at b) (at + 1) bs cs ∙ ap (λ i. with_bytes_in (with_bytes_in (with_byte_in ws at b) (at + 1) bs) i cs) e

-- a loop that writes them one after another
pub with_bytes_none : (m : Mem) (at : ℕ) → with_bytes m at [] ≡ m
unfolding with_bytes_in
with_bytes_none m at = refl

pub with_bytes_more : (m : Mem) (at : ℕ) (bs : List ℕ) (k : ℕ) → k < length bs → with_bytes (with_bytes m at (take k bs)) (at + k) (get_or bs k 0 ∷ []) ≡ with_bytes m at (take (k + 1) bs)
with_bytes_more m at bs k below =
    let long : k ≡ length (take k bs) = sym (length-take-le k bs (omega arith)) in
    ap (λ (ws : List ℕ). let q : Mem = record m { words = ws } in q)
    (ap (λ n. with_bytes_in (with_bytes_in m.words at (take k bs)) (at + n) (get_or bs k 0 ∷ [])) long
    ∙ sym (with_bytes_in-append m.words at (take k bs) (get_or bs k 0 ∷ []))
    ∙ ap (with_bytes_in m.words at) (sym (take_more bs k 0 below)))

-- words in which no byte is written
pub word-with_bytes_in_apart : (ws : List ℕ) (at : ℕ) (bs : List ℕ) (i : ℕ) → (4 * i + 4 ≤ at) ⊎ (at + length bs ≤ 4 * i) → get_or (with_bytes_in ws at bs) i 0 ≡ get_or ws i 0
unfolding with_bytes_in
word-with_bytes_in_apart ws at [] i apart = refl
word-with_bytes_in_apart ws at (b ∷ bs) i apart =
    let later : (4 * i + 4 ≤ at + 1) ⊎ (at + 1 + length bs ≤ 4 * i) = ⊎_elim (λ (low : 4 * i + 4 ≤ at). inl (omega arith)) (λ (high : at + suc (length bs) ≤ 4 * i). inr (omega arith)) apart in
    word-with_bytes_in_apart (with_byte_in ws at b) (at + 1) bs i later
    ∙ get_or-set_other ws (at / 4) i (with_byte_of (get_or ws (at / 4) 0) (at % 4) b) 0 (⊎_elim (λ (low : 4 * i + 4 ≤ at) (e : i ≡ at / 4). absurd (omega arith)) (λ (high : at + suc (length bs) ≤ 4 * i) (e : i ≡ at / 4). absurd (omega arith)) apart)

-- bytes in words that are the same
pub bytes_in_by_words : (ws new : List ℕ) (at n : ℕ) → ((i : ℕ) → at / 4 ≤ i → 4 * i < at + n → get_or new i 0 ≡ get_or ws i 0) → bytes_in new at n ≡ bytes_in ws at n
bytes_in_by_words ws new at n each =
    bytes_in_same ws new at n (λ k below. ap (λ w. byte_of w ((at + k) % 4)) (each ((at + k) / 4) (omega arith) (omega arith)))

-- the word of four bytes, the lowest first
pub byte_of_four : (b c d e j : ℕ) → b < 256 → c < 256 → d < 256 → e < 256 → j < 4 → byte_of (b + 256 * c + 65536 * d + 16777216 * e) j ≡ get_or (b ∷ c ∷ d ∷ e ∷ []) j 0
byte_of_four b c d e (suc (suc (suc (suc j)))) small also third fourth few = absurd (omega arith)
byte_of_four b c d e _ small also third fourth few = omega arith

-- the places below and above a byte that is changed
low_step : (w b : ℕ) → b < 256 → (with_byte_of w 0 b % 256 ≡ b) × (with_byte_of w 0 b / 256 ≡ w / 256)
low_step w b byte = (omega arith, omega arith)

second_step : (w b : ℕ) → b < 256 → (with_byte_of w 1 b % 65536 ≡ w % 256 + 256 * b) × (with_byte_of w 1 b / 65536 ≡ w / 65536)
second_step w b byte = (omega arith, omega arith)

third_step : (w b : ℕ) → b < 256 → (with_byte_of w 2 b % 16777216 ≡ w % 65536 + 65536 * b) × (with_byte_of w 2 b / 16777216 ≡ w / 16777216)
third_step w b byte = (omega arith, omega arith)

last_step : (w b : ℕ) → b < 256 → w / 16777216 < 256 → with_byte_of w 3 b ≡ w % 16777216 + 16777216 * b
last_step w b byte fits = omega arith

higher : (x y : ℕ) → x / 256 ≡ y / 256 → x / 65536 ≡ y / 65536
higher x y same = omega arith

higher_still : (x y : ℕ) → x / 65536 ≡ y / 65536 → x / 16777216 ≡ y / 16777216
higher_still x y same = omega arith

four_bytes : (w b c d e : ℕ) → w < 2 ^ 32 → b < 256 → c < 256 → d < 256 → e < 256 → with_byte_of (with_byte_of (with_byte_of (with_byte_of w 0 b) 1 c) 2 d) 3 e ≡ b + 256 * c + 65536 * d + 16777216 * e
four_bytes w b c d e fits small also third fourth =
    let one = low_step w b small in
    let two = second_step (with_byte_of w 0 b) c also in
    let three = third_step (with_byte_of (with_byte_of w 0 b) 1 c) d third in
    let up : with_byte_of w 0 b / 65536 ≡ w / 65536 = higher (with_byte_of w 0 b) w one.1 in
    let up' : with_byte_of (with_byte_of w 0 b) 1 c / 16777216 ≡ w / 16777216 = higher_still (with_byte_of (with_byte_of w 0 b) 1 c) w (two.1 ∙ up) in
    last_step (with_byte_of (with_byte_of (with_byte_of w 0 b) 1 c) 2 d) e fourth (omega (arith, three.1, up'))
    ∙ omega (arith, three.0, two.0, one.0)

-- one more byte of a word just written
same_word_step : (ws : List ℕ) (i j v b at : ℕ) → at / 4 ≡ i → at % 4 ≡ j → i < length ws → with_byte_in (set ws i v) at b ≡ set ws i (with_byte_of v j b)
same_word_step ws i j v b at place part within =
    ap (λ n. set (set ws i v) n (with_byte_of (get_or (set ws i v) n 0) (at % 4) b)) place
    ∙ ap (λ n. set (set ws i v) i (with_byte_of (get_or (set ws i v) i 0) n b)) part
    ∙ ap (λ w. set (set ws i v) i (with_byte_of w j b)) (get_or-set_same ws i v 0 within)
    ∙ set-set ws i v (with_byte_of v j b)

-- four bytes written into a word are that word
pub with_four_bytes_in : (ws : List ℕ) (at b c d e : ℕ) → at % 4 ≡ 0 → at / 4 < length ws → get_or ws (at / 4) 0 < 2 ^ 32 → b < 256 → c < 256 → d < 256 → e < 256 → with_bytes_in ws at (b ∷ c ∷ d ∷ e ∷ []) ≡ set ws (at / 4) (b + 256 * c + 65536 * d + 16777216 * e)
unfolding with_bytes_in
with_four_bytes_in ws at b c d e aligned within fits small also third fourth =
    let i = at / 4 in
    let w = get_or ws i 0 in
    let v = with_byte_of w 0 b in
    let v' = with_byte_of v 1 c in
    let v'' = with_byte_of v' 2 d in
    let first : with_byte_in ws at b ≡ set ws i v = ap (λ n. set ws i (with_byte_of w n b)) aligned in
    ap (λ xs. with_byte_in (with_byte_in (with_byte_in xs (at + 1) c) (at + 1 + 1) d) (at + 1 + 1 + 1) e) first
    ∙ ap (λ xs. with_byte_in (with_byte_in xs (at + 1 + 1) d) (at + 1 + 1 + 1) e) (same_word_step ws i 1 v c (at + 1) (omega arith) (omega arith) within)
    ∙ ap (λ xs. with_byte_in xs (at + 1 + 1 + 1) e) (same_word_step ws i 2 v' d (at + 1 + 1) (omega arith) (omega arith) within)
    ∙ same_word_step ws i 3 v'' e (at + 1 + 1 + 1) (omega arith) (omega arith) within
    ∙ ap (λ x. set ws i x) (four_bytes w b c d e fits small also third fourth)
