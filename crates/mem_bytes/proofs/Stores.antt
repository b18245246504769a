-- Bytes put into words one after the other, and whole words at once.
use Rattle.std.proofs.Common.{◌≡◌, ℕ, zero, suc, ◌+◌, ◌/◌, ◌%◌, ◌<◌, ◌≤◌, List, [], ◌∷◌, ◌++◌, length, get_or, set, take, drop, arith, ap, refl, sym, ◌∙◌, ⊎_elim}
use Rattle.std.proofs.lemmas.Bool.{cases_lt}
use Rattle.std.proofs.lemmas.List.{get_or-set_same, set_past, length-set, length-take}
use Rattle.std.proofs.Math.Seq.{take-add}
use Rattle.mem_bytes.specs.Bytes.{bytes_of, word_of, place, put_byte, put_bytes}
use Rattle.mem_bytes.proofs.WordBytes.{bytes_of-set}

-- the next byte of the same page
pub place_next : (pages : List ℕ) (k i : ℕ) → k % 4096 + i < 4096 → place pages (k + i) ≡ place pages k + i
place_next pages k i inside =
    let page : (k + i) / 4096 ≡ k / 4096 = omega arith in
    let offset : (k + i) % 4096 ≡ k % 4096 + i = omega arith in
    rw (page, offset) (omega arith)

pub put_bytes-append : (ws pages : List ℕ) (k : ℕ) (xs ys : List ℕ) → put_bytes ws pages k (xs ++ ys) ≡ put_bytes (put_bytes ws pages k xs) pages (k + length xs) ys
unfolding put_bytes
put_bytes-append ws pages k [] ys = let same : k + 0 ≡ k = omega arith in rw same refl
put_bytes-append ws pages k (x ∷ xs) ys =
    let same : k + suc (length xs) ≡ k + 1 + length xs = omega arith in
    rw same (put_bytes-append (put_byte ws (place pages k) x) pages (k + 1) xs ys)

-- the bytes that follow those put so far
pub put_bytes_more : (ws pages : List ℕ) (k : ℕ) (bs : List ℕ) (d n : ℕ) → d ≤ length bs → put_bytes (put_bytes ws pages k (take d bs)) pages (k + d) (take n (drop d bs)) ≡ put_bytes ws pages k (take (d + n) bs)
put_bytes_more ws pages k bs d n within =
    let long : length (take d bs) ≡ d = omega (arith, length-take d bs) in
    let joined = put_bytes-append ws pages k (take d bs) (take n (drop d bs)) in
    ap (λ j. put_bytes (put_bytes ws pages k (take d bs)) pages (k + j) (take n (drop d bs))) (sym long) ∙ sym joined
    ∙ ap (put_bytes ws pages k) (sym (take-add d n bs))

pub put_bytes_one : (ws pages : List ℕ) (k b : ℕ) → put_bytes ws pages k (b ∷ []) ≡ put_byte ws (place pages k) b
unfolding put_bytes
put_bytes_one ws pages k b = refl

set_twice : (xs : List ℕ) (i x y : ℕ) → set (set xs i x) i y ≡ set xs i y
set_twice [] i x y = refl
set_twice (z ∷ xs) zero x y = refl
set_twice (z ∷ xs) (suc i) x y = ap (λ ys. z ∷ ys) (set_twice xs i x y)

-- another byte of a word of which some bytes were put
put_in_word : (ws : List ℕ) (n w a j b : ℕ) → n < length ws → a / 4 ≡ n → a % 4 ≡ j → put_byte (set ws n w) a b ≡ set ws n (word_of (set (bytes_of w) j b))
unfolding put_byte
put_in_word ws n w a j b inside at byte =
    rw (at, byte, get_or-set_same ws n w 0 inside) (set_twice ws n w (word_of (set (bytes_of w) j b)))

-- the first byte put into a word
first_in_word : (ws : List ℕ) (a b : ℕ) → a % 4 ≡ 0 → put_byte ws a b ≡ set ws (a / 4) (word_of (set (bytes_of (get_or ws (a / 4) 0)) 0 b))
unfolding put_byte
first_in_word ws a b aligned = rw aligned refl

put_past : (ws : List ℕ) (a b : ℕ) → length ws ≤ a / 4 → put_byte ws a b ≡ ws
unfolding put_byte
put_past ws a b past = set_past ws (a / 4) _ past

-- four bytes of one word are that word
four_in_word : (ws : List ℕ) (a p q r s : ℕ) → a % 4 ≡ 0 → p < 256 → q < 256 → r < 256 → s < 256 → a / 4 < length ws → put_byte (put_byte (put_byte (put_byte ws a p) (a + 1) q) (a + 2) r) (a + 3) s ≡ set ws (a / 4) (word_of (p ∷ q ∷ r ∷ s ∷ []))
four_in_word ws a p q r s aligned sp sq sr ss inside =
    let w = get_or ws (a / 4) 0 in
    let w1 = word_of (set (bytes_of w) 0 p) in
    let w2 = word_of (set (bytes_of w1) 1 q) in
    let w3 = word_of (set (bytes_of w2) 2 r) in
    let b1 = bytes_of-set w 0 p (omega arith) sp in
    let b2 = bytes_of-set w1 1 q (omega arith) sq in
    let b3 = bytes_of-set w2 2 r (omega arith) sr in
    let first : put_byte ws a p ≡ set ws (a / 4) w1 = first_in_word ws a p aligned in
    let second = put_in_word ws (a / 4) w1 (a + 1) 1 q inside (omega arith) (omega arith) in
    let third = put_in_word ws (a / 4) w2 (a + 2) 2 r inside (omega arith) (omega arith) in
    let fourth = put_in_word ws (a / 4) w3 (a + 3) 3 s inside (omega arith) (omega arith) in
    let whole : set (bytes_of w3) 3 s ≡ p ∷ q ∷ r ∷ s ∷ [] =
    ap (λ bs. set bs 3 s) (b3 ∙ ap (λ bs. set bs 2 r) (b2 ∙ ap (λ bs. set bs 1 q) b1)) in
    rw (first, second, third, fourth) (ap (λ bs. set ws (a / 4) (word_of bs)) whole)

four_past : (ws : List ℕ) (a p q r s : ℕ) → a % 4 ≡ 0 → length ws ≤ a / 4 → put_byte (put_byte (put_byte (put_byte ws a p) (a + 1) q) (a + 2) r) (a + 3) s ≡ ws
four_past ws a p q r s aligned past =
    rw (put_past ws a p past, put_past ws (a + 1) q (omega arith), put_past ws (a + 2) r (omega arith), put_past ws (a + 3) s (omega arith)) refl

four_any : (ws : List ℕ) (a p q r s : ℕ) → a % 4 ≡ 0 → p < 256 → q < 256 → r < 256 → s < 256 → put_byte (put_byte (put_byte (put_byte ws a p) (a + 1) q) (a + 2) r) (a + 3) s ≡ set ws (a / 4) (word_of (p ∷ q ∷ r ∷ s ∷ []))
four_any ws a p q r s aligned sp sq sr ss =
    ⊎_elim (λ (inside : a / 4 < length ws). four_in_word ws a p q r s aligned sp sq sr ss inside)
    (λ (past : length ws ≤ a / 4). four_past ws a p q r s aligned past ∙ sym (set_past ws (a / 4) (word_of (p ∷ q ∷ r ∷ s ∷ [])) past))
    (cases_lt (a / 4) (length ws))

four_put : (ws pages : List ℕ) (k p q r s : ℕ) → put_bytes ws pages k (p ∷ q ∷ r ∷ s ∷ []) ≡ put_byte (put_byte (put_byte (put_byte ws (place pages k) p) (place pages (k + 1)) q) (place pages (k + 1 + 1)) r) (place pages (k + 1 + 1 + 1)) s
unfolding put_bytes
four_put ws pages k p q r s = refl

whole_place : (pages : List ℕ) (k i : ℕ) → place pages k % 4 ≡ 0 → i < 4 → place pages (k + i) ≡ place pages k + i
whole_place pages k i aligned inside = place_next pages k i (omega arith)

-- four bytes of the buffer that make a word
pub put_bytes_whole : (ws pages : List ℕ) (k p q r s : ℕ) → place pages k % 4 ≡ 0 → p < 256 → q < 256 → r < 256 → s < 256 → put_bytes ws pages k (p ∷ q ∷ r ∷ s ∷ []) ≡ set ws (place pages k / 4) (word_of (p ∷ q ∷ r ∷ s ∷ []))
put_bytes_whole ws pages k p q r s aligned sp sq sr ss =
    let one : place pages (k + 1) ≡ place pages k + 1 = whole_place pages k 1 aligned (omega arith) in
    let two : place pages (k + 1 + 1) ≡ place pages k + 2 =
    let e : k + 1 + 1 ≡ k + 2 = omega arith in ap (place pages) e ∙ whole_place pages k 2 aligned (omega arith)
    in
    let three : place pages (k + 1 + 1 + 1) ≡ place pages k + 3 =
    let e : k + 1 + 1 + 1 ≡ k + 3 = omega arith in ap (place pages) e ∙ whole_place pages k 3 aligned (omega arith)
    in
    four_put ws pages k p q r s
    ∙ ap (λ a. put_byte (put_byte (put_byte (put_byte ws (place pages k) p) a q) (place pages (k + 1 + 1)) r) (place pages (k + 1 + 1 + 1)) s) one
    ∙ ap (λ a. put_byte (put_byte (put_byte (put_byte ws (place pages k) p) (place pages k + 1) q) a r) (place pages (k + 1 + 1 + 1)) s) two
    ∙ ap (λ a. put_byte (put_byte (put_byte (put_byte ws (place pages k) p) (place pages k + 1) q) (place pages k + 2) r) a s) three
    ∙ four_any ws (place pages k) p q r s aligned sp sq sr ss

pub take_four : (bs : List ℕ) → 4 ≤ length bs → take 4 bs ≡ get_or bs 0 0 ∷ get_or bs 1 0 ∷ get_or bs 2 0 ∷ get_or bs 3 0 ∷ []
take_four (a ∷ b ∷ c ∷ d ∷ rest) long = refl
take_four _ long = absurd (omega arith)

pub take_one : (bs : List ℕ) → 1 ≤ length bs → take 1 bs ≡ get_or bs 0 0 ∷ []
take_one [] long = absurd (omega arith)
take_one (a ∷ rest) long = refl

pub put_bytes_none : (ws pages : List ℕ) (k : ℕ) → put_bytes ws pages k [] ≡ ws
unfolding put_bytes
put_bytes_none ws pages k = refl

pub length-put_byte : (ws : List ℕ) (a b : ℕ) → length (put_byte ws a b) ≡ length ws
unfolding put_byte
length-put_byte ws a b = length-set ws (a / 4) _

pub length-put_bytes : (ws pages : List ℕ) (k : ℕ) (bs : List ℕ) → length (put_bytes ws pages k bs) ≡ length ws
unfolding put_bytes
length-put_bytes ws pages k [] = refl
length-put_bytes ws pages k (b ∷ bs) = length-put_bytes (put_byte ws (place pages k) b) pages (k + 1) bs ∙ length-put_byte ws (place pages k) b
