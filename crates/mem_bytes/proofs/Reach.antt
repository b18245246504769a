-- How far the controller comes in a buffer.
use Rattle.std.proofs.Common.{◌≡◌, ℕ, ◌+◌, ◌-◌, ◌/◌, ◌%◌, ◌<◌, ◌≤◌, List, [], ◌∷◌, Bool, true, false, length, get_or, set, take, drop, arith, ap, refl, sym, ◌∙◌, ⊎_elim, if◌then◌else◌}
use Rattle.std.proofs.lemmas.Bool.{cases_lt, true≢false}
use Rattle.std.proofs.lemmas.List.{take_all, take_rest}
use Rattle.std.proofs.lemmas.List.Sums.{prefix_len_is, list_all-from_AllPass}
use Rattle.std.proofs.lemmas.List.Folds.{list_all_at}
use Rattle.std.proofs.lemmas.List.FromFn.{length-map-range_with_len, get_or-map-range_with_len}
use Rattle.word_mem.specs.Memory.{Mem, reaches, refused, with_word}
use Rattle.mem_bytes.proofs.Stores.{length-put_bytes, put_bytes_more, put_bytes_whole, put_bytes_one, put_bytes_none, take_four, take_one}
use Rattle.mem_bytes.specs.Bytes.{word_of, with_byte, put_byte, put_bytes, place, places, reached, all_reached, AreReached, stored, with_bytes}

pub length-places : (pages : List ℕ) (k n : ℕ) → length (places pages k n) ≡ n
unfolding places
length-places pages k n = length-map-range_with_len (place pages) k n

pub get_or-places : (pages : List ℕ) (k n i d : ℕ) → i < n → get_or (places pages k n) i d ≡ place pages (k + i)
unfolding places
get_or-places pages k n i d inside = get_or-map-range_with_len (place pages) k n i (k + i) d inside refl

-- the fact and the test
pub all_reached_if : (m : Mem) (pages : List ℕ) (k n : ℕ) → AreReached m pages k n → all_reached m pages k n ≡ true
unfolding all_reached
all_reached_if m pages k n each =
    list_all-from_AllPass (reaches m) (places pages k n)
    (λ i d inside. let here : i < n = omega (arith, length-places pages k n) in ap (reaches m) (get_or-places pages k n i d here) ∙ each i here)

pub all_reached_no : (m : Mem) (pages : List ℕ) (k n i : ℕ) → i < n → reaches m (place pages (k + i)) ≡ false → all_reached m pages k n ≡ false
unfolding all_reached
all_reached_no m pages k n i inside stop =
    list_all_at (reaches m) (places pages k n) i 0 (omega (arith, length-places pages k n)) (ap (reaches m) (get_or-places pages k n i 0 inside) ∙ stop)

-- the first byte that the controller may not touch
pub reached_is : (m : Mem) (pages : List ℕ) (k n d : ℕ) → d < n → AreReached m pages k d → reaches m (place pages (k + d)) ≡ false → reached m pages k n ≡ d
unfolding reached
reached_is m pages k n d inside each stop =
    prefix_len_is (reaches m) (places pages k n) d 0 (omega (arith, length-places pages k n))
    (λ i below. ap (reaches m) (get_or-places pages k n i 0 (omega arith)) ∙ each i below)
    (λ _. ap (reaches m) (get_or-places pages k n d 0 inside) ∙ stop)

pub reached_all : (m : Mem) (pages : List ℕ) (k n : ℕ) → AreReached m pages k n → reached m pages k n ≡ n
unfolding reached
reached_all m pages k n each =
    prefix_len_is (reaches m) (places pages k n) n 0 (omega (arith, length-places pages k n))
    (λ i below. ap (reaches m) (get_or-places pages k n i 0 below) ∙ each i below)
    (λ past. absurd (omega (arith, length-places pages k n)))

pub AreReached_more : (m : Mem) (pages : List ℕ) (k d n : ℕ) → AreReached m pages k d → AreReached m pages (k + d) n → AreReached m pages k (d + n)
AreReached_more m pages k d n before after =
    λ i below.
    ⊎_elim (λ (low : i < d). before i low)
    (λ (high : d ≤ i). let same : k + d + (i - d) ≡ k + i = omega arith in ap (λ j. reaches m (place pages j)) (sym same) ∙ after (i - d) (omega arith)) (cases_lt i d)

-- a store leaves the number of words
words_either : (b : Bool) (x y : Mem) (n : ℕ) → length x.words ≡ n → length y.words ≡ n → length (if b then x else y).words ≡ n
words_either true x y n one other = one
words_either false x y n one other = other

pub length-stored : (m : Mem) (pages : List ℕ) (k : ℕ) (bs : List ℕ) → length (stored m pages k bs).words ≡ length m.words
unfolding stored
length-stored m pages k bs =
    words_either (all_reached m pages k (length bs)) _ _ (length m.words) (length-put_bytes m.words pages k bs)
    (length-put_bytes m.words pages k (take (reached m pages k (length bs)) bs))

-- where the controller may touch every byte, all of them are stored
pub stored_all : (m : Mem) (pages : List ℕ) (k : ℕ) (bs : List ℕ) → AreReached m pages k (length bs) → stored m pages k bs ≡ with_bytes m pages k bs
unfolding stored
stored_all m pages k bs each = rw (all_reached_if m pages k (length bs) each) refl

pub stored_short : (m : Mem) (pages : List ℕ) (k : ℕ) (bs : List ℕ) (d : ℕ) → d < length bs → AreReached m pages k d → reaches m (place pages (k + d)) ≡ false → stored m pages k bs ≡ refused (with_bytes m pages k (take d bs))
unfolding stored
stored_short m pages k bs d inside each stop =
    rw (all_reached_no m pages k (length bs) d inside stop, reached_is m pages k (length bs) d inside each stop) refl

pub stored_done : (m : Mem) (pages : List ℕ) (k : ℕ) (bs : List ℕ) (d : ℕ) → length bs ≤ d → d ≤ length bs → AreReached m pages k d → with_bytes m pages k (take d bs) ≡ stored m pages k bs
stored_done m pages k bs d past within each =
    let long : d ≡ length bs = omega arith in
    let same : take d bs ≡ bs = take_all d bs past in
    rw same (sym (stored_all m pages k bs (λ i below. each i (omega arith))))

-- the first of two
pub chosen : {A : Type 0} (b : Bool) (x y : A) → true ≡ b → (if b then x else y) ≡ x
chosen true x y is = refl
chosen false x y is = absurd (true≢false is)

pub passed : {A : Type 0} (b : Bool) (x y : A) → b ≡ false → (if b then x else y) ≡ y
passed true x y is = absurd (true≢false is)
passed false x y is = refl

pub AreReached_same : (m now : Mem) (pages : List ℕ) (j n : ℕ) → now ≡ m → AreReached now pages j n → AreReached m pages j n
AreReached_same m now pages j n is each = λ i below. sym (ap (λ w. reaches w (place pages (j + i))) is) ∙ each i below

-- storing bytes gives the controller no other reach
pub AreReached_before : (m after : Mem) (pages : List ℕ) (k : ℕ) (bs : List ℕ) (j n : ℕ) → after ≡ with_bytes m pages k bs → AreReached after pages j n → AreReached m pages j n
AreReached_before m after pages k bs j n is each = λ i below. sym (ap (λ w. reaches w (place pages (j + i))) is) ∙ each i below

pub unreached_before : (m after : Mem) (pages : List ℕ) (k : ℕ) (bs : List ℕ) (at : ℕ) → after ≡ with_bytes m pages k bs → reaches after at ≡ false → reaches m at ≡ false
unreached_before m after pages k bs at is stop = sym (ap (λ w. reaches w at) is) ∙ stop

-- nothing is put
pub with_bytes_none : (m : Mem) (pages : List ℕ) (k : ℕ) → m ≡ with_bytes m pages k []
with_bytes_none m pages k = ap (λ ws. record m { words = ws }) (sym (put_bytes_none m.words pages k))

-- the bytes that follow
pub with_bytes_more : (m : Mem) (pages : List ℕ) (k : ℕ) (bs : List ℕ) (d n : ℕ) → d ≤ length bs → with_bytes (with_bytes m pages k (take d bs)) pages (k + d) (take n (drop d bs)) ≡ with_bytes m pages k (take (d + n) bs)
with_bytes_more m pages k bs d n within = ap (λ ws. record m { words = ws }) (put_bytes_more m.words pages k bs d n within)

pub with_bytes_on : (m now after : Mem) (pages : List ℕ) (k : ℕ) (bs : List ℕ) (d n : ℕ) → d ≤ length bs → now ≡ with_bytes m pages k (take d bs) → after ≡ with_bytes now pages (k + d) (take n (take (length bs - d) (drop d bs))) → after ≡ with_bytes m pages k (take (d + n) bs)
with_bytes_on m now after pages k bs d n within is next =
    next ∙ ap (λ w. with_bytes w pages (k + d) (take n (take (length bs - d) (drop d bs)))) is
    ∙ ap (λ xs. with_bytes (with_bytes m pages k (take d bs)) pages (k + d) (take n xs)) (take_rest bs d) ∙ with_bytes_more m pages k bs d n within

-- a word of them at once
pub with_bytes_whole : (m : Mem) (pages : List ℕ) (k : ℕ) (bs : List ℕ) (at word : ℕ) → 4 ≤ length bs → at ≡ place pages k → at % 4 ≡ 0 → ((i : ℕ) → get_or bs i 0 < 256) → word ≡ word_of (get_or bs 0 0 ∷ get_or bs 1 0 ∷ get_or bs 2 0 ∷ get_or bs 3 0 ∷ []) → with_word m at word ≡ with_bytes m pages k (take 4 bs)
with_bytes_whole m pages k bs at word long here aligned small is =
    let also : place pages k % 4 ≡ 0 = rw here at aligned in
    ap (λ ws. record m { words = ws })
    (ap (λ (a : ℕ). set m.words (a / 4) word) here ∙ ap (set m.words (place pages k / 4)) is
    ∙ sym (ap (put_bytes m.words pages k) (take_four bs long) ∙ put_bytes_whole m.words pages k _ _ _ _ also (small 0) (small 1) (small 2) (small 3)))

pub with_bytes_one : (m : Mem) (pages : List ℕ) (k : ℕ) (bs : List ℕ) (at : ℕ) → 1 ≤ length bs → at ≡ place pages k → with_byte m at (get_or bs 0 0) ≡ with_bytes m pages k (take 1 bs)
with_bytes_one m pages k bs at long here =
    ap (λ ws. record m { words = ws })
    (ap (λ a. put_byte m.words a (get_or bs 0 0)) here
    ∙ sym (ap (put_bytes m.words pages k) (take_one bs long) ∙ put_bytes_one m.words pages k (get_or bs 0 0)))
