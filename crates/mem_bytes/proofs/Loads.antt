-- The bytes of a buffer, read one after the other, and those of a word at once.
use Rattle.std.proofs.Common.{◌≡◌, ℕ, zero, suc, ◌+◌, ◌-◌, ◌/◌, ◌%◌, ◌<◌, ◌≤◌, List, [], ◌∷◌, ◌++◌, true, false, length, get_or, take, drop, arith, ap, refl, sym, ◌∙◌, ⊎_elim, append_assoc, append-nil, Bool, Some, None, if◌then◌else◌}
use Rattle.std.proofs.lemmas.Bool.{cases_lt}
use Rattle.std.proofs.lemmas.List.{ext_get_or, take_all, take_rest, drop_all, drop_at, drop-drop, length-map, get_or-map, get_or-take, get_or-drop, length-take, length-drop, take_at, take-append-drop, length-append}
use Rattle.std.proofs.lemmas.Option.{same_Some}
use Rattle.std.proofs.lemmas.Slice.{put_mid-paste}
use borrow.Rule.Slice.PartMut.{put_mid}
use Rattle.word_mem.specs.Memory.{Mem, word_at, reaches}
use Rattle.mem_bytes.specs.Bytes.{bytes_of, place, places, bytes_at, loaded, AreReached}
use Rattle.word_mem.specs.Views.{byte_at, byte_of}
use Rattle.mem_bytes.proofs.WordBytes.{byte_of_word}
use Rattle.mem_bytes.proofs.Stores.{place_next}
use Rattle.mem_bytes.proofs.Reach.{length-places, get_or-places, reached_all, reached_is}

pub length-bytes_at : (m : Mem) (pages : List ℕ) (k n : ℕ) → length (bytes_at m pages k n) ≡ n
unfolding bytes_at
length-bytes_at m pages k n = length-map (places pages k n) (byte_at m) ∙ length-places pages k n

pub get_or-bytes_at : (m : Mem) (pages : List ℕ) (k n i d : ℕ) → i < n → get_or (bytes_at m pages k n) i d ≡ byte_at m (place pages (k + i))
unfolding bytes_at
get_or-bytes_at m pages k n i d inside =
    get_or-map (byte_at m) (places pages k n) i 0 d (omega (arith, length-places pages k n)) ∙ ap (byte_at m) (get_or-places pages k n i 0 inside)

-- the bytes are these, one for one
pub bytes_at_is : (m : Mem) (pages : List ℕ) (k : ℕ) (bs : List ℕ) (n : ℕ) → length bs ≡ n → ((i : ℕ) → i < n → byte_at m (place pages (k + i)) ≡ get_or bs i 0) → bytes_at m pages k n ≡ bs
bytes_at_is m pages k bs n long each =
    ext_get_or 0 (bytes_at m pages k n) bs (length-bytes_at m pages k n ∙ sym long)
    (λ i inside. let here : i < n = omega (arith, length-bytes_at m pages k n) in get_or-bytes_at m pages k n i 0 here ∙ each i here)

get_or-left : (xs ys : List ℕ) (i : ℕ) → i < length xs → get_or (xs ++ ys) i 0 ≡ get_or xs i 0
get_or-left [] ys i inside = absurd (omega arith)
get_or-left (x ∷ xs) ys zero inside = refl
get_or-left (x ∷ xs) ys (suc i) inside = get_or-left xs ys i (omega arith)

get_or-right : (xs ys : List ℕ) (i : ℕ) → length xs ≤ i → get_or (xs ++ ys) i 0 ≡ get_or ys (i - length xs) 0
get_or-right [] ys i past = let e : i - 0 ≡ i = omega arith in rw e refl
get_or-right (x ∷ xs) ys zero past = absurd (omega arith)
get_or-right (x ∷ xs) ys (suc i) past = let e : suc i - suc (length xs) ≡ i - length xs = omega arith in rw e (get_or-right xs ys i (omega arith))

-- one part of the buffer after another
pub bytes_at-add : (m : Mem) (pages : List ℕ) (k a b : ℕ) → bytes_at m pages k (a + b) ≡ bytes_at m pages k a ++ bytes_at m pages (k + a) b
bytes_at-add m pages k a b =
    let first = bytes_at m pages k a in
    let second = bytes_at m pages (k + a) b in
    bytes_at_is m pages k (first ++ second) (a + b) (length-append first second ∙ omega (arith, length-bytes_at m pages k a, length-bytes_at m pages (k + a) b))
    (λ i inside.
    ⊎_elim (λ (low : i < a). sym (get_or-left first second i (omega (arith, length-bytes_at m pages k a)) ∙ get_or-bytes_at m pages k a i 0 low))
    (λ (high : a ≤ i).
    let here : k + a + (i - length first) ≡ k + i = omega (arith, length-bytes_at m pages k a) in
    sym (get_or-right first second i (omega (arith, length-bytes_at m pages k a)) ∙ get_or-bytes_at m pages (k + a) b (i - length first) 0 (omega (arith, length-bytes_at m pages k a)) ∙ ap (λ j. byte_at m (place pages j)) here)) (cases_lt i a))

pub bytes_at_none : (m : Mem) (pages : List ℕ) (k : ℕ) → bytes_at m pages k 0 ≡ []
bytes_at_none m pages k = bytes_at_is m pages k [] 0 refl (λ i inside. absurd (omega arith))

-- bytes of one word
pub bytes_at_word : (m : Mem) (pages : List ℕ) (k at n : ℕ) → at ≡ place pages k → at % 4 + n ≤ 4 → take n (drop (at % 4) (bytes_of (word_at m at))) ≡ bytes_at m pages k n
bytes_at_word m pages k at n here one_word =
    let w = bytes_of (word_at m at) in
    let long : length (take n (drop (at % 4) w)) ≡ n = omega (arith, length-take n (drop (at % 4) w), length-drop (at % 4) w) in
    sym (bytes_at_is m pages k (take n (drop (at % 4) w)) n long
    (λ i inside.
    let next : place pages (k + i) ≡ at + i = place_next pages k i (omega arith) ∙ ap (λ a. a + i) (sym here) in
    let word : (at + i) / 4 ≡ at / 4 = omega arith in
    let byte : (at + i) % 4 ≡ at % 4 + i = omega arith in
    ap (byte_at m) next ∙ ap (λ q. byte_of (get_or m.words q 0) ((at + i) % 4)) word ∙ ap (byte_of (word_at m at)) byte
    ∙ sym (get_or-take n (drop (at % 4) w) i 0 inside ∙ get_or-drop (at % 4) w i 0 ∙ byte_of_word (word_at m at) (at % 4 + i) (omega arith))))

some_none : (x : ℕ) → Some x ≡ None → ⊥
some_none x is = cc

-- what was found is what is there
pub found_is : (b : Bool) (x y : ℕ) → Some x ≡ (if b then Some y else None) → x ≡ y
found_is true x y is = same_Some x y is
found_is false x y is = absurd (some_none x is)

-- what has been read so far, and what comes after it
pub read_none : (m : Mem) (pages : List ℕ) (k : ℕ) (old : List ℕ) → old ≡ bytes_at m pages k 0 ++ drop 0 old
read_none m pages k old = rw (bytes_at_none m pages k) refl

pub read_more : (m : Mem) (pages : List ℕ) (k : ℕ) (old now : List ℕ) (d n : ℕ) → d + n ≤ length old → now ≡ bytes_at m pages k d ++ drop d old → take d now ++ (bytes_at m pages (k + d) n ++ drop n (drop d now)) ≡ bytes_at m pages k (d + n) ++ drop (d + n) old
read_more m pages k old now d n within is =
    let first = bytes_at m pages k d in
    let front : take d now ≡ first = ap (take d) is ∙ take_at first (drop d old) d (length-bytes_at m pages k d) in
    let rest : drop d now ≡ drop d old = ap (drop d) is ∙ drop_at first (drop d old) d (length-bytes_at m pages k d) in
    let after : drop n (drop d now) ≡ drop (d + n) old = ap (drop n) rest ∙ drop-drop n d old in
    ap (λ xs. xs ++ (bytes_at m pages (k + d) n ++ drop n (drop d now))) front
    ∙ ap (λ xs. first ++ (bytes_at m pages (k + d) n ++ xs)) after
    ∙ sym (ap (λ xs. xs ++ drop (d + n) old) (bytes_at-add m pages k d n) ∙ append_assoc first (bytes_at m pages (k + d) n) (drop (d + n) old))

-- the rest of a list written anew
put_rest : (xs ys : List ℕ) (d : ℕ) → d ≤ length xs → length ys ≡ length xs - d → put_mid d (length xs - d) xs ys ≡ take d xs ++ ys
put_rest xs ys d within long =
    let all : take (length xs - d) ys ≡ ys = take_all (length xs - d) ys (omega arith) in
    let none : drop (d + (length xs - d)) xs ≡ [] = drop_all (d + (length xs - d)) xs (omega arith) in
    put_mid-paste d (length xs - d) xs ys ys (length xs - d) refl refl (sym long)
    ∙ rw (all, none) (append-nil (take d xs ++ ys))

pub read_on : (m now_m : Mem) (pages : List ℕ) (k : ℕ) (old now part : List ℕ) (d n : ℕ) → now_m ≡ m → d + n ≤ length old → length now ≡ length old → now ≡ bytes_at m pages k d ++ drop d old → part ≡ bytes_at now_m pages (k + d) n ++ drop n (take (length now - d) (drop d now)) → put_mid d (length now - d) now part ≡ bytes_at m pages k (d + n) ++ drop (d + n) old
read_on m now_m pages k old now part d n same within long is next =
    let there = bytes_at m pages (k + d) n in
    let rest = drop n (drop d now) in
    let new : part ≡ there ++ rest =
    next ∙ ap (λ w. bytes_at w pages (k + d) n ++ drop n (take (length now - d) (drop d now))) same ∙ ap (λ xs. there ++ drop n xs) (take_rest now d)
    in
    let size : length part ≡ length now - d =
    ap length new ∙ length-append there rest ∙ omega (arith, length-bytes_at m pages (k + d) n, length-drop n (drop d now), length-drop d now)
    in
    put_rest now part d (omega arith) size ∙ ap (λ xs. take d now ++ xs) new ∙ read_more m pages k old now d n within is

-- nothing more was read
pub read_off : (now part : List ℕ) (d : ℕ) → d ≤ length now → part ≡ take (length now - d) (drop d now) → put_mid d (length now - d) now part ≡ now
read_off now part d within next =
    let new : part ≡ drop d now = next ∙ take_rest now d in
    put_rest now part d within (ap length new ∙ length-drop d now) ∙ ap (λ xs. take d now ++ xs) new ∙ take-append-drop d now

pub loaded_is : (m : Mem) (pages : List ℕ) (k : ℕ) (old : List ℕ) (d : ℕ) → d < length old → AreReached m pages k d → reaches m (place pages (k + d)) ≡ false → loaded m pages k old ≡ bytes_at m pages k d ++ drop d old
unfolding loaded
loaded_is m pages k old d inside each stop = rw (reached_is m pages k (length old) d inside each stop) refl

-- where the controller may touch every byte, all of them are loaded
pub loaded_all : (m : Mem) (pages : List ℕ) (k : ℕ) (old : List ℕ) → AreReached m pages k (length old) → loaded m pages k old ≡ bytes_at m pages k (length old)
unfolding loaded
loaded_all m pages k old each =
    rw (reached_all m pages k (length old) each, drop_all (length old) old (omega arith)) (append-nil (bytes_at m pages k (length old)))

pub read_done : (m : Mem) (pages : List ℕ) (k : ℕ) (old : List ℕ) (d : ℕ) → length old ≤ d → d ≤ length old → bytes_at m pages k d ++ drop d old ≡ bytes_at m pages k (length old)
read_done m pages k old d past within =
    let long : d ≡ length old = omega arith in
    rw (drop_all d old past) (append-nil (bytes_at m pages k d) ∙ ap (bytes_at m pages k) long)
