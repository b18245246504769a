-- Lists of bytes in two parts, and bytes that move to the front.
use Rattle.std.proofs.Common.{◌≡◌, ◌≤◌, ◌<◌, ◌+◌, ◌-◌, ℕ, zero, suc, List, [], ◌∷◌, ◌++◌, length, take, drop, min, get_or, refl, ap, sym, ◌∙◌, arith, length-append, length-drop, append_assoc}
use Rattle.std.proofs.lemmas.List.{take-append-le, drop-append-le, drop_all, drop_min, drop-drop, take_rest, length-take-le}
use Rattle.std.proofs.lemmas.Grind.{common_steps}
use native.Mathlib.Numerals.{unary_clauses}
use Rattle.std.specs.List.{copy_within}
use Rattle.bulk_only.specs.Contents.{overwritten}

-- the first n bytes of two lists, one behind the other
pub front_of_both : (xs ys : List ℕ) (n : ℕ) → take n (xs ++ ys) ≡ take n xs ++ take (n - length xs) ys
front_of_both [] ys zero = refl
front_of_both [] ys (suc n) = simp unary_clauses refl
front_of_both (x ∷ xs) ys zero = let z : 0 - length (x ∷ xs) ≡ 0 = omega arith in rw z refl
front_of_both (x ∷ xs) ys (suc n) = simp unary_clauses (ap (λ t. x ∷ t) (front_of_both xs ys n))

-- what stands behind the first n bytes of them
pub behind_both : (xs ys : List ℕ) (n : ℕ) → drop n (xs ++ ys) ≡ drop n xs ++ drop (n - length xs) ys
behind_both [] ys zero = refl
behind_both [] ys (suc n) = simp unary_clauses refl
behind_both (x ∷ xs) ys zero = let z : 0 - length (x ∷ xs) ≡ 0 = omega arith in rw z refl
behind_both (x ∷ xs) ys (suc n) = simp unary_clauses (behind_both xs ys n)

pub take_whole : (n : ℕ) (xs : List ℕ) → length xs ≤ n → take n xs ≡ xs
take_whole zero [] h = refl
take_whole zero (x ∷ xs) h = absurd (omega arith)
take_whole (suc n) [] h = refl
take_whole (suc n) (x ∷ xs) h = ap (λ t. x ∷ t) (take_whole n xs (omega arith))

pub take_at_most : (n : ℕ) (xs : List ℕ) → take (min (length xs) n) xs ≡ take n xs
take_at_most n [] = grind (arith, common_steps)
take_at_most zero (x ∷ xs) = let z : min (length (x ∷ xs)) 0 ≡ 0 = omega arith in rw z refl
take_at_most (suc n) (x ∷ xs) =
    let z : min (length (x ∷ xs)) (suc n) ≡ suc (min (length xs) n) = omega arith in rw z (ap (λ t. x ∷ t) (take_at_most n xs))

-- the bytes from place a to e of two lists, one behind the other
pub both_parts : (xs ys : List ℕ) (a e : ℕ) → a ≤ e
    → take (min e (length xs) - min a (length xs)) (drop (min a (length xs)) xs) ++ take ((e - min e (length xs)) - (a - min a (length xs))) (drop (a - min a (length xs)) ys)
    ≡ take (e - a) (drop a (xs ++ ys))
both_parts xs ys a e h =
    let n : min e (length xs) - min a (length xs) ≡ min (length (drop a xs)) (e - a) = rw (length-drop a xs) (omega arith) in
    let front : take (min e (length xs) - min a (length xs)) (drop (min a (length xs)) xs) ≡ take (e - a) (drop a xs)
    = rw (drop_min a xs) (rw n (take_at_most (e - a) (drop a xs))) in
    let m : (e - min e (length xs)) - (a - min a (length xs)) ≡ (e - a) - length (drop a xs) = rw (length-drop a xs) (omega arith) in
    let k : a - min a (length xs) ≡ a - length xs = omega arith in
    rw front (rw m (rw k (sym (front_of_both (drop a xs) (drop (a - length xs) ys) (e - a)) ∙ ap (λ t. take (e - a) t) (sym (behind_both xs ys a)))))

pub both_lengths : (xs ys : List ℕ) (a e : ℕ) → a ≤ e → e ≤ length (xs ++ ys)
    → (min e (length xs) - min a (length xs)) + ((e - min e (length xs)) - (a - min a (length xs))) ≡ e - a
both_lengths xs ys a e h k = omega arith

pub same_byte_at : (xs : List ℕ) (n i : ℕ) → i < n → get_or (take n xs) i 0 ≡ get_or xs i 0
same_byte_at [] zero i h = refl
same_byte_at [] (suc n) i h = refl
same_byte_at (x ∷ xs) zero i h = absurd (omega arith)
same_byte_at (x ∷ xs) (suc n) zero h = refl
same_byte_at (x ∷ xs) (suc n) (suc i) h = same_byte_at xs n i (omega arith)

pub same_byte : (xs : List ℕ) (i : ℕ) → i < 31 → get_or (take 31 xs) i 0 ≡ get_or xs i 0
same_byte xs i h = same_byte_at xs 31 i h

pub take_exact : (xs ys : List ℕ) (n : ℕ) → length xs ≡ n → take n (xs ++ ys) ≡ xs
take_exact xs ys n h = take-append-le n xs ys (omega arith) ∙ take_whole n xs (omega arith)

pub drop_exact : (xs ys : List ℕ) (n m : ℕ) → length xs ≡ n → drop (n + m) (xs ++ ys) ≡ drop m ys
drop_exact xs ys n m h = behind_both xs ys (n + m) ∙ ap (λ t. t ++ drop (n + m - length xs) ys) (drop_all (n + m) xs (omega arith))
    ∙ ap (λ k. drop k ys) (let e : n + m - length xs ≡ m = omega arith in e)

pub head_is : (front back bs : List ℕ) (n : ℕ) → front ++ back ≡ take n bs → n ≡ min (length bs) 31 → ([] ++ front) ++ back ≡ take 31 bs
head_is front back bs n h k = h ∙ ap (λ m. take m bs) k ∙ take_at_most 31 bs

-- bytes moved to the front
pub moved_to_front : (xs : List ℕ) (n : ℕ) → n ≤ length xs → take (length xs - n) (copy_within xs n (length xs) 0) ≡ drop n xs
moved_to_front xs n h =
    let all : take (length xs - n) (drop n xs) ≡ drop n xs = take_rest xs n in
    ap (λ t. take (length xs - n) (t ++ drop (0 + (length xs - n)) xs)) all
    ∙ take-append-le (length xs - n) (drop n xs) (drop (0 + (length xs - n)) xs) (rw (length-drop n xs) (omega arith)) ∙ all

-- two parts overwritten, one behind the other
pub overwritten_twice : (at : ℕ) (xs ys old : List ℕ) → at + (length xs + length ys) ≤ length old
    → overwritten (at + length xs) ys (overwritten at xs old) ≡ overwritten at (xs ++ ys) old
overwritten_twice at xs ys old h =
    let front = take at old in
    let behind = drop (at + length xs) old in
    let a : length front ≡ at = length-take-le at old (omega arith) in
    let l : length (front ++ xs) ≡ at + length xs = length-append front xs ∙ ap (λ n. n + length xs) a in
    let j : front ++ (xs ++ behind) ≡ (front ++ xs) ++ behind = sym (append_assoc front xs behind) in
    let t : take (at + length xs) (front ++ (xs ++ behind)) ≡ front ++ xs = ap (λ u. take (at + length xs) u) j ∙ take_exact (front ++ xs) behind (at + length xs) l in
    let e : at + length xs + length ys ≡ at + length (xs ++ ys) = rw (length-append xs ys) (omega arith) in
    let d : drop (at + length xs + length ys) (front ++ (xs ++ behind)) ≡ drop (at + length (xs ++ ys)) old
    = ap (λ u. drop (at + length xs + length ys) u) j ∙ drop_exact (front ++ xs) behind (at + length xs) (length ys) l
    ∙ drop-drop (length ys) (at + length xs) old ∙ ap (λ n. drop n old) e in
    ap (λ u. u ++ (ys ++ drop (at + length xs + length ys) (front ++ (xs ++ behind)))) t ∙ ap (λ u. (front ++ xs) ++ (ys ++ u)) d
    ∙ append_assoc front xs (ys ++ drop (at + length (xs ++ ys)) old) ∙ ap (λ u. front ++ u) (sym (append_assoc xs ys (drop (at + length (xs ++ ys)) old)))

-- what stays from place `at` on
pub behind_the_first : (xs ys : List ℕ) (at : ℕ) → at ≤ length xs + length ys → length xs < at → drop at (xs ++ ys) ≡ drop (at - length xs) ys
behind_the_first xs ys at h k = rw (behind_both xs ys at) (rw (drop_all at xs (omega arith)) refl)

pub before_the_last : (xs ys : List ℕ) (at : ℕ) → at ≤ length xs → drop at (xs ++ ys) ≡ drop at xs ++ ys
before_the_last xs ys at h = drop-append-le at xs ys h
