-- A list by a number that doesn't fall: where it is parted, and the last of those of no lower number.
use Rattle.std.proofs.Common.{◌≡◌, ℕ, zero, suc, ◌+◌, ◌-◌, ◌<◌, ◌≤◌, Bool, true, false, List, [], ◌∷◌, ◌++◌, length, take, drop, get_or, cond, leb, ltb, nat_eq, Some, None, refl, ap, sym, ◌∙◌, subst, arith}
use Rattle.std.specs.Prelude.{Option, filter, not, ◌&&◌}
use Rattle.std.specs.List.{AllWithin, AllByRecursion, All, last_or}
use Rattle.std.specs.List.Sorted.{IsNonDecreasingBy, IsPartitionPoint}
use Rattle.drv_members.specs.Members.{IsRising}
use Rattle.std.proofs.lemmas.Bool.{le-leb, lt-leb, leb-false, ltb-false, false≢true}
use Rattle.std.proofs.lemmas.List.{append-nil, take-append-drop, length-drop, length-take-le}
use Rattle.std.proofs.lemmas.List.Elements.{filter-append, recursion_from_All, All-from_recursion}
use Rattle.std.proofs.lemmas.Bool.Decides.{nat_tests}
use Rattle.std.proofs.Math.Seq.{take-suc, get_or-take, get_or-drop}

-- those that pass, where all do, and where none does
true≢false : true ≡ false → ⊥
true≢false e = false≢true (sym e)

stays : {X : Type 0} (x : X) (ys zs : List X) (b : Bool) → b ≡ true → ys ≡ zs → cond b (x ∷ ys) ys ≡ x ∷ zs
stays x ys zs true e h = ap (λ ws. x ∷ ws) h
stays x ys zs false e h = absurd (true≢false (sym e))

pub all_pass : {X : Type 0} (p : X → Bool) (xs : List X) → AllByRecursion (λ x. p x ≡ true) xs → filter p xs ≡ xs
all_pass p [] h = refl
all_pass p (x ∷ xs) h = stays x (filter p xs) xs (p x) h.0 (all_pass p xs h.1)

goes : {X : Type 0} (x : X) (ys zs : List X) (b : Bool) → b ≡ false → ys ≡ zs → cond b (x ∷ ys) ys ≡ zs
goes x ys zs true e h = absurd (true≢false e)
goes x ys zs false e h = h

pub none_pass : {X : Type 0} (p : X → Bool) (xs : List X) → AllByRecursion (λ x. p x ≡ false) xs → filter p xs ≡ []
none_pass p [] h = refl
none_pass p (x ∷ xs) h = goes x (filter p xs) [] (p x) h.0 (none_pass p xs h.1)

pub same_pass : {X : Type 0} (p q : X → Bool) (xs : List X) → AllByRecursion (λ x. p x ≡ q x) xs → filter p xs ≡ filter q xs
same_pass p q [] h = refl
same_pass p q (x ∷ xs) h = ap (λ b. cond b (x ∷ filter p xs) (filter p xs)) h.0 ∙ ap (λ ys. cond (q x) (x ∷ ys) ys) (same_pass p q xs h.1)

-- two tests one after the other
first_or_not : {X : Type 0} (p : X → Bool) (x : X) (ys zs : List X) (b : Bool) → filter p ys ≡ zs → cond b (x ∷ filter p ys) (filter p ys) ≡ cond (b && true) (x ∷ zs) zs
first_or_not p x ys zs true h = ap (λ ws. x ∷ ws) h
first_or_not p x ys zs false h = h

second_no : {X : Type 0} (p : X → Bool) (x : X) (ys zs : List X) (b : Bool) → ys ≡ zs → ys ≡ cond (b && false) (x ∷ zs) zs
second_no p x ys zs true h = h
second_no p x ys zs false h = h

both_or_one : {X : Type 0} (p q : X → Bool) (x : X) (xs : List X) (b : Bool) → q x ≡ b → filter p (filter q xs) ≡ filter (λ y. p y && q y) xs → filter p (cond b (x ∷ filter q xs) (filter q xs)) ≡ cond (p x && b) (x ∷ filter (λ y. p y && q y) xs) (filter (λ y. p y && q y) xs)
both_or_one p q x xs true e h = first_or_not p x (filter q xs) (filter (λ y. p y && q y) xs) (p x) h
both_or_one p q x xs false e h = second_no p x (filter p (filter q xs)) (filter (λ y. p y && q y) xs) (p x) h

pub filter_twice : {X : Type 0} (p q : X → Bool) (xs : List X) → filter p (filter q xs) ≡ filter (λ x. p x && q x) xs
filter_twice p q [] = refl
filter_twice p q (x ∷ xs) = both_or_one p q x xs (q x) refl (filter_twice p q xs)

-- where the list is parted
not_true : (b : Bool) → b ≡ true → not b ≡ false
not_true b e = ap not e

not_false : (b : Bool) → b ≡ false → not b ≡ true
not_false b e = ap not e

front_passes : {X : Type 0} (p : X → Bool) (v : Bool) (xs : List X) (k : ℕ) → k ≤ length xs → AllWithin (λ y. p y ≡ v) xs 0 k → All (λ y. p y ≡ v) (take k xs)
front_passes p v xs k l h i d j =
    let e : length (take k xs) ≡ k = length-take-le k xs l in
    let below : i < k = omega (arith, j, e) in
    let zero_le : 0 ≤ i = omega arith in
    subst (λ y. p y ≡ v) (sym (get_or-take k xs i d below)) (h i d zero_le below)

back_passes : {X : Type 0} (p : X → Bool) (v : Bool) (xs : List X) (k : ℕ) → AllWithin (λ y. p y ≡ v) xs k (length xs) → All (λ y. p y ≡ v) (drop k xs)
back_passes p v xs k h i d j =
    let e : length (drop k xs) ≡ length xs - k = length-drop k xs in
    let low : k ≤ k + i = omega arith in
    let high : k + i < length xs = omega (arith, j, e) in
    subst (λ y. p y ≡ v) (sym (get_or-drop k xs i d)) (h (k + i) d low high)

flipped : {X : Type 0} (p : X → Bool) (v w : Bool) (xs : List X) → ((b : Bool) → b ≡ v → not b ≡ w) → AllByRecursion (λ y. p y ≡ v) xs → AllByRecursion (λ y. not (p y) ≡ w) xs
flipped p v w [] f h = tt
flipped p v w (x ∷ xs) f h = (f (p x) h.0, flipped p v w xs f h.1)

pub parted_front : {X : Type 0} (p : X → Bool) (xs : List X) (k : ℕ) → k ≤ length xs → IsPartitionPoint (λ y. p y ≡ true) (λ y. p y ≡ false) xs k → take k xs ≡ filter p xs
parted_front p xs k l h =
    let a : filter p (take k xs) ≡ take k xs = all_pass p (take k xs) (recursion_from_All (λ y. p y ≡ true) (take k xs) (front_passes p true xs k l h.0)) in
    let b : filter p (drop k xs) ≡ [] = none_pass p (drop k xs) (recursion_from_All (λ y. p y ≡ false) (drop k xs) (back_passes p false xs k h.1)) in
    sym (ap (λ ys. filter p ys) (sym (take-append-drop k xs)) ∙ filter-append p (take k xs) (drop k xs) ∙ ap (λ ys. filter p (take k xs) ++ ys) b ∙ append-nil (filter p (take k xs)) ∙ a)

pub parted_back : {X : Type 0} (p : X → Bool) (xs : List X) (k : ℕ) → k ≤ length xs → IsPartitionPoint (λ y. p y ≡ true) (λ y. p y ≡ false) xs k → drop k xs ≡ filter (λ x. not (p x)) xs
parted_back p xs k l h =
    let a : filter (λ x. not (p x)) (take k xs) ≡ [] = none_pass (λ x. not (p x)) (take k xs) (flipped p true false (take k xs) not_true (recursion_from_All (λ y. p y ≡ true) (take k xs) (front_passes p true xs k l h.0))) in
    let b : filter (λ x. not (p x)) (drop k xs) ≡ drop k xs = all_pass (λ x. not (p x)) (drop k xs) (flipped p false true (drop k xs) not_false (recursion_from_All (λ y. p y ≡ false) (drop k xs) (back_passes p false xs k h.1))) in
    sym (ap (λ ys. filter (λ x. not (p x)) ys) (sym (take-append-drop k xs)) ∙ filter-append (λ x. not (p x)) (take k xs) (drop k xs) ∙ ap (λ ys. ys ++ filter (λ x. not (p x)) (drop k xs)) a ∙ b)

-- a list that rises, by index
pub rises : {X : Type 0} (n : X → ℕ) (xs : List X) → IsRising n xs → IsNonDecreasingBy n xs
unfolding IsRising
rises n [] up i j d a b = absurd (omega (arith, b))
rises n (x ∷ xs) up zero zero d a b = omega arith
rises n (x ∷ xs) up zero (suc j) d a b = let k : j < length xs = omega (arith, b) in All-from_recursion (λ y. n x ≤ n y) xs up.0 j d k
rises n (x ∷ xs) up (suc i) zero d a b = absurd (omega (arith, a))
rises n (x ∷ xs) up (suc i) (suc j) d a b = let k : j < length xs = omega (arith, b) in let h : i ≤ j = omega (arith, a) in rises n xs up.1 i j d h k

-- the last of those of no lower number
last_snoc : {X : Type 0} (o : Option X) (xs : List X) (x : X) → last_or o (xs ++ x ∷ []) ≡ Some x
last_snoc o [] x = refl
last_snoc o (y ∷ xs) x = last_snoc (Some y) xs x

one_more : {X : Type 0} (xs : List X) (k : ℕ) (d : X) → 0 < k → k ≤ length xs → take k xs ≡ take (k - 1) xs ++ get_or xs (k - 1) d ∷ []
one_more xs k d p l =
    let e : suc (k - 1) ≡ k = omega (arith, p) in
    let below : k - 1 < length xs = omega (arith, p, l) in
    ap (λ i. take i xs) (sym e) ∙ take-suc xs (k - 1) d below

pub last_is : {X : Type 0} (n : X → ℕ) (low : ℕ) (xs : List X) (k : ℕ) (d : X) → 0 < k → k ≤ length xs → low ≤ n (get_or xs (k - 1) d) → Some (get_or xs (k - 1) d) ≡ last_or None (filter (λ x. leb low (n x)) (take k xs))
last_is n low xs k d p l h =
    let x = get_or xs (k - 1) d in
    let t : leb low (n x) ≡ true = le-leb low (n x) h in
    sym (ap (λ ys. last_or None (filter (λ y. leb low (n y)) ys)) (one_more xs k d p l) ∙ ap (λ ys. last_or None ys) (filter-append (λ y. leb low (n y)) (take (k - 1) xs) (x ∷ []))
    ∙ ap (λ b. last_or None (filter (λ y. leb low (n y)) (take (k - 1) xs) ++ cond b (x ∷ []) [])) t ∙ last_snoc None (filter (λ y. leb low (n y)) (take (k - 1) xs)) x)

same_item : {X : Type 0} (xs : List X) (i : ℕ) (c d : X) → i < length xs → get_or xs i c ≡ get_or xs i d
same_item [] i c d h = absurd (omega (arith, h))
same_item (x ∷ xs) zero c d h = refl
same_item (x ∷ xs) (suc i) c d h = same_item xs i c d (omega (arith, h))

pub no_last : {X : Type 0} (n : X → ℕ) (low : ℕ) (xs : List X) (k : ℕ) (d : X) → IsRising n xs → 0 < k → k ≤ length xs → n (get_or xs (k - 1) d) < low → None ≡ last_or None (filter (λ x. leb low (n x)) (take k xs))
no_last n low xs k d up p l h =
    let e : length (take k xs) ≡ k = length-take-le k xs l in
    sym (ap (λ ys. last_or None ys) (none_pass (λ x. leb low (n x)) (take k xs) (recursion_from_All (λ x. leb low (n x) ≡ false) (take k xs)
    (λ i c j.
    let below : i < k = omega (arith, j, e) in
    let order : i ≤ k - 1 = omega (arith, below) in
    let last : k - 1 < length xs = omega (arith, p, l) in
    let a : n (get_or xs i d) ≤ n (get_or xs (k - 1) d) = rises n xs up i (k - 1) d order last in
    let s : get_or xs i c ≡ get_or xs i d = same_item xs i c d (omega (arith, below, l)) in
    let less : n (get_or xs i d) < low = omega (arith, a, h) in
    subst (λ y. leb low (n y) ≡ false) (sym (get_or-take k xs i c below ∙ s)) (lt-leb low (n (get_or xs i d)) less)))))

opened : (b : Bool) → not b ≡ true → b ≡ false
opened true h = absurd (false≢true h)
opened false h = refl

pub not_up : (a b : ℕ) → not (leb a b) ≡ true → b ≤ a
not_up a b h = let k = leb-false a b (opened (leb a b) h) in omega (arith, k)

pub not_below : (a b : ℕ) → not (ltb a b) ≡ true → b ≤ a
not_below a b h = ltb-false a b (opened (ltb a b) h)

-- no lower and below the next is the same number
one_number : (a b : ℕ) → (leb a b && ltb b (a + 1)) ≡ nat_eq b a
one_number a b = grind (arith, nat_tests)

pub exactly : {X : Type 0} (n : X → ℕ) (a : ℕ) (xs : List X) → filter (λ x. leb a (n x) && ltb (n x) (a + 1)) xs ≡ filter (λ x. nat_eq (n x) a) xs
exactly n a [] = refl
exactly n a (x ∷ xs) = ap (λ b. cond b (x ∷ filter (λ y. leb a (n y) && ltb (n y) (a + 1)) xs) (filter (λ y. leb a (n y) && ltb (n y) (a + 1)) xs)) (one_number a (n x)) ∙ ap (λ ys. cond (nat_eq (n x) a) (x ∷ ys) ys) (exactly n a xs)

-- those of no lower number
each_from : {X : Type 0} (n : X → ℕ) (low : ℕ) (xs : List X) → low ≡ 0 → AllByRecursion (λ x. leb low (n x) ≡ true) xs
each_from n low [] e = tt
each_from n low (x ∷ xs) e = (le-leb low (n x) (omega (arith, e)), each_from n low xs e)

pub from_first : {X : Type 0} (n : X → ℕ) (low : ℕ) (xs : List X) → low ≡ 0 → xs ≡ filter (λ x. leb low (n x)) xs
from_first n low xs e = sym (all_pass (λ x. leb low (n x)) xs (each_from n low xs e))

not_lower : (low a : ℕ) → 0 < low → not (leb a (low - 1)) ≡ leb low a
not_lower low a h = grind (arith, nat_tests, h)

pub above_last : {X : Type 0} (n : X → ℕ) (low : ℕ) (xs : List X) → 0 < low → filter (λ x. not (leb (n x) (low - 1))) xs ≡ filter (λ x. leb low (n x)) xs
above_last n low [] h = refl
above_last n low (x ∷ xs) h =
    ap (λ b. cond b (x ∷ filter (λ y. not (leb (n y) (low - 1))) xs) (filter (λ y. not (leb (n y) (low - 1))) xs)) (not_lower low (n x) h) ∙ ap (λ ys. cond (leb low (n x)) (x ∷ ys) ys) (above_last n low xs h)
