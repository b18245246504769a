-- Where one that is alone with its name stands in a list: what is before it and what is behind it.
use Rattle.std.proofs.Common.{◌≡◌, ℕ, suc, ◌+◌, ◌≤◌, Bool, true, false, List, [], ◌∷◌, ◌++◌, length, take, drop, cond, inl, inr, refl, ap, sym, ◌∙◌, subst, arith}
use Rattle.std.specs.Prelude.{◌||◌, filter, not, count_by}
use Rattle.std.specs.List.{AllByRecursion, list_any, position_or_len, before_first, after_first}
use Rattle.std.proofs.lemmas.Bool.{false≢true, or_cases}
use Rattle.std.proofs.lemmas.List.Sums.{sum_by-append, sum_by-cons}
use Rattle.std.proofs.lemmas.List.Filters.{sum_by-filter_both}
use Rattle.std.proofs.Math.Seq.{take-append_seam, drop-append-add}

-- counts
none_here : (n m : ℕ) → n + m ≤ 0 → (n ≡ 0) × (m ≡ 0)
none_here n m h = (omega (arith, h), omega (arith, h))

abbrev pub one_if : Bool → ℕ
one_if b = cond b 1 0

pub count_first : {X : Type 0} (p : X → Bool) (x : X) (xs : List X) → count_by p (x ∷ xs) ≡ one_if (p x) + count_by p xs
count_first p x xs = sum_by-cons (λ y. cond (p y) 1 0) x xs

no_pass : (b : Bool) → one_if b ≡ 0 → b ≡ false
no_pass true h = absurd (omega (arith, h))
no_pass false h = refl

pub none_counted : {X : Type 0} (p : X → Bool) (xs : List X) → count_by p xs ≤ 0 → AllByRecursion (λ x. p x ≡ false) xs
none_counted p [] h = tt
none_counted p (x ∷ xs) h =
    let e = count_first p x xs in
    let k = none_here (one_if (p x)) (count_by p xs) (omega (arith, e, h)) in
    let z = k.1 in
    let l : count_by p xs ≤ 0 = omega (arith, z) in
    (no_pass (p x) k.0, none_counted p xs l)

pub none_any : {X : Type 0} (p : X → Bool) (xs : List X) → AllByRecursion (λ x. p x ≡ false) xs → count_by p xs ≡ 0
none_any p [] h = refl
none_any p (x ∷ xs) h = let c = count_first p x xs in let a = none_any p xs h.1 in let e : one_if (p x) ≡ 0 = ap one_if h.0 in omega (arith, a, e, c)

pub none_listed : {X : Type 0} (p : X → Bool) (xs : List X) → AllByRecursion (λ x. p x ≡ false) xs → list_any p xs ≡ false
none_listed p [] h = refl
none_listed p (x ∷ xs) h = ap (λ b. b || list_any p xs) h.0 ∙ none_listed p xs h.1

pub count_two : {X : Type 0} (p : X → Bool) (xs ys : List X) → count_by p (xs ++ ys) ≡ count_by p xs + count_by p ys
count_two p xs ys = sum_by-append (λ x. cond (p x) 1 0) xs ys

pub count_parts : {X : Type 0} (p t : X → Bool) (xs : List X) → count_by p (filter t xs) + count_by p (filter (λ x. not (t x)) xs) ≡ count_by p xs
count_parts p t xs = sum_by-filter_both t (λ x. not (t x)) (λ x. refl) (λ x. cond (p x) 1 0) xs

pub count_fewer : {X : Type 0} (p t : X → Bool) (xs : List X) → count_by p (filter t xs) ≤ count_by p xs
count_fewer p t xs = let e = count_parts p t xs in omega (arith, e)

-- the place of one
pub record IsAt {X : Type 0} (named : X → Bool) (q : X) (xs : List X) : Type 0 where
  pub front : List X
  pub back : List X
  pub is : xs ≡ front ++ q ∷ back
  pub before : AllByRecursion (λ x. named x ≡ false) front
  pub behind : AllByRecursion (λ x. named x ≡ false) back

one_counts : {X : Type 0} (named : X → Bool) (q : X) (front back : List X) → named q ≡ true → 1 ≤ count_by named (front ++ q ∷ back)
one_counts named q front back h =
    let e = count_two named front (q ∷ back) in
    let f = count_first named q back in
    let k : one_if (named q) ≡ 1 = ap one_if h in
    omega (arith, e, f, k)

later : {X : Type 0} (named : X → Bool) (q x : X) (xs : List X) (b : Bool) → named x ≡ b → named q ≡ true → one_if b + count_by named xs ≤ 1 → IsAt named q xs → IsAt named q (x ∷ xs)
later named q x xs true e k h at =
    let z : 1 ≤ count_by named xs = subst (λ ys. 1 ≤ count_by named ys) (sym at.is) (one_counts named q at.front at.back k) in
    absurd (omega (arith, h, z))
later named q x xs false e k h at = record { front = x ∷ at.front; back = at.back; is = ap (λ ys. x ∷ ys) at.is; before = (e, at.before); behind = at.behind }

here : {X : Type 0} (named : X → Bool) (q x : X) (xs : List X) → x ≡ q → named q ≡ true → one_if (named x) + count_by named xs ≤ 1 → IsAt named q (x ∷ xs)
here named q x xs e k h =
    let c : one_if (named x) ≡ 1 = ap (λ y. one_if (named y)) e ∙ ap one_if k in
    let z : count_by named xs ≤ 0 = omega (arith, c, h) in
    record { front = []; back = xs; is = ap (λ y. y ∷ xs) e; before = tt; behind = none_counted named xs z }

pub is_at : {X : Type 0} (same named : X → Bool) (q : X) → ((x : X) → same x ≡ true → x ≡ q) → named q ≡ true → (xs : List X) → list_any same xs ≡ true → count_by named xs ≤ 1 → IsAt named q xs
is_at same named q one k [] a h = absurd (false≢true a)
is_at same named q one k (x ∷ xs) a h = elim (or_cases (same x) (list_any same xs) a) [
  | inl s ↦ here named q x xs (one x s) k (let e = count_first named x xs in omega (arith, e, h))
  | inr t ↦ let e = count_first named x xs in let l : count_by named xs ≤ 1 = omega (arith, h, e) in later named q x xs (named x) refl k (omega (arith, h, e)) (is_at same named q one k xs t l)
]

one_plus : (n : ℕ) → 1 + n ≡ suc n
one_plus n = omega arith

next_place : {X : Type 0} (named : X → Bool) (x : X) (xs : List X) (n : ℕ) → named x ≡ false → position_or_len named xs ≡ n → position_or_len named (x ∷ xs) ≡ suc n
next_place named x xs n h k = ap (λ b. cond (not b) (1 + position_or_len named xs) 0) h ∙ ap (λ m. 1 + m) k ∙ one_plus n

place_is : {X : Type 0} (named : X → Bool) (q : X) (front back : List X) → AllByRecursion (λ x. named x ≡ false) front → named q ≡ true → position_or_len named (front ++ q ∷ back) ≡ length front
place_is named q [] back h k = ap (λ b. cond (not b) (1 + position_or_len named back) 0) k
place_is named q (x ∷ front) back h k = next_place named x (front ++ q ∷ back) (length front) h.0 (place_is named q front back h.1 k)

pub front_is : {X : Type 0} (named : X → Bool) (q : X) (front back : List X) → AllByRecursion (λ x. named x ≡ false) front → named q ≡ true → before_first named (front ++ q ∷ back) ≡ front
front_is named q front back h k = ap (λ n. take n (front ++ q ∷ back)) (place_is named q front back h k) ∙ take-append_seam front (q ∷ back)

pub back_is : {X : Type 0} (named : X → Bool) (q : X) (front back : List X) → AllByRecursion (λ x. named x ≡ false) front → named q ≡ true → after_first named (front ++ q ∷ back) ≡ back
back_is named q front back h k = ap (λ n. drop (n + 1) (front ++ q ∷ back)) (place_is named q front back h k) ∙ drop-append-add front (q ∷ back) 1

-- what is behind one, from the place of its name on in the same list
pub back_of : {X : Type 0} (named : X → Bool) (q : X) (xs ys : List X) → ys ≡ xs → (at : IsAt named q xs) → named q ≡ true → drop (position_or_len named ys + 1) xs ≡ at.back
back_of named q xs ys e at k =
    ap (λ zs. drop (position_or_len named zs + 1) xs) e ∙ ap (λ zs. after_first named zs) at.is ∙ back_is named q at.front at.back at.before k
