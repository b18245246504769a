-- Cells that are added to or taken from, one after another, and how many steps that takes.
use Rattle.std.proofs.Common.{◌≡◌, ◌≢◌, ℕ, ◌+◌, ◌-◌, ◌*◌, ◌<◌, ◌≤◌, Bool, true, false, cond, List, refl, sym, ap, ◌∙◌, arith, length, length-set, get_or, set, nat_eq, nat_lt, get_or-set_other, get_or-set_same}
use Rattle.std.specs.Prelude.{◌&&◌}
use Rattle.std.proofs.lemmas.Bool.Decides.{nat_tests}
use Rattle.std.proofs.Common.{mul-le-mul_right, mul-le-mul_left, mul-add, mul_left_comm, mul_assoc}

pub set_cells : (xs ys : List ℕ) (n v : ℕ) → ys ≡ set xs n v → length ys ≡ length xs
set_cells xs ys n v e = ap length e ∙ length-set xs n v

set_at : (xs : List ℕ) (n f v : ℕ) → n < length xs → (f ≡ n → get_or (set xs n v) f 0 ≡ v) × (f ≢ n → get_or (set xs n v) f 0 ≡ get_or xs f 0)
set_at xs n f v h = (λ e. rw e (get_or-set_same xs n v 0 h), λ ne. get_or-set_other xs n f v 0 ne)

-- a cell that is added to
pub set_adds : (xs ys : List ℕ) (n a : ℕ) → ys ≡ set xs n (get_or xs n 0 + a) → n < length xs → (f : ℕ) → get_or ys f 0 ≡ get_or xs f 0 + cond (nat_eq f n) a 0
set_adds xs ys n a e h f =
    ap (λ (zs : List ℕ). get_or zs f 0) e
    ∙ (let at = set_at xs n f (get_or xs n 0 + a) h in grind (arith, nat_tests, at.0, at.1))

-- a cell that is taken from
pub set_takes : (xs ys : List ℕ) (n a : ℕ) → ys ≡ set xs n (get_or xs n 0 - a) → n < length xs → a ≤ get_or xs n 0 → (f : ℕ) → get_or xs f 0 ≡ get_or ys f 0 + cond (nat_eq f n) a 0
set_takes xs ys n a e h l f =
    let same : get_or ys f 0 ≡ get_or (set xs n (get_or xs n 0 - a)) f 0 = ap (λ (zs : List ℕ). get_or zs f 0) e in
    let at = set_at xs n f (get_or xs n 0 - a) h in
    grind (arith, nat_tests, same, at.0, at.1, l)

-- a turn more
pub turn_more : (k d : ℕ) → (k + 1) * d ≡ k * d + d
turn_more k d = omega arith

pub turns_within : (k n d : ℕ) → k + 1 ≤ n → k * d + d ≤ n * d
turns_within k n d h = omega (arith, turn_more k d, mul-le-mul_right d h)

-- what its turn has not come to yet
pub not_yet : (b : Bool) (t k a : ℕ) → t ≡ k → cond (b && nat_lt t k) a 0 ≡ 0
not_yet true t k a e = grind (arith, nat_tests, e)
not_yet false t k a e = refl

-- steps of so many turns
pub more_turns : (new old t d e : ℕ) → new ≤ old + t * d → d ≤ e → new ≤ old + t * e
more_turns new old t d e h l = omega (arith, h, mul-le-mul_left t l)

pub two_turns : (new mid old t a b e : ℕ) → mid ≤ old + t * a → new ≤ mid + t * b → a + b ≤ e → new ≤ old + t * e
two_turns new mid old t a b e h k l =
    let sum : t * (a + b) ≡ t * a + t * b = mul-add t a b in omega (arith, h, k, sum, mul-le-mul_left t l)

-- all phases, each with all first microframes, and then the one that is taken
pub within_steps : (f s t c : ℕ) → f * t ≤ 1024 → t ≤ 1024 → (s + 1) * c ≤ 40 → f * (s * (t * c)) + t * c ≤ 40960
within_steps f s t c ft t1 few =
    let inner : s * (t * c) ≡ t * (s * c) = mul_left_comm s t c in
    let outer : f * (t * (s * c)) ≡ f * t * (s * c) = sym (mul_assoc f t (s * c)) in
    let all : f * (s * (t * c)) ≡ f * t * (s * c) = ap (λ n. f * n) inner ∙ outer in
    let sum : (s + 1) * c ≡ s * c + c = omega arith in
    omega (arith, all, sum, few, mul-le-mul_right (s * c) ft, mul-le-mul_right c t1)
