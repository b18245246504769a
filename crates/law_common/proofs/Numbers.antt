-- Numbers, and how they compare.
use Rattle.std.proofs.Common.{ℕ, ◌<◌, ◌≡◌, true, arith, ◌≤◌, false, Bool, ◌≢◌, sym, ◌∙◌, ap, get_or, replicate, zero, suc, refl, ◌==◌, min, if◌then◌else◌, not, nat_eq, ◌*◌, ◌/◌, max, ◌+◌, cond, ◌||◌, ◌-◌, ◌%◌, subst}
use Rattle.std.specs.Prelude.{nat_lt, nat_le}
use Rattle.std.proofs.lemmas.Bool.Decides.{nat_tests}
use Rattle.std.proofs.lemmas.Bool.{true≢false, eq-eqb, leb-false}

pub is_less : (a b : ℕ) → a < b → nat_lt a b ≡ true
is_less a b less = grind arith

pub not_below : (a b : ℕ) → b ≤ a → nat_lt a b ≡ false
not_below a b h = grind (arith, nat_tests)

pub streamed_apart : (on : ℕ → Bool) (n k : ℕ) → on n ≡ false → on k ≡ true → k ≢ n
streamed_apart on n k off is same = true≢false (sym is ∙ ap on same ∙ off)

pub same_numbers : (p j : ℕ) → j < p → get_or (replicate {A = ℕ} p 128) j 0 ≡ 128
same_numbers zero j below = absurd (omega (arith, below))
same_numbers (suc p) zero below = refl
same_numbers (suc p) (suc j) below = same_numbers p j (omega (arith, below))

pub same_number : (n : ℕ) → (n == n) ≡ true
same_number n = eq-eqb n n refl

pub most_limit : (size n : ℕ) → min size n ≤ size
most_limit size n = omega arith

pub few_bytes : (b : Bool) (size left : ℕ) → (if b then min size left else 0) ≤ size
few_bytes true size left = omega arith
few_bytes false size left = omega arith

pub not_its : (n m : ℕ) → n ≢ m → not (nat_eq n m) ≡ true
not_its n m h = grind (arith, nat_tests, h)

pub same_block : (a b : ℕ) → 32 * (a / 32) ≡ 32 * (b / 32) → a / 32 ≡ b / 32
same_block a b same = omega (arith, same)

pub same_blocks : (a b : ℕ) → 32 * a ≡ 32 * b → a ≡ b
same_blocks a b is = omega (arith, is)

pub other_number : (m n : ℕ) → m ≢ n → (m == n) ≡ false
other_number m n differs = grind (arith, nat_tests)

pub other_than : (c a b : ℕ) → a ≡ b → c ≢ b → c ≢ a
other_than c a b same differs is = differs (is ∙ same)

pub either_within : (b : Bool) (x y n : ℕ) → x ≤ n → y ≤ n → (if b then x else y) ≤ n
either_within true x y n one two = one
either_within false x y n one two = two

pub few_packets : (b : Bool) (multi n : ℕ) → 1 ≤ multi → (1 ≤ (if b then multi else max 1 (min multi n))) ×
    ((if b then multi else max 1 (min multi n)) ≤ multi)
few_packets true multi n some = (some, omega arith)
few_packets false multi n some = (omega arith, omega (arith, some))

pub in_order : (first : Bool) (k rest : ℕ) → (if first then nat_lt k rest else k + 1 == rest) ≡ true → k < rest
in_order true k rest e = grind (arith, nat_tests, e)
in_order false k rest e = grind (arith, nat_tests, e)

pub its_own : (n : ℕ) → not (nat_eq n n) ≡ false
its_own n = grind (arith, nat_tests)

pub not_less : (left price : ℕ) → nat_lt left price ≡ false → price ≤ left
not_less left price is = grind (arith, nat_tests, is)

pub same_test : (a b : ℕ) → nat_eq a b ≡ nat_eq b a
same_test a b = grind (arith, nat_tests)

pub leaves_none : (a b c : Bool) → c ≡ true → ◌≡◌ {A = ℕ} (cond (a || b || c) 0 1) 0
leaves_none true b c is = refl
leaves_none false true c is = refl
leaves_none false false c is = ap (λ k. cond k 0 1) is

pub moved_by : (told left : ℕ) (b : Bool) → nat_le left told ≡ b → (if b then told - left else 0) ≡ told - left
moved_by told left true is = refl
moved_by told left false is = let more = leb-false left told is in omega (arith, more)

pub sum_up : (a b c d : ℕ) → a ≤ b → c ≤ d → a + c ≤ b + d
sum_up a b c d h i = omega arith

pub first_word : (b : ℕ) → 32 * b ≡ b * 32
first_word b = omega arith

pub no_less : (b : Bool) (n m : ℕ) → n ≤ (if b then n + m else n)
no_less true n m = omega arith
no_less false n m = omega arith

pub block_aligned : (v n : ℕ) → v ≡ 32 * n → v % 32 ≡ 0
block_aligned v n is = omega (arith, is)

pub not_higher : (height : ℕ → ℕ) (a v : ℕ) → height a < height v → a ≢ v
not_higher height a v less same = itself (height a) (subst (λ (x : ℕ). height a < height x) (sym same) less)
  where
    itself : (n : ℕ) → n < n → ⊥
    itself n less = omega (arith, less)

pub between : (a b c : ℕ) → a < b → b < c → a < c
between a b c one two = omega (arith, one, two)

pub zero_one : ◌≡◌ {A = ℕ} 0 1 → ⊥
zero_one e = cc

pub kept_number : (n most : ℕ) → n ≤ most → n ≡ min (n + 0) most
kept_number n most h = omega (arith, h)

pub capped : (n a k most : ℕ) → min (min (n + a) most + k) most ≡ min (n + (a + k)) most
capped n a k most = omega arith

pub in_one : (a k : ℕ) → a % 32 ≡ 0 → k < 8 → (a + 4 * k) / 32 ≡ a / 32
in_one a k low few = omega (arith, low, few)
