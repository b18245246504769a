-- One bit of a set after the operations on sets.
use Rattle.std.proofs.Common.{◌≡◌, ◌∙◌, ◌-◌, ◌*◌, ◌^◌, ◌<◌, ℕ, Bool, true, false, refl, sym, ap, arith, w32}
use Rattle.std.specs.Prelude.{◌==◌, min, max, not, ◌&&◌, ◌||◌, if◌then◌else◌}
use Rattle.std.specs.Int.RustNames.{bit_and, bit_or}
use Rattle.std.specs.Int.{bit_at}
use Rattle.std.proofs.lemmas.Bool.Decides.{nat_tests}
use Rattle.std.proofs.lemmas.Nat.{pow_pos}
use Rattle.std.proofs.lemmas.Nat.Bits.{bit_at_and, bit_at_or, bit_at-lt, bit_at_not, and_pow}
use Rattle.bitflags.specs.Sets.{without}
use Rattle.op_registers.specs.Events.{has}
use Rattle.op_registers.specs.Table.{one_if}

-- a number that is 0 or 1, times one that isn't 0
times_test : (d m : ℕ) → d < 2 → 0 < m → (d * m == m) ≡ (d == 1)
times_test d m few some = grind (arith, nat_tests)

-- a mask of one bit is there where the bit is 1
pub has_bit : (k n : ℕ) → has n (2 ^ k) ≡ (bit_at n k == 1)
has_bit k n = rw (and_pow n k) (times_test (bit_at n k) (2 ^ k) (bit_at-lt n k) (pow_pos k))

either_test : (a b : ℕ) → a < 2 → b < 2 → (max a b == 1) ≡ ((b == 1) || (a == 1))
either_test a b one two = grind (arith, nat_tests)

both_test : (a b : ℕ) → a < 2 → b < 2 → (min a b == 1) ≡ ((b == 1) && (a == 1))
both_test a b one two = grind (arith, nat_tests)

but_test : (a b : ℕ) → a < 2 → b < 2 → (min a (1 - b) == 1) ≡ (not (b == 1) && (a == 1))
but_test a b one two = grind (arith, nat_tests)

-- a bit of a union is a bit of either
pub has-or : (k a b : ℕ) → has (bit_or a b) (2 ^ k) ≡ (has b (2 ^ k) || has a (2 ^ k))
has-or k a b =
    has_bit k (bit_or a b) ∙ ap (λ x. x == 1) (bit_at_or a b k) ∙ either_test (bit_at a k) (bit_at b k) (bit_at-lt a k) (bit_at-lt b k)
    ∙ sym (let e = has_bit k b in let f = has_bit k a in rw (e, f) refl)

-- a bit of the common bits is a bit of both
pub has-and : (k a b : ℕ) → has (bit_and a b) (2 ^ k) ≡ (has b (2 ^ k) && has a (2 ^ k))
has-and k a b =
    has_bit k (bit_and a b) ∙ ap (λ x. x == 1) (bit_at_and a b k) ∙ both_test (bit_at a k) (bit_at b k) (bit_at-lt a k) (bit_at-lt b k)
    ∙ sym (let e = has_bit k b in let f = has_bit k a in rw (e, f) refl)

-- a bit of what is left is a bit of the first, and none of those taken away
pub has-without : (k b : ℕ) → b < 2 ^ 32 → k < 32 → (a : ℕ) → has (without 32 a b) (2 ^ k) ≡ (not (has b (2 ^ k)) && has a (2 ^ k))
has-without k b fits within a =
    has_bit k (without 32 a b) ∙ ap (λ x. x == 1) (bit_at_and a (2 ^ 32 - 1 - b) k) ∙ ap (λ x. min (bit_at a k) x == 1) (bit_at_not w32 b k fits within)
    ∙ but_test (bit_at a k) (bit_at b k) (bit_at-lt a k) (bit_at-lt b k)
    ∙ sym (let e = has_bit k b in let f = has_bit k a in rw (e, f) refl)

or_is_if : (t x : Bool) → (t || x) ≡ (if t then true else x)
or_is_if true x = refl
or_is_if false x = refl

but_is_if : (t x : Bool) → (not t && x) ≡ (if t then false else x)
but_is_if true x = refl
but_is_if false x = refl

-- a bit after those of a mask were set or cleared
pub has-set : (k b : ℕ) → b < 2 ^ 32 → k < 32 → (a : ℕ) (on : Bool)
    → has (if on then bit_or a b else without 32 a b) (2 ^ k) ≡ (if has b (2 ^ k) then on else has a (2 ^ k))
has-set k b fits within a true = has-or k a b ∙ or_is_if (has b (2 ^ k)) (has a (2 ^ k))
has-set k b fits within a false = has-without k b fits within a ∙ but_is_if (has b (2 ^ k)) (has a (2 ^ k))

-- what takes a bit that a 1 sets, and one that a 1 clears
pub set-test : (written held : Bool) → ((if written then 1 else one_if held) == 1) ≡ (held || written)
set-test true true = refl
set-test true false = refl
set-test false true = refl
set-test false false = refl

pub clear-test : (written held : Bool) → ((if written then 0 else one_if held) == 1) ≡ (not written && held)
clear-test true true = refl
clear-test true false = refl
clear-test false true = refl
clear-test false false = refl
