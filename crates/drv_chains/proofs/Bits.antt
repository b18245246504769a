-- The bits of a frame's number.
use Rattle.std.proofs.Common.{◌≡◌, ℕ, ◌+◌, ◌-◌, ◌*◌, ◌/◌, ◌%◌, ◌^◌, ◌<◌, ◌≤◌, ap, sym, ◌∙◌, arith}
use Rattle.std.proofs.lemmas.Nat.{mod-pow-add, shr-shr, field_of}
use Rattle.std.proofs.Math.Pow.{mod-mod-pow}

half_mod : (n b : ℕ) → n % 2 ^ (b + 1) ≡ (n / 2 % 2 ^ b) * 2 + n % 2
half_mod n b = mod-pow-add n b 1

half_div : (n b : ℕ) → n / 2 / 2 ^ b ≡ n / 2 ^ (b + 1)
half_div n b = let e : 1 + b ≡ b + 1 = omega arith in shr-shr n 1 b ∙ ap (λ k. n / 2 ^ k) e

-- two numbers whose halves agree below bit b, and that are both even or both odd, agree below bit b + 1
pub same_doubled : (m n f g b : ℕ) → m / 2 ≡ f → n / 2 ≡ g → m % 2 ≡ n % 2 → f % 2 ^ b ≡ g % 2 ^ b → m % 2 ^ (b + 1) ≡ n % 2 ^ (b + 1)
same_doubled m n f g b hm hn e s = half_mod m b ∙ ap (λ x. (x % 2 ^ b) * 2 + m % 2) hm ∙ ap (λ x. x * 2 + m % 2) s ∙ ap (λ x. (g % 2 ^ b) * 2 + x) e ∙ ap (λ x. (x % 2 ^ b) * 2 + n % 2) (sym hn) ∙ sym (half_mod n b)

pub bit_doubled : (m f b v : ℕ) → m / 2 ≡ f → f / 2 ^ b % 2 ≡ v → m / 2 ^ (b + 1) % 2 ≡ v
bit_doubled m f b v h e = ap (λ x. x % 2) (sym (half_div m b)) ∙ ap (λ x. x / 2 ^ b % 2) h ∙ e

-- numbers that agree below bit m agree below each bit k up to m
pub same_below : (a b m k : ℕ) → k ≤ m → a % 2 ^ m ≡ b % 2 ^ m → a % 2 ^ k ≡ b % 2 ^ k
same_below a b m k h e =
    let j : (m - k) + k ≡ m = omega (arith, h) in
    sym (mod-mod-pow a (m - k) k) ∙ ap (λ x. a % 2 ^ x % 2 ^ k) j ∙ ap (λ x. x % 2 ^ k) e ∙ ap (λ x. b % 2 ^ x % 2 ^ k) (sym j) ∙ mod-mod-pow b (m - k) k

-- and in bit k below m
pub same_bit : (a b m k : ℕ) → k < m → a % 2 ^ m ≡ b % 2 ^ m → a / 2 ^ k % 2 ≡ b / 2 ^ k % 2
same_bit a b m k h e =
    let s : a % 2 ^ (k + 1) ≡ b % 2 ^ (k + 1) = same_below a b m (k + 1) (omega (arith, h)) e in
    let j : 1 + k ≡ k + 1 = omega arith in
    sym (field_of a 1 k) ∙ ap (λ x. a % 2 ^ x / 2 ^ k) j ∙ ap (λ x. x / 2 ^ k) s ∙ ap (λ x. b % 2 ^ x / 2 ^ k) (sym j) ∙ field_of b 1 k

-- what agrees below bit 1 + k agrees below bit k
pub halved : (k f g : ℕ) → f % 2 ^ (1 + k) ≡ g % 2 ^ (1 + k) → f % 2 ^ k ≡ g % 2 ^ k
halved k f g e = sym (mod-mod-pow f 1 k) ∙ ap (λ x. x % 2 ^ k) e ∙ mod-mod-pow g 1 k
