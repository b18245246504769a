-- Checks bit by bit and byte by byte.
use Rattle.std.proofs.Common.{◌≡◌, ℕ, suc, ◌+◌, ◌<◌, ◌≤◌, List, ◌∷◌, length, get_or, drop, ap, sym, ◌∙◌, arith}
use Rattle.std.specs.Prelude.{◌-◌, ◌/◌}
use Rattle.std.proofs.Math.Seq.{drop-cons}
use Rattle.bus_capture.specs.Checks.{shifted, after_bits, after_bytes}

-- one bit more
pub bits_more : (p r n i count x : ℕ) → i < count → after_bits p r n (count - i) ≡ x → after_bits p (shifted p r n) (n / 2) (count - (i + 1)) ≡ x
unfolding after_bits
bits_more p r n i count x h e =
    let k : count - i ≡ suc (count - (i + 1)) = omega (arith, h) in
    sym (ap (λ m. after_bits p r n m) k) ∙ e

-- no bit is left
pub bits_done : (p r n i count x : ℕ) → count ≤ i → after_bits p r n (count - i) ≡ x → r ≡ x
unfolding after_bits
bits_done p r n i count x h e =
    let k : count - i ≡ 0 = omega (arith, h) in
    sym (ap (λ m. after_bits p r n m) k) ∙ e

-- one byte more
pub bytes_more : (r i x : ℕ) (bytes : List ℕ) (end : ℕ) → i < length bytes → x ≡ get_or bytes i x → after_bytes r (drop i bytes) ≡ end → after_bytes (after_bits 40961 r x 8) (drop (i + 1) bytes) ≡ end
unfolding after_bytes
bytes_more r i x bytes end h is e =
    let k : suc i ≡ i + 1 = omega arith in
    sym (ap (λ xs. after_bytes r xs) (drop-cons bytes i x h ∙ ap (λ y. y ∷ drop (suc i) bytes) (sym is) ∙ ap (λ n. x ∷ drop n bytes) k)) ∙ e
