-- The checks of packets (USB 2.0, 8.3.5): remainders over the bits in the order in which they go, the lowest first. The remainder is kept with
-- its bits turned round, as it goes; it begins with ones, and is sent inverted.
--     check5 n k      of the lowest k bits of n, as five bits: x^5 + x^2 + 1
--     check16 bytes   of bytes, as sixteen bits: x^16 + x^15 + x^2 + 1
use Rattle.std.specs.Prelude.{ℕ, zero, suc, ◌/◌, ◌%◌, ◌==◌, List, [], ◌∷◌, if◌then◌else◌}
use Rattle.std.specs.Int.Bits.{bit_xor}

-- one bit more: the lowest of n
abbrev pub shifted : ℕ → ℕ → ℕ → ℕ
shifted polynomial r n = if r % 2 == n % 2 then r / 2 else bit_xor (r / 2) polynomial

-- k bits more
unfoldable pub after_bits : ℕ → ℕ → ℕ → ℕ → ℕ
after_bits polynomial r n zero = r
after_bits polynomial r n (suc k) = after_bits polynomial (shifted polynomial r n) (n / 2) k

abbrev pub check5 : ℕ → ℕ → ℕ
check5 n k = bit_xor (after_bits 0x14 0x1f n k) 0x1f % 32

-- the bits of some bytes more
unfoldable pub after_bytes : ℕ → List ℕ → ℕ
after_bytes r [] = r
after_bytes r (x ∷ xs) = after_bytes (after_bits 0xa001 r x 8) xs

abbrev pub check16 : List ℕ → ℕ
check16 bytes = bit_xor (after_bytes 0xffff bytes) 0xffff % 65536
