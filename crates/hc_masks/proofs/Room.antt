-- A bit that doesn't stand in a mask has room in it.
use Rattle.std.proofs.Common.{◌≡◌, ℕ, zero, suc, ◌+◌, ◌/◌, ◌%◌, ◌^◌, ◌<◌, ◌==◌, Bool, true, false, if◌then◌else◌, arith, refl}
use Rattle.hc_masks.specs.Masks.{has, with_bit}

odd_at : (n r : ℕ) → n % 2 ≡ r → (r == 1) ≡ false → n % 2 ≡ 0
odd_at n zero is not_odd = is
odd_at n (suc zero) is not_odd = absurd (cc)
odd_at n (suc (suc r)) is not_odd = absurd (omega (arith, is))

-- what isn't odd
even : (n : ℕ) → (n % 2 == 1) ≡ false → n % 2 ≡ 0
even n not_odd = odd_at n (n % 2) refl not_odd

-- by the eight microframes
pub room_for_bit : (mask u : ℕ) → mask < 256 → u < 8 → (mask / 2 ^ u % 2 == 1) ≡ false → mask + 2 ^ u < 256
room_for_bit mask zero small low free = omega (arith, even (mask / 2 ^ 0) free)
room_for_bit mask (suc zero) small low free = omega (arith, even (mask / 2 ^ 1) free)
room_for_bit mask (suc (suc zero)) small low free = omega (arith, even (mask / 2 ^ 2) free)
room_for_bit mask (suc (suc (suc zero))) small low free = omega (arith, even (mask / 2 ^ 3) free)
room_for_bit mask (suc (suc (suc (suc zero)))) small low free = omega (arith, even (mask / 2 ^ 4) free)
room_for_bit mask (suc (suc (suc (suc (suc zero))))) small low free = omega (arith, even (mask / 2 ^ 5) free)
room_for_bit mask (suc (suc (suc (suc (suc (suc zero)))))) small low free = omega (arith, even (mask / 2 ^ 6) free)
room_for_bit mask (suc (suc (suc (suc (suc (suc (suc zero))))))) small low free = omega (arith, even (mask / 2 ^ 7) free)
room_for_bit mask (suc (suc (suc (suc (suc (suc (suc (suc u)))))))) small low free = absurd (omega (arith, low))

with_bit_at : (done u : ℕ) (b : Bool) → has done u ≡ b → done < 256 → u < 8 → (if b then done else done + 2 ^ u) < 256
with_bit_at done u true is small low = small
with_bit_at done u false is small low = room_for_bit done u small low is

-- a mask with a microframe more is a mask
pub with_bit_small : (done u : ℕ) → done < 256 → u < 8 → with_bit done u < 256
with_bit_small done u small low = with_bit_at done u (has done u) refl small low
