-- Masks of the microframes of a frame (EHCI 1.0, 3.4.2, 3.6.2 and 4.12.2.4). Bit u of a mask is microframe u.
--     has mask u             microframe u stands in the mask
--     is_after_first mask u  one before u does
--     is_first mask u        u is the first of the mask
--     is_last mask u         u is the last of the mask
--     lacks mask done u      one of the mask before u isn't done
--     with_bit done u        u is done too
use Rattle.std.specs.Prelude.{ℕ, zero, suc, ◌+◌, ◌/◌, ◌%◌, ◌^◌, Bool, false, not, ◌&&◌, ◌||◌, ◌==◌, if◌then◌else◌}

abbrev pub has : ℕ → ℕ → Bool
has mask u = mask / 2 ^ u % 2 == 1

abbrev pub is_after_first : ℕ → ℕ → Bool
is_after_first mask u = not (mask % 2 ^ u == 0)

abbrev pub is_first : ℕ → ℕ → Bool
is_first mask u = has mask u && not (is_after_first mask u)

abbrev pub is_last : ℕ → ℕ → Bool
is_last mask u = mask / 2 ^ u == 1

unfoldable pub lacks : ℕ → ℕ → ℕ → Bool
lacks mask done zero = false
lacks mask done (suc u) = lacks mask done u || (has mask u && not (has done u))

abbrev pub with_bit : ℕ → ℕ → ℕ
with_bit done u = if has done u then done else done + 2 ^ u
