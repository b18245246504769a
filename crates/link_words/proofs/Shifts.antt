-- The parts of a word, joined by `|`.
use mir.Val.{bool_byte}
use Rattle.std.proofs.Common.{◌≡◌, ℕ, ◌+◌, ◌*◌, ◌/◌, ◌%◌, ◌^◌, ◌<◌, Bool, true, false, ap, ◌∙◌, arith, bit_or}
use Rattle.std.proofs.lemmas.Nat.{or_comm, or_shifted}

-- an address with the fields in its low five bits
pub address_or : (a b : ℕ) → a % 32 ≡ 0 → b < 32 → bit_or a b ≡ a + b
address_or a b aligned below =
    let blocks : a ≡ a / 32 * 2 ^ 5 = omega arith in
    ap (λ x. bit_or x b) blocks ∙ or_shifted (a / 32) 5 b below ∙ omega arith

-- the fields, and then the address over them
pub or_address : (b a : ℕ) → a % 32 ≡ 0 → b < 32 → bit_or b a ≡ b + a
or_address b a aligned below = or_comm b a ∙ address_or a b aligned below ∙ omega arith

-- a flag is one bit
pub flag_small : (b : Bool) → bool_byte b < 2
flag_small true = omega arith
flag_small false = omega arith

pub ruleset parts = (address_or, or_address, flag_small)
