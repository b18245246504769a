-- Of the bytes that were moved, those that were received.
use Rattle.std.proofs.Common.{◌≡◌, ℕ, ◌≤◌, Bool, true, false, refl, arith}
use Rattle.law_frames.specs.Frame.{received_of}

pub in_few : (b : Bool) (n : ℕ) → received_of b n ≤ n
in_few true n = omega arith
in_few false n = omega arith

pub in_none : (b : Bool) → received_of b 0 ≡ 0
in_none true = refl
in_none false = refl
