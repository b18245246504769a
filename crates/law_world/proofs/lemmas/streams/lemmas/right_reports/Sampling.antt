-- What isn't so of the worked rows.
use Rattle.std.proofs.Common.{◌≡◌, ℕ, List, [], ◌∷◌}
use Rattle.usb_base.specs.declared.packets.Way.TheVariants as Ways

pub out_in : Ways.Out ≡ Ways.In → ⊥
out_in same = cc

pub other_byte : (xs : List ℕ) → 1 ∷ 3 ∷ xs ≡ 1 ∷ 2 ∷ [] → ⊥
other_byte xs same = cc
