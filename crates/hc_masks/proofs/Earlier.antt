-- Microframes that aren't done, one more at a time.
use Rattle.std.proofs.Common.{◌≡◌, ℕ, suc, ◌+◌, false, not, ◌&&◌, ◌||◌, arith, ap, refl}
use Rattle.hc_masks.specs.Masks.{has, lacks}

pub lacks_none : (mask done : ℕ) → lacks mask done 0 ≡ false
unfolding lacks
lacks_none mask done = refl

pub lacks_more : (mask done u : ℕ) → lacks mask done (u + 1) ≡ (lacks mask done u || (has mask u && not (has done u)))
unfolding lacks
lacks_more mask done u = let e : u + 1 ≡ suc u = omega arith in ap (lacks mask done) e
