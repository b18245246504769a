-- What is laid for what is placed below a translator in each microframe of a frame (USB 2.0, 11.18.1 and 11.18.4).
--     laid_at p k u           the byte-times that are laid for the key k in microframe u
--     Fits p                  in no microframe more than 188 are laid
use Rattle.std.specs.Prelude.{ℕ, ◌+◌, ◌-◌, ◌≤◌, List, [], ◌∷◌}
use Rattle.hub_keys.specs.declared.key.Key.{Key}
use Rattle.claims_world.specs.Plans.{Plan, laid}

abbrev pub laid_at : Plan → Key → ℕ → ℕ
laid_at p k u = laid p k (u + 1) - laid p k u

abbrev pub sum_at : Plan → ℕ → List Key → ℕ
sum_at p u [] = 0
sum_at p u (k ∷ ks) = laid_at p k u + sum_at p u ks

abbrev pub Fits : Plan → Type 0
Fits p = (u : ℕ) → sum_at p u p.keys ≤ 188
