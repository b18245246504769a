-- What the worked rows need.
use Rattle.std.proofs.Common.{◌≡◌, ℕ, zero, suc, List, [], ◌∷◌, slice_get, Some, refl}
use Rattle.endpoint_script.specs.Device.{Device}
use Rattle.law_world.specs.streams.taken_reports.Seats.{AreApart}

-- ---- bytes

pub nine_seven : (xs : List ℕ) → 9 ∷ xs ≡ 7 ∷ 9 ∷ [] → ⊥
nine_seven xs same = cc

pub nine_eight : (xs : List ℕ) → 9 ∷ xs ≡ 8 ∷ [] → ⊥
nine_eight xs same = cc

pub some_none : (x : ℕ) (xs : List ℕ) → x ∷ xs ≡ [] → ⊥
some_none x xs same = cc

-- ---- places

pub none_at : {X : Type 0} (k : ℕ) (x : X) → slice_get [] k ≡ Some x → ⊥
none_at zero x is = cc
none_at (suc k) x is = cc

pub one_apart : (x : Device) → AreApart (x ∷ [])
one_apart x zero zero d e here there same = refl
one_apart x zero (suc j) d e here there same = absurd (none_at j e there)
one_apart x (suc i) j d e here there same = absurd (none_at i d here)
