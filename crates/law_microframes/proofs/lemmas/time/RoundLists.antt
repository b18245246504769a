-- Of a list whose names lie one below the other none is there twice, and what lies below its newest lies below all.
use Rattle.std.proofs.Common.{◌≡◌, ℕ, Bool, true, false, List, [], ◌∷◌, refl, sym, subst}
use Rattle.law_microframes.proofs.Common.{none_higher}
use Rattle.claims_world.specs.Memory.{AreOnce}
use Rattle.drv_table.specs.DriverContent.{DriverContent}
use Rattle.law_queues.specs.reached_rings.Reaching.{is_reached}
use Rattle.law_queues.proofs.lemmas.reached_rings.Computing.{answer_reaches_fewer}
use Rattle.law_microframes.specs.time.Heights.{AreFalling}

pub falling_once : (height : ℕ → ℕ) (vs : List ℕ) → AreFalling height vs → AreOnce vs
falling_once height [] all = tt
falling_once height (v ∷ vs) all = (none_higher height v vs all.0, falling_once height vs all.1)

-- ---- a doorbell that isn't set any more leaves fewer to be reached

pub fewer : (d : DriverContent) (rings now : Bool) (n : ℕ) → (now ≡ true → rings ≡ true) → is_reached d now n ≡ true → is_reached d rings n ≡ true
fewer d rings true n falls on = subst (λ (x : Bool). is_reached d x n ≡ true) (sym (falls refl)) on
fewer d rings false n falls on = answer_reaches_fewer d rings n on
