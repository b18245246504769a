-- Lines of the script against a packet, and the numbers that they name.
use Rattle.std.proofs.Common.{◌≡◌, ℕ, ◌==◌, ◌&&◌, ◌||◌, Bool, true, false, List, [], ◌∷◌, map, filter, refl, ap, if◌then◌else◌}
use Rattle.std.specs.List.{list_any}
use Rattle.usb_base.specs.declared.endpoints.EpName.{EpName}
use Rattle.script_types.specs.declared.scripts.FateText.{FateText}
use Rattle.bus_wire.specs.Fates.{is_against, is_unheard}
use Rattle.bus_recorder.specs.Recorded.{speaks_of}

any_step : {X : Type 0} (b : Bool) (g : X → ℕ) (q : ℕ → Bool) (x : X) (rest : Bool) (ys : List X) → rest ≡ list_any q (map g ys)
    → ((b && q (g x)) || rest) ≡ list_any q (map g (if b then x ∷ ys else ys))
any_step true g q x rest ys e = ap (λ r. q (g x) || r) e
any_step false g q x rest ys e = e

any_of_filter : {X : Type 0} (p : X → Bool) (g : X → ℕ) (q : ℕ → Bool) (xs : List X)
    → list_any (λ x. p x && q (g x)) xs ≡ list_any q (map g (filter p xs))
any_of_filter p g q [] = refl
any_of_filter p g q (x ∷ xs) = any_step (p x) g q x (list_any (λ y. p y && q (g y)) xs) (filter p xs) (any_of_filter p g q xs)

-- a line is against the packet just where its number is one of those that don't get through
pub unheard_any : (fates : List FateText) (name : EpName) (below : Bool) (k : ℕ)
    → list_any (speaks_of name below k) fates ≡ is_unheard fates name below k
unfolding speaks_of
unheard_any fates name below k = any_of_filter (is_against name below) (λ f. f.k) (λ n. n == k) fates
