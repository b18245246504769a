-- Lists of which something is told by element.
use Rattle.std.proofs.Common.{◌≡◌, ℕ, zero, suc, List, [], ◌∷◌, map, slice_get, Some, option_map, ap, ◌∙◌, refl}
use Rattle.std.proofs.lemmas.Option.{same_Some, slice_get-map}

pub was_mapped : {X Y : Type 0} (f : X → Y) (xs : List X) (n : ℕ) (y : Y) → slice_get (map f xs) n ≡ Some y → (x : X) × (slice_get xs n ≡ Some x) × (f x ≡ y)
was_mapped f [] n y here = absurd (cc)
was_mapped f (x ∷ xs) zero y here = (x, refl, same_Some (f x) y here)
was_mapped f (x ∷ xs) (suc n) y here = was_mapped f xs n y here

pub mapped : {X Y : Type 0} (f : X → Y) (xs : List X) (n : ℕ) (x : X) → slice_get xs n ≡ Some x → slice_get (map f xs) n ≡ Some (f x)
mapped f xs n x here = slice_get-map f xs n ∙ ap (option_map f) here

pub map_same : {X Y : Type 0} (f : X → Y) (g : X → X) (xs : List X) → ((x : X) → f (g x) ≡ f x) → map f (map g xs) ≡ map f xs
map_same f g [] each = refl
map_same f g (x ∷ xs) each = ap (λ y. y ∷ map f (map g xs)) (each x) ∙ ap (λ ys. f x ∷ ys) (map_same f g xs each)
