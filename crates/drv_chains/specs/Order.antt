-- The order of the frames in which the stores of one queue head come, for a frame list of 2 ^ bits elements (EHCI 1.0, 3.1 and 4.6).
-- Of two frames, the one that has 0 at the lowest bit in which their numbers differ comes first: so the frames of one period and phase
-- stand together.
--     ComesFirst f g     frame f comes before frame g
--     frames bits        the frames in this order: the even ones before the odd ones, each half in the order of the halved numbers
--     AreInOrder fs      each comes before all behind it
use Rattle.std.specs.Prelude.{◌≡◌, ℕ, zero, suc, ◌+◌, ◌*◌, ◌/◌, ◌%◌, ◌^◌, List, [], ◌∷◌, ◌++◌, map}
use Rattle.std.specs.List.{AllByRecursion}

pub record ComesFirst (f g : ℕ) : Type 0 where
  pub bit : ℕ
  pub same_below : f % 2 ^ bit ≡ g % 2 ^ bit
  pub zero_here : f / 2 ^ bit % 2 ≡ 0
  pub one_there : g / 2 ^ bit % 2 ≡ 1

unfoldable pub frames : ℕ → List ℕ
frames zero = 0 ∷ []
frames (suc bits) = map (λ f. 2 * f) (frames bits) ++ map (λ f. 2 * f + 1) (frames bits)

unfoldable pub AreInOrder : List ℕ → Type 0
AreInOrder [] = Unit
AreInOrder (f ∷ fs) = AllByRecursion (ComesFirst f) fs × AreInOrder fs
