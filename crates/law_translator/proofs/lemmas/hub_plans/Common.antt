-- Lemmas that several files need.
use Rattle.std.proofs.Common.{List, ◌++◌, ◌∷◌, [], ℕ, slice_get, ◌≡◌, Some, zero, subst, suc}
use Rattle.std.specs.List.{AllByRecursion}
use Rattle.std.proofs.lemmas.Option.{same_Some}
use Rattle.bandwidth.specs.declared.placements.Placement.{Placement}

pub all_joined : (P : Placement → Type 0) (ps qs : List Placement) → AllByRecursion P ps → AllByRecursion P qs → AllByRecursion P (ps ++ qs)
all_joined P [] qs h k = k
all_joined P (p ∷ ps) qs h k = (h.0, all_joined P ps qs h.1 k)

pub one_of : (P : Placement → Type 0) (ps : List Placement) (i : ℕ) (p : Placement) → AllByRecursion P ps → slice_get ps i ≡ Some p → P p
one_of P [] i p all there = absurd cc
one_of P (q ∷ ps) zero p all there = subst P (same_Some q p there) all.0
one_of P (q ∷ ps) (suc i) p all there = one_of P ps i p all.1 there
