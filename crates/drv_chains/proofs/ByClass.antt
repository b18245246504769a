-- The chain of a frame is its descriptors and one class a level.
use Rattle.std.proofs.Common.{◌≡◌, ℕ, zero, suc, ◌*◌, ◌/◌, ◌%◌, ◌^◌, ◌<◌, max, List, [], ◌∷◌, ◌++◌, map, ap, sym, ◌∙◌, arith}
use Rattle.std.specs.Prelude.{filter}
use Rattle.std.specs.List.{flat_map}
use Rattle.std.proofs.lemmas.List.{append-nil}
use Rattle.std.proofs.lemmas.Nat.{pow_pos}
use Rattle.drv_chains.specs.declared.members.Member.TheVariants.{Once, Each}
use Rattle.drv_chains.specs.Chains.{Schedule, frame_period, at_place, descriptors_in, queues_in, chain}
use Rattle.drv_chains.specs.Classes.{members, classes_from, chain_by_classes}

-- the periods from a level down
unfoldable periods_from : ℕ → List ℕ
periods_from zero = 8 ∷ 4 ∷ 2 ∷ 1 ∷ []
periods_from (suc level) = 8 * 2 ^ suc level ∷ periods_from level

eighth : (n : ℕ) → 0 < n → max 1 (8 * n / 8) ≡ n
eighth n h = omega (arith, h)

frames_at : (level : ℕ) → frame_period (8 * 2 ^ level) ≡ 2 ^ level
frames_at level = eighth (2 ^ level) (pow_pos level)

one_frame : (f : ℕ) → 0 ≡ f % 1
one_frame f = omega arith

lowest : (s : Schedule) (n m : ℕ) → n ≡ m → members s 0 n ≡ members s 0 m
lowest s n m e = ap (λ x. members s 0 x) e

classes_are : (s : Schedule) (level f : ℕ) → classes_from s level f ≡ flat_map (queues_in s f) (periods_from level)
unfolding classes_from periods_from
classes_are s zero f = lowest s 0 (f % 1) (one_frame f)
classes_are s (suc level) f =
    ap (λ x. x ++ classes_from s level f) (append-nil (filter (at_place (8 * 2 ^ suc level) (f % 2 ^ suc level)) s.queues))
    ∙ ap (λ x. filter (at_place (8 * 2 ^ suc level) (f % x)) s.queues ++ classes_from s level f) (sym (frames_at (suc level)))
    ∙ ap (λ x. queues_in s f (8 * 2 ^ suc level) ++ x) (classes_are s level f)

pub chain_of_classes : (s : Schedule) (f : ℕ) → chain_by_classes s f ≡ chain s f
unfolding periods_from
chain_of_classes s f = ap (λ x. map Once (descriptors_in s f) ++ map Each x) (classes_are s 10 f)
