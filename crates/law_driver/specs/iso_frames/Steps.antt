-- Frames of the list that follow each other, one period after the other (EHCI 1.0, 4.6); the list has 1,024 elements, and each comes again.
--     StepsTo p f fs     these frames follow frame f, each one period of the placement after the one before
--     AreInStep p fs     .. and so does each frame of the list the one before
--     AreApart fs        no frame stands there twice
use Rattle.std.specs.Prelude.{◌≡◌, ◌≢◌, ℕ, List, [], ◌∷◌}
use Rattle.std.specs.List.{AllByRecursion}
use Rattle.bandwidth.specs.declared.placements.Placement.{Placement}
use Rattle.drv_periodic_table.specs.Frames.{frames_from}

abbrev pub StepsTo : Placement → ℕ → List ℕ → Type 0
StepsTo p f [] = Unit {0}
StepsTo p f (g ∷ gs) = (g ≡ frames_from p f 1) × StepsTo p g gs

abbrev pub AreInStep : Placement → List ℕ → Type 0
AreInStep p [] = Unit {0}
AreInStep p (f ∷ fs) = StepsTo p f fs

abbrev pub AreApart : List ℕ → Type 0
AreApart [] = Unit {0}
AreApart (f ∷ fs) = AllByRecursion (λ g. g ≢ f) fs × AreApart fs
