-- Lemmas that several files need.
use Rattle.std.proofs.Common.{Bool, List, ◌∷◌, []}
use Rattle.std.specs.List.{AllByRecursion}
use Rattle.std.proofs.lemmas.Bool.{cond_both}
use Rattle.script_world.specs.Draft.{change}

pub all_change : {X : Type 0} (P : X → Type 0) (p : X → Bool) (f : X → X) (xs : List X) → ((x : X) → P x → P (f x)) → AllByRecursion P xs
    → AllByRecursion P (change p f xs)
all_change P p f [] g h = tt
all_change P p f (x ∷ xs) g h =
    cond_both (p x) (f x ∷ xs) (x ∷ change p f xs) (AllByRecursion P) (λ _. (g x h.0, h.1)) (λ _. (h.0, all_change P p f xs g h.1))
