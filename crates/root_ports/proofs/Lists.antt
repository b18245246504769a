-- A loop that writes over each element of a list.
use Rattle.std.proofs.Common.{◌≡◌, ◌∙◌, ◌+◌, ◌<◌, ℕ, List, length, map, take, drop, ◌++◌, ap, subst, sym}
use Rattle.std.proofs.Math.ListN.{set, get_or}
use Rattle.std.proofs.lemmas.List.{get_or_default}
use Rattle.std.proofs.lemmas.List.Edits.{map_over_more}

-- the next element y is f of what stood there
pub written_over : {X : Type 0} (f : X → X) (xs ys : List X) (i : ℕ) (d y : X) → length ys ≡ length xs → i < length xs → ys ≡ map f (take i xs) ++ drop i xs
    → y ≡ f (get_or ys i d) → set ys i y ≡ map f (take (i + 1) xs) ++ drop (i + 1) xs
written_over f xs ys i d y long inside is made =
    let within : i < length ys = subst (λ n. i < n) (sym long) inside in
    ap (set ys i) made ∙ map_over_more f xs ys i (get_or ys i d) inside is (get_or_default ys i d (get_or ys i d) within)
