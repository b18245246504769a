-- The pieces of a text, one after the other.
use Rattle.std.proofs.Common.{◌≡◌, ℕ, ◌+◌, ◌<◌, List, [], ◌∷◌, ◌++◌, length, get_or, take, append_assoc, ap, sym, ◌∙◌, Result, Ok, Err, IfOk}
use Rattle.std.specs.List.{flat_map}
use Rattle.std.proofs.lemmas.List.{take_more, append-nil}
use Rattle.std.proofs.lemmas.List.Concat.{flat_map-append}

flat_more : {X : Type 0} (f : X → List ℕ) (xs : List X) (i : ℕ) (x : X) → i < length xs → x ≡ get_or xs i x → flat_map f (take (i + 1) xs) ≡ flat_map f (take i xs) ++ f x
flat_more f xs i x h e =
    ap (λ ys. flat_map f ys) (take_more xs i x h)
    ∙ flat_map-append f (take i xs) (get_or xs i x ∷ [])
    ∙ ap (λ ys. flat_map f (take i xs) ++ ys) (append-nil (f (get_or xs i x)) ∙ ap f (sym e))

-- one piece more
pub piece_more : {X : Type 0} (f : X → List ℕ) (old text later : List ℕ) (xs : List X) (i : ℕ) (x : X) → i < length xs → x ≡ get_or xs i x → text ≡ old ++ flat_map f (take i xs)
    → later ≡ text ++ f x → later ≡ old ++ flat_map f (take (i + 1) xs)
piece_more f old text later xs i x h is so more =
    more ∙ ap (λ t. t ++ f x) so ∙ append_assoc old (flat_map f (take i xs)) (f x) ∙ ap (λ ys. old ++ ys) (sym (flat_more f xs i x h is))

-- three pieces were appended, the last of them if that went well
pub last_of_three : {T E : Type 0} (r : Result T E) (t0 t1 t2 t3 x y z w : List ℕ) → t1 ≡ t0 ++ x → t2 ≡ t1 ++ y → w ≡ z → IfOk r (λ _. t3 ≡ t2 ++ w) → IfOk r (λ _. t3 ≡ t0 ++ (x ++ y ++ z))
last_of_three (Err e) t0 t1 t2 t3 x y z w a b d c = tt
last_of_three (Ok u) t0 t1 t2 t3 x y z w a b d c =
    c
    ∙ ap (λ t. t ++ w) b
    ∙ ap (λ t. t ++ y ++ w) a
    ∙ append_assoc (t0 ++ x) y w
    ∙ append_assoc t0 x (y ++ w)
    ∙ ap (λ t. t0 ++ t) (sym (append_assoc x y w))
    ∙ ap (λ t. t0 ++ (x ++ y ++ t)) d
