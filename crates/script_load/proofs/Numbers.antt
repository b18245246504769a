-- Draws one after the other.
use Rattle.std.proofs.Common.{◌≡◌, ℕ, suc, ◌/◌, List, [], ◌∷◌, ◌++◌, refl, sym, ap, ◌∙◌, append_assoc, ◌+◌, ◌-◌, ◌<◌, ◌≤◌, arith}
use Rattle.std.proofs.lemmas.List.{append-nil}
use Rattle.script_load.specs.Load.{drawn, draws}

first : (x m : ℕ) → draws x (suc m) ≡ drawn x / 65536 ∷ draws (drawn x) m
unfolding draws
first x m = refl

-- one draw more is made
pub one_draw : (items : List ℕ) (x n m : ℕ) → n ≡ suc m → (items ++ drawn x / 65536 ∷ []) ++ draws (drawn x) m ≡ items ++ draws x n
one_draw items x n m e =
    append_assoc items (drawn x / 65536 ∷ []) (draws (drawn x) m)
    ∙ ap (λ xs. items ++ xs) (sym (first x m) ∙ ap (draws x) (sym e))

-- the draw at place k of 90
pub next_drawn : (n x y k d : ℕ) (items more : List ℕ) → k < 90 → y ≡ drawn x → d ≡ y / 65536 → more ≡ items ++ d ∷ [] → items ++ draws x (90 - k) ≡ draws n 90 → more ++ draws y (90 - (k + 1)) ≡ draws n 90
next_drawn n x y k d items more le is half e h =
    let left : 90 - k ≡ suc (90 - (k + 1)) = omega arith in
    let half_of : d ≡ drawn x / 65536 = half ∙ ap (λ z. z / 65536) is in
    ap (λ xs. xs ++ draws y (90 - (k + 1))) (e ∙ ap (λ z. items ++ z ∷ []) half_of)
    ∙ ap (λ z. (items ++ drawn x / 65536 ∷ []) ++ draws z (90 - (k + 1))) is
    ∙ one_draw items x (90 - k) (90 - (k + 1)) left
    ∙ h

none_left : (x m : ℕ) → m ≡ 0 → draws x m ≡ []
unfolding draws
none_left x m e = ap (draws x) e

-- all 90
pub all_drawn : (n x k : ℕ) (items : List ℕ) → 90 ≤ k → items ++ draws x (90 - k) ≡ draws n 90 → items ≡ draws n 90
all_drawn n x k items le h =
    let none : 90 - k ≡ 0 = omega arith in
    sym (append-nil items) ∙ ap (λ xs. items ++ xs) (sym (none_left x (90 - k) none)) ∙ h
