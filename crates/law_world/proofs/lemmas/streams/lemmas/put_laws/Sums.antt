-- The puts of transfers, by the endpoints of these alone.
use Rattle.std.proofs.Common.{◌≡◌, ◌≢◌, ℕ, suc, ◌+◌, ◌<◌, ◌≤◌, ◌==◌, Bool, true, false, List, [], ◌∷◌, ◌++◌, length, map, ap, refl, ◌∙◌, arith}
use Rattle.std.specs.Prelude.{if◌then◌else◌}
use Rattle.std.specs.List.{AllByRecursion}
use Rattle.std.proofs.lemmas.Bool.{eq-eqb, eqb-true}
use Rattle.drv_table.specs.declared.content.Transfer.{Transfer}
use Rattle.law_world.specs.streams.put_laws.TakenPuts.{puts_from}
use Rattle.law_world.proofs.lemmas.streams.lemmas.put_laws.Stays.{owner_at}

pub puts_in : (ℕ → List ℕ) → ℕ → ℕ → List ℕ → List (List ℕ)
puts_in puts e n [] = []
puts_in puts e n (o ∷ os) = if o == e then puts n ∷ puts_in puts e (suc n) os else puts_in puts e (suc n) os

pub by_owners : (puts : ℕ → List ℕ) (e n : ℕ) (ys : List Transfer) → puts_from puts e n ys ≡ puts_in puts e n (map owner_at ys)
unfolding puts_in
by_owners puts e n [] = refl
by_owners puts e n (y ∷ ys) = ap (λ (rest : List (List ℕ)). if y.endpoint == e then puts n ∷ rest else rest) (by_owners puts e (suc n) ys)

if_join : (b : Bool) (x : List ℕ) (xs ys : List (List ℕ)) → (if b then x ∷ (xs ++ ys) else (xs ++ ys)) ≡ (if b then x ∷ xs else xs) ++ ys
if_join true x xs ys = refl
if_join false x xs ys = refl

pub puts_join : (puts : ℕ → List ℕ) (e n : ℕ) (os ps : List ℕ) → puts_in puts e n (os ++ ps) ≡ puts_in puts e n os ++ puts_in puts e (n + length os) ps
unfolding puts_in
puts_join puts e n [] ps = let same : n ≡ n + 0 = omega arith in ap (λ (k : ℕ). puts_in puts e k ps) same
puts_join puts e n (o ∷ os) ps =
    let same : suc n + length os ≡ n + suc (length os) = omega arith in
    ap (λ (rest : List (List ℕ)). if o == e then puts n ∷ rest else rest) (puts_join puts e (suc n) os ps ∙ ap (λ (k : ℕ). puts_in puts e (suc n) os ++ puts_in puts e k ps) same)
    ∙ if_join (o == e) (puts n) (puts_in puts e (suc n) os) (puts_in puts e (n + suc (length os)) ps)

-- other puts with the same bytes
pub puts_alike : (puts now : ℕ → List ℕ) (e n : ℕ) (os : List ℕ) → ((t : ℕ) → n ≤ t → t < n + length os → now t ≡ puts t) → puts_in now e n os ≡ puts_in puts e n os
unfolding puts_in
puts_alike puts now e n [] same = refl
puts_alike puts now e n (o ∷ os) same =
    ap (λ (x : List ℕ). if o == e then x ∷ puts_in now e (suc n) os else puts_in now e (suc n) os) (same n (omega arith) (omega arith))
    ∙ ap (λ (rest : List (List ℕ)). if o == e then puts n ∷ rest else rest) (puts_alike puts now e (suc n) os (λ t low high. same t (omega (arith, low)) (omega (arith, high))))

not_there : (o e : ℕ) (x : List ℕ) (xs : List (List ℕ)) (b : Bool) → (o == e) ≡ b → o ≢ e → (if b then x ∷ xs else xs) ≡ xs
not_there o e x xs true is differs = absurd (differs (eqb-true o e is))
not_there o e x xs false is differs = refl

pub puts_none : (puts : ℕ → List ℕ) (e n : ℕ) (os : List ℕ) → AllByRecursion (λ o. o ≢ e) os → puts_in puts e n os ≡ []
unfolding puts_in
puts_none puts e n [] none = refl
puts_none puts e n (o ∷ os) none =
    not_there o e (puts n) (puts_in puts e (suc n) os) (o == e) refl none.0 ∙ puts_none puts e (suc n) os none.1

pub puts_one : (puts : ℕ → List ℕ) (e n : ℕ) → puts_in puts e n (e ∷ []) ≡ puts n ∷ []
unfolding puts_in
puts_one puts e n = ap (λ (b : Bool). if b then puts n ∷ [] else []) (eq-eqb e e refl)
