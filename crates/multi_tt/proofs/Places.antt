-- The translator of a port of a hub that has one for each, where one of them changes, and where all work.
use Rattle.std.proofs.Common.{◌≡◌, ◌≢◌, ℕ, zero, suc, ◌-◌, ◌≤◌, Bool, true, false, List, [], ◌∷◌, get_or, slice_get, slice_set, Option, Some, None, refl, sym, ◌∙◌, ap, subst, arith}
use Rattle.std.specs.Prelude.{nat_le, if◌then◌else◌}
use Rattle.std.specs.Option.{option_and_then}
use Rattle.std.proofs.lemmas.Bool.{leb-true, ltb-true, le-leb, cases_Bool}
use Rattle.std.proofs.lemmas.Option.{none-some, same_Some}
use Rattle.multi_tt.specs.Translators.{Translator, Translators, place_of, translator_at, put_if, changed_place, changed_at}
use Rattle.multi_tt.specs.Single.{Heard, silence, worked_by}
use Rattle.multi_tt.specs.Calls.{all_worked}

set_here : (xs : List Translator) (i : ℕ) (x y : Translator) → slice_get xs i ≡ Some x → slice_get (slice_set xs i y) i ≡ Some y
set_here [] zero x y h = absurd cc
set_here [] (suc i) x y h = absurd cc
set_here (z ∷ xs) zero x y h = refl
set_here (z ∷ xs) (suc i) x y h = set_here xs i x y h

set_beside : (xs : List Translator) (i j : ℕ) (y : Translator) → i ≢ j → slice_get (slice_set xs i y) j ≡ slice_get xs j
set_beside [] zero j y differs = refl
set_beside [] (suc i) j y differs = refl
set_beside (z ∷ xs) zero zero y differs = absurd (differs refl)
set_beside (z ∷ xs) zero (suc j) y differs = refl
set_beside (z ∷ xs) (suc i) zero y differs = refl
set_beside (z ∷ xs) (suc i) (suc j) y differs = set_beside xs i j y (λ same. differs (ap suc same))

-- where a port has one
pub record IsThere (port : ℕ) (all : List Translator) (t : Translator) : Type 0 where
  pub from_one : 1 ≤ port
  pub here : slice_get all (port - 1) ≡ Some t

there_by : (b : Bool) (port : ℕ) (all : List Translator) (t : Translator) → nat_le 1 port ≡ b
    → option_and_then (λ place. slice_get all place) (if b then Some (port - 1) else None) ≡ Some t → IsThere port all t
there_by true port all t le is = record { from_one = leb-true _ _ le; here = is }
there_by false port all t le is = absurd (none-some t is)

pub is_there : (port : ℕ) (ts : Translators) (t : Translator) → ts.multi ≡ true → translator_at port ts ≡ Some t → IsThere port ts.all t
is_there port ts t multi is =
    there_by (nat_le 1 port) port ts.all t refl
    (subst (λ (b : Bool). option_and_then (λ place. slice_get ts.all place) (place_of b port) ≡ Some t) multi is)

-- and back
pub found : (port : ℕ) (ts : Translators) (t : Translator) → ts.multi ≡ true → 1 ≤ port → slice_get ts.all (port - 1) ≡ Some t
    → translator_at port ts ≡ Some t
found port ts t multi low is =
    ap (λ (b : Bool). option_and_then (λ place. slice_get ts.all place) (place_of b port)) multi
    ∙ ap (λ (b : Bool). option_and_then (λ place. slice_get ts.all place) (if b then Some (port - 1) else None)) (le-leb 1 port low)
    ∙ is

-- ---- one of them changes

put_same : (o : Option Translator) (i : ℕ) (f : Translator → Translator) (all : List Translator) (t : Translator) → slice_get all i ≡ o
    → o ≡ Some t → slice_get (put_if o i f all) i ≡ Some (f t)
put_same None i f all t here is = absurd (none-some t is)
put_same (Some x) i f all t here is = set_here all i x (f x) here ∙ ap (λ (y : Translator). Some (f y)) (same_Some x t is)

put_other : (o : Option Translator) (i j : ℕ) (f : Translator → Translator) (all : List Translator) → i ≢ j
    → slice_get (put_if o i f all) j ≡ slice_get all j
put_other None i j f all differs = refl
put_other (Some x) i j f all differs = set_beside all i j (f x) differs

changed_by : (b : Bool) (i j : ℕ) (f : Translator → Translator) (all : List Translator) → (b ≡ true → i ≢ j)
    → slice_get (changed_place (if b then Some i else None) f all) j ≡ slice_get all j
changed_by true i j f all differs = put_other (slice_get all i) i j f all (differs refl)
changed_by false i j f all differs = refl

pub changed_here : (port : ℕ) (f : Translator → Translator) (ts : Translators) (t : Translator) → ts.multi ≡ true
    → translator_at port ts ≡ Some t → translator_at port (changed_at port f ts) ≡ Some (f t)
changed_here port f ts t multi is =
    let k = is_there port ts t multi is in
    found port (changed_at port f ts) (f t) multi k.from_one
    (ap (λ (b : Bool). slice_get (changed_place (place_of b port) f ts.all) (port - 1)) multi
    ∙ ap (λ (b : Bool). slice_get (changed_place (if b then Some (port - 1) else None) f ts.all) (port - 1)) (le-leb 1 port k.from_one)
    ∙ put_same (slice_get ts.all (port - 1)) (port - 1) f ts.all t refl k.here)

pub changed_beside : (port q : ℕ) (f : Translator → Translator) (ts : Translators) (t : Translator) → ts.multi ≡ true
    → translator_at port ts ≡ Some t → q ≢ port → translator_at port (changed_at q f ts) ≡ Some t
changed_beside port q f ts t multi is differs =
    let k = is_there port ts t multi is in
    found port (changed_at q f ts) t multi k.from_one
    (ap (λ (b : Bool). slice_get (changed_place (place_of b q) f ts.all) (port - 1)) multi
    ∙ changed_by (nat_le 1 q) (q - 1) (port - 1) f ts.all (λ low same. differs (apart q port (leb-true 1 q low) k.from_one same))
    ∙ k.here)
  where
    apart : (q port : ℕ) → 1 ≤ q → 1 ≤ port → q - 1 ≡ port - 1 → q ≡ port
    apart q port a b e = omega arith

-- ---- all work

worked_place : (frindex : ℕ) (heard : List Heard) (ts : List Translator) (i : ℕ) (t : Translator) → slice_get ts i ≡ Some t
    → slice_get (all_worked frindex heard ts) i ≡ Some (worked_by frindex (get_or heard i silence) t)
worked_place frindex heard [] i t is = absurd (none-some t is)
worked_place frindex [] (x ∷ ts) zero t is = ap (λ (y : Translator). Some (worked_by frindex silence y)) (same_Some x t is)
worked_place frindex (h ∷ hs) (x ∷ ts) zero t is = ap (λ (y : Translator). Some (worked_by frindex h y)) (same_Some x t is)
worked_place frindex [] (x ∷ ts) (suc i) t is = worked_place frindex [] ts i t is
worked_place frindex (h ∷ hs) (x ∷ ts) (suc i) t is = worked_place frindex hs ts i t is

pub worked_here : (port frindex : ℕ) (heard : List Heard) (ts : Translators) (t : Translator) → ts.multi ≡ true
    → translator_at port ts ≡ Some t
    → translator_at port (record ts { all = all_worked frindex heard ts.all }) ≡ Some (worked_by frindex (get_or heard (port - 1) silence) t)
worked_here port frindex heard ts t multi is =
    let k = is_there port ts t multi is in
    found port (record ts { all = all_worked frindex heard ts.all }) _ multi k.from_one (worked_place frindex heard ts.all (port - 1) t k.here)
