-- The furthest form of a first word is the one that the words spell, if they spell one.
use Rattle.std.proofs.Common.{◌≡◌, ℕ, ◌<◌, ◌≤◌, true, ◌==◌, nat_lt, List, [], ◌∷◌, length, Option, Some, None, Ok, arith, refl, ap, sym, ◌∙◌, subst, inl, inr}
use Rattle.std.specs.List.{AllZip, fold}
use Rattle.std.proofs.lemmas.Bool.{cases_Bool, eqb-true, eq-eqb, ltb-true, ltb-false}
use Rattle.script_forms.specs.declared.table.FirstWord.{FirstWord}
use Rattle.script_forms.specs.declared.table.Form.{Form}
use Rattle.script_forms.specs.declared.table.Slot.{Slot}
use Rattle.script_forms.specs.declared.fitting.Mark.{Mark}
use Rattle.script_forms.specs.Table.{slots_of, forms_of}
use Rattle.script_forms.specs.Fitting.{fits, reach, all_ranged, marked, further, joined, held, verdict, form_of}
use Rattle.law_scripts.specs.script_spelling.Spelling.{Stands, Among, IsForm}
use Rattle.law_scripts.proofs.lemmas.script_spelling.Standing.{all_stand, all_reach, all_in_range, all_fit, stand_fit}
use Rattle.law_scripts.proofs.lemmas.script_spelling.Ambiguity.{one_form}

-- a mark of one of these forms
pub record Marks (fs : List Form) (ws : List (List ℕ)) (m : Mark) : Type 0 where
  pub among : Among m.form fs
  pub reached : m.at ≡ reach (slots_of m.form) ws
  pub count : length (slots_of m.form) ≡ length ws

-- the best mark is one of these, if there is any
abbrev BestOf : List Form → List (List ℕ) → Option Mark → Type 0
BestOf fs ws None = Unit {0}
BestOf fs ws (Some m) = Marks fs ws m

-- the best mark is as far as n
abbrev AsFar : ℕ → Option Mark → Type 0
AsFar n None = ⊥
AsFar n (Some m) = n ≤ m.at

further_marks : (fs : List Form) (ws : List (List ℕ)) (m n : Mark) → Marks fs ws m → Marks fs ws n → Marks fs ws (further m n)
further_marks fs ws m n h k = elim (cases_Bool (nat_lt m.at n.at)) [
  | inl e ↦ rw e k
  | inr e ↦ elim (cases_Bool (nat_lt n.at m.at)) [
    | inl f ↦ rw (e, f) h
    | inr f ↦ rw (e, f) (record { among = h.among; reached = h.reached; count = h.count })
  ]
]

further_far : (m n : Mark) → (m.at ≤ (further m n).at) × (n.at ≤ (further m n).at)
further_far m n = elim (cases_Bool (nat_lt m.at n.at)) [
  | inl e ↦ let l : m.at < n.at = ltb-true _ _ e in rw e (omega arith, omega arith)
  | inr e ↦ let l : n.at ≤ m.at = ltb-false _ _ e in elim (cases_Bool (nat_lt n.at m.at)) [
    | inl f ↦ rw (e, f) (omega arith, omega arith)
    | inr f ↦ rw (e, f) (omega arith, omega arith)
  ]
]

joined_best : (fs : List Form) (ws : List (List ℕ)) (best : Option Mark) (m : Mark) → BestOf fs ws best → Marks fs ws m → BestOf fs ws (joined best m)
joined_best fs ws None m h k = k
joined_best fs ws (Some b) m h k = further_marks fs ws b m h k

joined_new : (best : Option Mark) (m : Mark) → AsFar m.at (joined best m)
joined_new None m = omega arith
joined_new (Some b) m = (further_far b m).1

joined_old : (n : ℕ) (best : Option Mark) (m : Mark) → AsFar n best → AsFar n (joined best m)
joined_old n None m h = absurd h
joined_old n (Some b) m h = let k = (further_far b m).0 in omega (arith, k, h)

held_best : (fs : List Form) (ws : List (List ℕ)) (best : Option Mark) (f : Form) → Among f fs → BestOf fs ws best → BestOf fs ws (held ws best f)
held_best fs ws best f a h = elim (cases_Bool (length (slots_of f) == length ws)) [
  | inl e ↦ rw e (joined_best fs ws best (marked f ws) h (record { among = a; reached = refl; count = eqb-true _ _ e }))
  | inr e ↦ rw e h
]

held_old : (n : ℕ) (ws : List (List ℕ)) (best : Option Mark) (f : Form) → AsFar n best → AsFar n (held ws best f)
held_old n ws best f h = elim (cases_Bool (length (slots_of f) == length ws)) [
  | inl e ↦ rw e (joined_old n best (marked f ws) h)
  | inr e ↦ rw e h
]

held_new : (ws : List (List ℕ)) (best : Option Mark) (f : Form) → length (slots_of f) ≡ length ws → AsFar (reach (slots_of f) ws) (held ws best f)
held_new ws best f l = rw (eq-eqb (length (slots_of f)) (length ws) l) (joined_new best (marked f ws))

-- all of a list's forms are among those of another
abbrev Within : List Form → List Form → Type 0
Within gs fs = (f : Form) → Among f gs → Among f fs

fold_best : (fs gs : List Form) (ws : List (List ℕ)) (best : Option Mark) → Within gs fs → BestOf fs ws best → BestOf fs ws (fold (held ws) best gs)
fold_best fs [] ws best w h = h
fold_best fs (g ∷ gs) ws best w h = fold_best fs gs ws (held ws best g) (λ f a. w f (inr a)) (held_best fs ws best g (w g (inl refl)) h)

fold_old : (n : ℕ) (gs : List Form) (ws : List (List ℕ)) (best : Option Mark) → AsFar n best → AsFar n (fold (held ws) best gs)
fold_old n [] ws best h = h
fold_old n (g ∷ gs) ws best h = fold_old n gs ws (held ws best g) (held_old n ws best g h)

fold_new : (f : Form) (gs : List Form) (ws : List (List ℕ)) (best : Option Mark) → Among f gs → length (slots_of f) ≡ length ws → AsFar (reach (slots_of f) ws) (fold (held ws) best gs)
fold_new f [] ws best a l = absurd a
fold_new f (g ∷ gs) ws best (inl e) l =
    let l2 : length (slots_of g) ≡ length ws = ap (λ x. length (slots_of x)) (sym e) ∙ l in
    subst (λ x. AsFar (reach (slots_of x) ws) (fold (held ws) (held ws best g) gs)) (sym e) (fold_old (reach (slots_of g) ws) gs ws (held ws best g) (held_new ws best g l2))
fold_new f (g ∷ gs) ws best (inr a) l = fold_new f gs ws (held ws best g) a l

reach_short : (ss : List Slot) (ws : List (List ℕ)) → reach ss ws ≤ length ws
reach_short [] ws = omega arith
reach_short (s ∷ ss) [] = omega arith
reach_short (s ∷ ss) (w ∷ ws) = elim (cases_Bool (fits s w)) [
  | inl e ↦ rw e (let r = reach_short ss ws in omega (arith, r))
  | inr e ↦ rw e (omega arith)
]

ok_verdict : (fs : List Form) (ws : List (List ℕ)) (best : Option Mark) (f : Form) → BestOf fs ws best → verdict ws best ≡ Ok f → Among f fs × AllZip Stands (slots_of f) ws
ok_verdict fs ws None f h e = cc
ok_verdict fs ws (Some m) f h e = elim (cases_Bool (m.at == length ws)) [
  | inl a ↦ elim (cases_Bool (all_ranged (slots_of m.form) ws)) [
    | inl r ↦ let k = rw (a, r) at e in let s : m.form ≡ f = cc in
        let full : reach (slots_of m.form) ws ≡ length ws = sym h.reached ∙ eqb-true _ _ a in
        subst (λ x. Among x fs × AllZip Stands (slots_of x) ws) s (h.among, all_stand (slots_of m.form) ws h.count full r)
    | inr r ↦ let k = rw (a, r) at e in cc
  ]
  | inr a ↦ let k = rw a at e in cc
]

full_verdict : (ws : List (List ℕ)) (m : Mark) → m.at ≡ length ws → all_ranged (slots_of m.form) ws ≡ true → verdict ws (Some m) ≡ Ok m.form
full_verdict ws m a r = rw (eq-eqb m.at (length ws) a, r) refl

-- the words that are read as a form are spelled by it
pub read_is_form : (version : ℕ) (first : FirstWord) (ws : List (List ℕ)) (f : Form) → form_of version first ws ≡ Ok f
    → IsForm version first f ws
unfolding form_of
read_is_form version first ws f e =
    let fs = forms_of version first in
    ok_verdict fs ws (fold (held ws) None fs) f (fold_best fs fs ws None (λ g a. a) tt) e

best_is : (version : ℕ) (first : FirstWord) (ws : List (List ℕ)) (f : Form) (best : Option Mark)
    → BestOf (forms_of version first) ws best → AsFar (reach (slots_of f) ws) best → IsForm version first f ws → verdict ws best ≡ Ok f
best_is version first ws f None h a (b, z) = absurd a
best_is version first ws f (Some m) h a (b, z) =
    let r = all_reach (slots_of f) ws z in
    let s = reach_short (slots_of m.form) ws in
    let full : m.at ≡ length ws = omega (arith, r.1, a, s, h.reached) in
    let reached : reach (slots_of m.form) ws ≡ length ws = sym h.reached ∙ full in
    let same : m.form ≡ f =
    one_form version first m.form f ws h.among b (all_fit (slots_of m.form) ws h.count reached) (stand_fit (slots_of f) ws z) in
    let ranged : all_ranged (slots_of m.form) ws ≡ true = ap (λ x. all_ranged (slots_of x) ws) same ∙ all_in_range (slots_of f) ws z in
    full_verdict ws m full ranged ∙ ap Ok same

-- the words that a form spells are read as it
pub form_is_read : (version : ℕ) (first : FirstWord) (ws : List (List ℕ)) (f : Form) → IsForm version first f ws
    → form_of version first ws ≡ Ok f
unfolding form_of
form_is_read version first ws f h =
    best_is version first ws f (fold (held ws) None (forms_of version first))
    (fold_best (forms_of version first) (forms_of version first) ws None (λ g a. a) tt)
    (fold_new f (forms_of version first) ws None h.0 (all_reach (slots_of f) ws h.1).0) h
