-- A number of a line that fits a form is in the range of its slot.
use Rattle.std.proofs.Common.{◌≡◌, ℕ, zero, suc, ◌≤◌, true, false, List, [], ◌∷◌, length, Option, Some, None, Result, Ok, Err, subst, arith}
use Rattle.std.specs.Prelude.{if◌then◌else◌, nat_lt, nat_le, ◌==◌, ◌&&◌, slice_get, unwrap_or}
use Rattle.std.specs.List.{fold}
use Rattle.std.specs.Option.{option_map_or}
use Rattle.std.proofs.lemmas.Bool.{cond_both, and_parts, eqb-true, leb-true}
use Rattle.script_forms.specs.declared.table.FirstWord.{FirstWord}
use Rattle.script_forms.specs.declared.table.Form.{Form}
use Rattle.script_forms.specs.declared.table.Slot.{Slot}
use Rattle.script_forms.specs.declared.table.Slot.TheVariants.{Number}
use Rattle.script_forms.specs.declared.causes.TextWhy.{TextWhy}
use Rattle.script_forms.specs.declared.fitting.Mark.{Mark}
use Rattle.script_forms.specs.Table.{slots_of, forms_of}
use Rattle.script_forms.specs.Syntax.{number_of}
use Rattle.script_forms.specs.Fitting.{is_ranged, all_ranged, marked, further, worse, joined, held, verdict, form_of}
use Rattle.script_forms.specs.Values.{number_at}

-- the words have the form's ranges, and its number of slots
pub record IsRanged (form : Form) (ws : List (List ℕ)) : Type 0 where
  pub ranged : all_ranged (slots_of form) ws ≡ true
  pub long : length (slots_of form) ≡ length ws

abbrev HasLength : List (List ℕ) → Option Mark → Type 0
HasLength ws None = Unit {0}
HasLength ws (Some m) = length (slots_of m.form) ≡ length ws

further_long : (ws : List (List ℕ)) (m n : Mark) → HasLength ws (Some m) → HasLength ws (Some n) → HasLength ws (Some (further m n))
further_long ws m n h k =
    cond_both (nat_lt m.at n.at) n (if nat_lt n.at m.at then m else record m { why = worse m.why n.why }) (λ x. HasLength ws (Some x)) (λ _. k)
    (λ _. cond_both (nat_lt n.at m.at) m (record m { why = worse m.why n.why }) (λ x. HasLength ws (Some x)) (λ _. h) (λ _. h))

joined_long : (ws : List (List ℕ)) (best : Option Mark) (m : Mark) → HasLength ws best → HasLength ws (Some m) → HasLength ws (joined best m)
joined_long ws None m h k = k
joined_long ws (Some best) m h k = further_long ws best m h k

held_long : (ws : List (List ℕ)) (best : Option Mark) (form : Form) → HasLength ws best → HasLength ws (held ws best form)
held_long ws best form h =
    cond_both (length (slots_of form) == length ws) (joined best (marked form ws)) best (HasLength ws)
    (λ e. joined_long ws best (marked form ws) h (eqb-true (length (slots_of form)) (length ws) e))
    (λ _. h)

folded_long : (ws : List (List ℕ)) (best : Option Mark) (forms : List Form) → HasLength ws best → HasLength ws (fold (held ws) best forms)
folded_long ws best [] h = h
folded_long ws best (form ∷ forms) h = folded_long ws (held ws best form) forms (held_long ws best form h)

abbrev IsRangedIf : List (List ℕ) → Result Form TextWhy → Type 0
IsRangedIf ws (Ok form) = IsRanged form ws
IsRangedIf ws (Err why) = Unit {0}

verdict_ranged : (ws : List (List ℕ)) (best : Option Mark) → HasLength ws best → IsRangedIf ws (verdict ws best)
verdict_ranged ws None h = tt
verdict_ranged ws (Some m) h =
    cond_both (m.at == length ws) (if all_ranged (slots_of m.form) ws then Ok m.form else Err _) (Err m.why) (IsRangedIf ws)
    (λ _. cond_both (all_ranged (slots_of m.form) ws) (Ok m.form) (Err _) (IsRangedIf ws) (λ e. record { ranged = e; long = h }) (λ _. tt))
    (λ _. tt)

pub form_ranged : (version : ℕ) (first : FirstWord) (ws : List (List ℕ)) → IsRangedIf ws (form_of version first ws)
unfolding form_of
form_ranged version first ws =
    verdict_ranged ws (fold (held ws) None (forms_of version first)) (folded_long ws None (forms_of version first) tt)

pub form_is_ranged : (version : ℕ) (first : FirstWord) (ws : List (List ℕ)) (form : Form) → form_of version first ws ≡ Ok form
    → IsRanged form ws
form_is_ranged version first ws form e = subst (IsRangedIf ws) e (form_ranged version first ws)

-- ---- the number in a slot

number_within : (low high : ℕ) (n : Option ℕ) → option_map_or (λ k. nat_le low k && nat_le k high) n false ≡ true → (low ≤ unwrap_or n 0) × (unwrap_or n 0 ≤ high)
number_within low high None e = cc
number_within low high (Some n) e =
    let p = and_parts (nat_le low n) (nat_le n high) e in
    (leb-true low n p.0, leb-true n high p.1)

pub number_in : (ss : List Slot) (ws : List (List ℕ)) (i low high : ℕ) → all_ranged ss ws ≡ true → length ss ≡ length ws → slice_get ss i ≡ Some (Number low high)
    → (low ≤ number_at i ws) × (number_at i ws ≤ high)
number_in [] ws i low high r long e = cc
number_in (s ∷ ss) [] i low high r long e = cc
number_in (s ∷ ss) (w ∷ ws) zero low high r long e =
    let p = and_parts (is_ranged s w) (all_ranged ss ws) r in
    let is : s ≡ Number low high = cc in
    number_within low high (number_of w) (subst (λ x. is_ranged x w ≡ true) is p.0)
number_in (s ∷ ss) (w ∷ ws) (suc i) low high r long e =
    let p = and_parts (is_ranged s w) (all_ranged ss ws) r in
    number_in ss ws i low high p.1 (omega (arith, long)) e
