-- No words are those of two forms of one first word.
use Rattle.std.proofs.Common.{◌≡◌, ℕ, Bool, true, false, ◌==◌, ◌||◌, List, [], ◌∷◌, refl, ap, sym, ◌∙◌, subst, inl, inr}
use Rattle.std.specs.List.{AllZip, list_all}
use Rattle.std.specs.Fmt.{digits}
use Rattle.std.proofs.lemmas.Bool.{and_parts, or_cases, not-true, both_ways}
use Rattle.script_forms.specs.declared.table.FirstWord.{FirstWord}
use Rattle.script_forms.specs.declared.table.FirstWord.TheVariants as F
use Rattle.script_forms.specs.declared.table.Form.{Form}
use Rattle.script_forms.specs.declared.table.Slot.{Slot}
use Rattle.script_forms.specs.declared.table.Slot.TheVariants.{Key}
use Rattle.script_forms.specs.Table.{keyword_word, slots_of, hub_forms, forms_of}
use Rattle.script_forms.specs.Syntax.{number_of, hex_of}
use Rattle.script_forms.specs.Fitting.{fits}
use Rattle.law_scripts.specs.script_spelling.Spelling.{Among}
use Rattle.law_scripts.proofs.lemmas.script_spelling.Apart.{is_apart, differ, all_differ}
use Rattle.law_scripts.proofs.lemmas.script_spelling.Standing.{Fits, is_word}

-- what fits a keyword's slot doesn't fit one that is apart
apart_fit : (s t : Slot) (w : List ℕ) → is_apart s t ≡ true → fits s w ≡ true → fits t w ≡ true → ⊥
apart_fit (Key k) t w a h g =
    let no : fits t (keyword_word k) ≡ false = not-true (fits t (keyword_word k)) a in
    let yes : fits t (keyword_word k) ≡ true = ap (fits t) (sym (is_word w (keyword_word k) h)) ∙ g in
    both_ways (fits t (keyword_word k)) no yes
apart_fit _ t w a h g = cc

differ_fit : (ss ts : List Slot) (ws : List (List ℕ)) → differ ss ts ≡ true → AllZip Fits ss ws → AllZip Fits ts ws → ⊥
differ_fit [] [] ws d h g = cc
differ_fit [] (t ∷ ts) [] d h g = g
differ_fit [] (t ∷ ts) (w ∷ ws) d h g = h
differ_fit (s ∷ ss) [] [] d h g = h
differ_fit (s ∷ ss) [] (w ∷ ws) d h g = g
differ_fit (s ∷ ss) (t ∷ ts) [] d h g = h
differ_fit (s ∷ ss) (t ∷ ts) (w ∷ ws) d h g = elim (or_cases (is_apart s t || is_apart t s) (differ ss ts) d) [
  | inl a ↦ elim (or_cases (is_apart s t) (is_apart t s) a) [
    | inl x ↦ apart_fit s t w x h.0 g.0
    | inr x ↦ apart_fit t s w x g.0 h.0
  ]
  | inr r ↦ differ_fit ss ts ws r h.1 g.1
]

with_later : (f g : Form) (fs : List Form) (ws : List (List ℕ)) → list_all (λ g. differ (slots_of f) (slots_of g)) fs ≡ true → Among g fs → AllZip Fits (slots_of f) ws → AllZip Fits (slots_of g) ws → ⊥
with_later f g [] ws d a h k = a
with_later f g (x ∷ xs) ws d (inl e) h k = let p = and_parts (differ (slots_of f) (slots_of x)) (list_all (λ g. differ (slots_of f) (slots_of g)) xs) d in
    differ_fit (slots_of f) (slots_of x) ws p.0 h (subst (λ y. AllZip Fits (slots_of y) ws) e k)
with_later f g (x ∷ xs) ws d (inr a) h k = let p = and_parts (differ (slots_of f) (slots_of x)) (list_all (λ g. differ (slots_of f) (slots_of g)) xs) d in with_later f g xs ws p.1 a h k

one_of : (f g : Form) (fs : List Form) (ws : List (List ℕ)) → all_differ fs ≡ true → Among f fs → Among g fs → AllZip Fits (slots_of f) ws → AllZip Fits (slots_of g) ws → f ≡ g
one_of f g [] ws d a b h k = absurd a
one_of f g (x ∷ xs) ws d (inl e) (inl i) h k = e ∙ sym i
one_of f g (x ∷ xs) ws d (inl e) (inr b) h k = let p = and_parts (list_all (λ g. differ (slots_of x) (slots_of g)) xs) (all_differ xs) d in
    absurd (with_later x g xs ws p.0 b (subst (λ y. AllZip Fits (slots_of y) ws) e h) k)
one_of f g (x ∷ xs) ws d (inr a) (inl i) h k = let p = and_parts (list_all (λ g. differ (slots_of x) (slots_of g)) xs) (all_differ xs) d in
    absurd (with_later x f xs ws p.0 a (subst (λ y. AllZip Fits (slots_of y) ws) i k) h)
one_of f g (x ∷ xs) ws d (inr a) (inr b) h k = let p = and_parts (list_all (λ g. differ (slots_of x) (slots_of g)) xs) (all_differ xs) d in one_of f g xs ws p.1 a b h k

-- the table's forms differ
hubs_differ : (second : Bool) → all_differ (hub_forms second) ≡ true
unfolding number_of hex_of digits
hubs_differ false = refl
hubs_differ true = refl

table_differs : (version : ℕ) (first : FirstWord) → all_differ (forms_of version first) ≡ true
unfolding number_of hex_of digits
table_differs version F.Hub = hubs_differ (version == 2)
table_differs version _ = refl

pub one_form : (version : ℕ) (first : FirstWord) (f g : Form) (ws : List (List ℕ)) → Among f (forms_of version first)
    → Among g (forms_of version first) → AllZip Fits (slots_of f) ws → AllZip Fits (slots_of g) ws → f ≡ g
one_form version first f g ws a b h k = one_of f g (forms_of version first) ws (table_differs version first) a b h k
