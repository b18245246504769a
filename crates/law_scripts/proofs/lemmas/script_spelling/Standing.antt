-- A word stands in a slot exactly where it fits and is in its range.
use Rattle.std.proofs.Common.{◌≡◌, ℕ, ◌<◌, suc, Bool, true, false, if◌then◌else◌, ◌==◌, ◌&&◌, ◌||◌, nat_le, List, [], ◌∷◌, length, Option, Some, None, is_some, arith, refl, ap, sym, ◌∙◌, inl, inr}
use Rattle.std.specs.Option.{option_map_or}
use Rattle.std.specs.List.{AllZip}
use Rattle.std.specs.Fmt.{decimal}
use Rattle.std.specs.Str.{bytes_eq}
use Rattle.std.proofs.lemmas.Bool.{and_parts, and_from, or_cases, or_left, or_right, leb-true, le-leb, eqb-true, eq-eqb}
use Rattle.std.proofs.lemmas.Slice.Eq.{bytes_eq-Decides}
use Rattle.script_forms.specs.declared.table.Keyword.TheVariants as K
use Rattle.script_forms.specs.declared.table.Slot.{Slot}
use Rattle.script_forms.specs.declared.table.Slot.TheVariants.{Number, Hex, Setup, Key, Way, Bus, Fate}
use Rattle.script_forms.specs.Table.{keyword_word}
use Rattle.script_forms.specs.Syntax.{number_of, hex_of}
use Rattle.script_forms.specs.Fitting.{fits, is_ranged, all_ranged, reach}
use Rattle.script_forms.proofs.Decimals.{spelled_by, number_of_decimal}
use Rattle.law_scripts.specs.script_spelling.Spelling.{SpellsNumber, SpellsBytes, SpellsSetup, Stands}
use Rattle.law_scripts.proofs.lemmas.script_spelling.Hexes.{hex_spells, hex_reads, eight_bytes, sixteen_digits}

pub is_word : (w v : List ℕ) → bytes_eq w v ≡ true → w ≡ v
is_word w v e = (bytes_eq-Decides w v).0 e

same_word : (w v : List ℕ) → w ≡ v → bytes_eq w v ≡ true
same_word w v e = (bytes_eq-Decides w v).1 e

number_stands : (low high : ℕ) (w : List ℕ) (o : Option ℕ) → number_of w ≡ o → is_some o ≡ true → option_map_or (λ n. nat_le low n && nat_le n high) o false ≡ true → SpellsNumber low high w
number_stands low high w None e s r = cc
number_stands low high w (Some n) e s r = let p = and_parts (nat_le low n) (nat_le n high) r in let d = spelled_by w n e in (n, (leb-true low n p.0, (leb-true n high p.1, (d.0, d.1))))

bytes_stand : (w : List ℕ) (o : Option (List ℕ)) → hex_of w ≡ o → is_some o ≡ true → SpellsBytes w
bytes_stand w None e s = cc
bytes_stand w (Some bs) e s = let r = hex_spells w bs e in (bs, (r.0, r.1))

setup_stands : (w : List ℕ) (o : Option (List ℕ)) → hex_of w ≡ o → is_some o ≡ true → length w ≡ 16 → SpellsSetup w
setup_stands w None e s l = cc
setup_stands w (Some bs) e s l = let r = hex_spells w bs e in (bs, (r.0, (eight_bytes bs (sym (ap length r.1) ∙ l), r.1)))

pub stands_by : (s : Slot) (w : List ℕ) → fits s w ≡ true → is_ranged s w ≡ true → Stands s w
stands_by (Number low high) w f r = number_stands low high w (number_of w) refl f r
stands_by Hex w f r = bytes_stand w (hex_of w) refl f
stands_by Setup w f r = let p = and_parts (length w == 16) (is_some (hex_of w)) f in setup_stands w (hex_of w) refl p.1 (eqb-true (length w) 16 p.0)
stands_by (Key k) w f r = is_word w (keyword_word k) f
stands_by Way w f r = elim (or_cases (bytes_eq w (keyword_word K.In) || bytes_eq w (keyword_word K.Out)) (bytes_eq w (keyword_word K.Ctl)) f) [
  | inl e ↦ elim (or_cases (bytes_eq w (keyword_word K.In)) (bytes_eq w (keyword_word K.Out)) e) [
    | inl i ↦ inl (inl (is_word w (keyword_word K.In) i))
    | inr o ↦ inl (inr (is_word w (keyword_word K.Out) o))
  ]
  | inr c ↦ inr (is_word w (keyword_word K.Ctl) c)
]
stands_by Bus w f r = elim (or_cases (bytes_eq w (keyword_word K.High)) (bytes_eq w (keyword_word K.Down)) f) [
  | inl h ↦ inl (is_word w (keyword_word K.High) h)
  | inr d ↦ inr (is_word w (keyword_word K.Down) d)
]
stands_by Fate w f r = elim (or_cases (bytes_eq w (keyword_word K.Lost)) (bytes_eq w (keyword_word K.Damaged)) f) [
  | inl l ↦ inl (is_word w (keyword_word K.Lost) l)
  | inr d ↦ inr (is_word w (keyword_word K.Damaged) d)
]

some_number : (w : List ℕ) (n : ℕ) → n < 4294967296 → w ≡ decimal n → number_of w ≡ Some n
some_number w n h e = ap number_of e ∙ number_of_decimal n h

some_bytes : (w bs : List ℕ) → SpellsBytes w → is_some (hex_of w) ≡ true
some_bytes w bs (ys, (b, e)) = ap is_some (ap hex_of e ∙ hex_reads ys b)

pub fits_by : (s : Slot) (w : List ℕ) → Stands s w → fits s w ≡ true
fits_by (Number low high) w (n, (l, (h, (b, e)))) = ap is_some (some_number w n b e)
fits_by Hex w h = some_bytes w [] h
fits_by Setup w (bs, (b, (l, e))) = and_from (length w == 16) (is_some (hex_of w)) (eq-eqb (length w) 16 (ap length e ∙ sixteen_digits bs l)) (ap is_some (ap hex_of e ∙ hex_reads bs b))
fits_by (Key k) w e = same_word w (keyword_word k) e
fits_by Way w (inl (inl i)) = or_left (bytes_eq w (keyword_word K.In) || bytes_eq w (keyword_word K.Out)) (bytes_eq w (keyword_word K.Ctl)) (or_left (bytes_eq w (keyword_word K.In)) (bytes_eq w (keyword_word K.Out)) (same_word w (keyword_word K.In) i))
fits_by Way w (inl (inr o)) = or_left (bytes_eq w (keyword_word K.In) || bytes_eq w (keyword_word K.Out)) (bytes_eq w (keyword_word K.Ctl)) (or_right (bytes_eq w (keyword_word K.In)) (bytes_eq w (keyword_word K.Out)) (same_word w (keyword_word K.Out) o))
fits_by Way w (inr c) = or_right (bytes_eq w (keyword_word K.In) || bytes_eq w (keyword_word K.Out)) (bytes_eq w (keyword_word K.Ctl)) (same_word w (keyword_word K.Ctl) c)
fits_by Bus w (inl h) = or_left (bytes_eq w (keyword_word K.High)) (bytes_eq w (keyword_word K.Down)) (same_word w (keyword_word K.High) h)
fits_by Bus w (inr d) = or_right (bytes_eq w (keyword_word K.High)) (bytes_eq w (keyword_word K.Down)) (same_word w (keyword_word K.Down) d)
fits_by Fate w (inl l) = or_left (bytes_eq w (keyword_word K.Lost)) (bytes_eq w (keyword_word K.Damaged)) (same_word w (keyword_word K.Lost) l)
fits_by Fate w (inr d) = or_right (bytes_eq w (keyword_word K.Lost)) (bytes_eq w (keyword_word K.Damaged)) (same_word w (keyword_word K.Damaged) d)

pub ranged_by : (s : Slot) (w : List ℕ) → Stands s w → is_ranged s w ≡ true
ranged_by (Number low high) w (n, (l, (h, (b, e)))) =
    ap (λ o. option_map_or (λ n. nat_le low n && nat_le n high) o false) (some_number w n b e) ∙ and_from (nat_le low n) (nat_le n high) (le-leb low n l) (le-leb n high h)
ranged_by _ w h = refl

cond_reach : (b : Bool) (n m : ℕ) → (if b then n else 0) ≡ m → 0 < m → (b ≡ true) × (n ≡ m)
cond_reach true n m e h = (refl, e)
cond_reach false n m e h = absurd (omega arith)

-- words that fit all slots and are in range stand in them
pub all_stand : (ss : List Slot) (ws : List (List ℕ)) → length ss ≡ length ws → reach ss ws ≡ length ws → all_ranged ss ws ≡ true → AllZip Stands ss ws
all_stand [] [] l f r = tt
all_stand [] (w ∷ ws) l f r = absurd (omega arith)
all_stand (s ∷ ss) [] l f r = absurd (omega arith)
all_stand (s ∷ ss) (w ∷ ws) l f r =
    let c = cond_reach (fits s w) (suc (reach ss ws)) (length (w ∷ ws)) f (omega arith) in
    let p = and_parts (is_ranged s w) (all_ranged ss ws) r in
    (stands_by s w c.0 p.0, all_stand ss ws (omega arith) (omega (arith, c.1)) p.1)

-- words that stand in all slots fit them
pub all_reach : (ss : List Slot) (ws : List (List ℕ)) → AllZip Stands ss ws → (length ss ≡ length ws) × (reach ss ws ≡ length ws)
all_reach [] [] h = (refl, refl)
all_reach [] (w ∷ ws) h = absurd h
all_reach (s ∷ ss) [] h = absurd h
all_reach (s ∷ ss) (w ∷ ws) h =
    let r = all_reach ss ws h.1 in
    (omega (arith, r.0), rw (fits_by s w h.0) (omega (arith, r.1)))

pub all_in_range : (ss : List Slot) (ws : List (List ℕ)) → AllZip Stands ss ws → all_ranged ss ws ≡ true
all_in_range [] [] h = refl
all_in_range [] (w ∷ ws) h = absurd h
all_in_range (s ∷ ss) [] h = absurd h
all_in_range (s ∷ ss) (w ∷ ws) h = and_from (is_ranged s w) (all_ranged ss ws) (ranged_by s w h.0) (all_in_range ss ws h.1)

-- a word fits a slot
abbrev pub Fits : Slot → List ℕ → Type 0
Fits s w = fits s w ≡ true

pub all_fit : (ss : List Slot) (ws : List (List ℕ)) → length ss ≡ length ws → reach ss ws ≡ length ws → AllZip Fits ss ws
all_fit [] [] l f = tt
all_fit [] (w ∷ ws) l f = absurd (omega arith)
all_fit (s ∷ ss) [] l f = absurd (omega arith)
all_fit (s ∷ ss) (w ∷ ws) l f = let c = cond_reach (fits s w) (suc (reach ss ws)) (length (w ∷ ws)) f (omega arith) in (c.0, all_fit ss ws (omega arith) (omega (arith, c.1)))

pub stand_fit : (ss : List Slot) (ws : List (List ℕ)) → AllZip Stands ss ws → AllZip Fits ss ws
stand_fit [] [] h = tt
stand_fit [] (w ∷ ws) h = absurd h
stand_fit (s ∷ ss) [] h = absurd h
stand_fit (s ∷ ss) (w ∷ ws) h = (fits_by s w h.0, stand_fit ss ws h.1)
