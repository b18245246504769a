-- The frames of a class, as the classes of twice the period under it have them.
use Rattle.std.proofs.Common.{◌≡◌, ℕ, zero, suc, ◌+◌, ◌*◌, ◌/◌, ◌%◌, ◌^◌, ◌<◌, ◌≤◌, Bool, true, false, List, [], ◌∷◌, ◌++◌, map, nat_eq, ◌⊎◌, inl, inr, cond, refl, ap, sym, ◌∙◌, subst, arith}
use Rattle.std.specs.Prelude.{filter}
use Rattle.std.specs.List.{AllByRecursion}
use Rattle.std.proofs.lemmas.Bool.{eq-eqb, ne_eqb, cases_eq}
use Rattle.std.proofs.lemmas.List.{map-append}
use Rattle.std.proofs.lemmas.List.Elements.{filter-append}
use Rattle.std.proofs.lemmas.Nat.{mod-pow-add}
use Rattle.std.proofs.Math.Nat.{add-mod_right, mod-eq_of_lt}
use Rattle.std.proofs.Math.Pow.{mod-mod-pow}
use Rattle.drv_chains.specs.Order.{frames}
use Rattle.drv_chains.proofs.Orders.{both_parts}

unfoldable pub under : ℕ → ℕ → ℕ → List ℕ
under zero level phase = phase ∷ []
under (suc left) level phase = under left (suc level) phase ++ under left (suc level) (phase + 2 ^ level)

next_even : (phase level : ℕ) → 2 * (phase + 2 ^ level) ≡ 2 * phase + 2 ^ suc level
next_even phase level = omega arith

next_odd : (phase level : ℕ) → 2 * (phase + 2 ^ level) + 1 ≡ 2 * phase + 1 + 2 ^ suc level
next_odd phase level = omega arith

two_parts : (a b c d : List ℕ) → a ≡ c → b ≡ d → a ++ b ≡ c ++ d
two_parts a b c d e h = ap (λ x. x ++ b) e ∙ ap (λ x. c ++ x) h

under_even : (left level phase : ℕ) → map (λ f. 2 * f) (under left level phase) ≡ under left (suc level) (2 * phase)
unfolding under
under_even zero level phase = refl
under_even (suc left) level phase =
    map-append (λ f. 2 * f) (under left (suc level) phase) (under left (suc level) (phase + 2 ^ level))
    ∙ two_parts (map (λ f. 2 * f) (under left (suc level) phase)) (map (λ f. 2 * f) (under left (suc level) (phase + 2 ^ level))) (under left (suc (suc level)) (2 * phase)) (under left (suc (suc level)) (2 * phase + 2 ^ suc level))
    (under_even left (suc level) phase)
    (under_even left (suc level) (phase + 2 ^ level) ∙ ap (λ x. under left (suc (suc level)) x) (next_even phase level))

under_odd : (left level phase : ℕ) → map (λ f. 2 * f + 1) (under left level phase) ≡ under left (suc level) (2 * phase + 1)
unfolding under
under_odd zero level phase = refl
under_odd (suc left) level phase =
    map-append (λ f. 2 * f + 1) (under left (suc level) phase) (under left (suc level) (phase + 2 ^ level))
    ∙ two_parts (map (λ f. 2 * f + 1) (under left (suc level) phase)) (map (λ f. 2 * f + 1) (under left (suc level) (phase + 2 ^ level))) (under left (suc (suc level)) (2 * phase + 1)) (under left (suc (suc level)) (2 * phase + 1 + 2 ^ suc level))
    (under_odd left (suc level) phase)
    (under_odd left (suc level) (phase + 2 ^ level) ∙ ap (λ x. under left (suc (suc level)) x) (next_odd phase level))

frames_under : (left : ℕ) → frames left ≡ under left 0 0
unfolding frames under
frames_under zero = refl
frames_under (suc left) =
    two_parts (map (λ f. 2 * f) (frames left)) (map (λ f. 2 * f + 1) (frames left)) (under left 1 0) (under left 1 1)
    (ap (λ x. map (λ f. 2 * f) x) (frames_under left) ∙ under_even left 0 0)
    (ap (λ x. map (λ f. 2 * f + 1) x) (frames_under left) ∙ under_odd left 0 0)

-- filters
all_pass : (test : ℕ → Bool) (fs : List ℕ) → ((f : ℕ) → test f ≡ true) → filter test fs ≡ fs
all_pass test [] h = refl
all_pass test (f ∷ fs) h = ap (λ b. cond b (f ∷ filter test fs) (filter test fs)) (h f) ∙ ap (λ x. f ∷ x) (all_pass test fs h)

none_pass : (test : ℕ → Bool) (fs : List ℕ) → ((f : ℕ) → test f ≡ false) → filter test fs ≡ []
none_pass test [] h = refl
none_pass test (f ∷ fs) h = ap (λ b. cond b (f ∷ filter test fs) (filter test fs)) (h f) ∙ none_pass test fs h

mapped_kept : (t : ℕ → ℕ) (f : ℕ) (fs : List ℕ) (b : Bool) → cond b (t f ∷ map t fs) (map t fs) ≡ map t (cond b (f ∷ fs) fs)
mapped_kept t f fs true = refl
mapped_kept t f fs false = refl

filter_mapped : (test now : ℕ → Bool) (t : ℕ → ℕ) (fs : List ℕ) → ((f : ℕ) → test (t f) ≡ now f) → filter test (map t fs) ≡ map t (filter now fs)
filter_mapped test now t [] h = refl
filter_mapped test now t (f ∷ fs) h =
    ap (λ b. cond b (t f ∷ filter test (map t fs)) (filter test (map t fs))) (h f)
    ∙ ap (λ x. cond (now f) (t f ∷ x) x) (filter_mapped test now t fs h)
    ∙ mapped_kept t f (filter now fs) (now f)

-- remainders of doubled numbers
half_mod : (n l : ℕ) → n % 2 ^ suc l ≡ (n / 2 % 2 ^ l) * 2 + n % 2
half_mod n l = let e : suc l ≡ l + 1 = omega arith in ap (λ x. n % 2 ^ x) e ∙ mod-pow-add n l 1

even_mod : (f l : ℕ) → 2 * f % 2 ^ suc l ≡ 2 * (f % 2 ^ l)
even_mod f l = let a : 2 * f / 2 ≡ f = omega arith in let b : (f % 2 ^ l) * 2 + 2 * f % 2 ≡ 2 * (f % 2 ^ l) = omega arith in
    half_mod (2 * f) l ∙ ap (λ x. (x % 2 ^ l) * 2 + 2 * f % 2) a ∙ b

odd_mod : (f l : ℕ) → (2 * f + 1) % 2 ^ suc l ≡ 2 * (f % 2 ^ l) + 1
odd_mod f l = let a : (2 * f + 1) / 2 ≡ f = omega arith in let b : (f % 2 ^ l) * 2 + (2 * f + 1) % 2 ≡ 2 * (f % 2 ^ l) + 1 = omega arith in
    half_mod (2 * f + 1) l ∙ ap (λ x. (x % 2 ^ l) * 2 + (2 * f + 1) % 2) a ∙ b

same_test : (a b c d : ℕ) → (a ≡ b → c ≡ d) → (c ≡ d → a ≡ b) → nat_eq a b ≡ nat_eq c d
same_test a b c d h k = elim (cases_eq a b) [
  | inl e ↦ eq-eqb a b e ∙ sym (eq-eqb c d (h e))
  | inr n ↦ ne_eqb a b n ∙ sym (ne_eqb c d (λ e. n (k e)))
]

even_even : (h x y : ℕ) → y ≡ 2 * x → nat_eq (2 * h) y ≡ nat_eq h x
even_even h x y e = same_test (2 * h) y h x (λ s. omega (arith, s, e)) (λ s. omega (arith, s, e))

odd_odd : (h x y : ℕ) → y ≡ 2 * x + 1 → nat_eq (2 * h + 1) y ≡ nat_eq h x
odd_odd h x y e = same_test (2 * h + 1) y h x (λ s. omega (arith, s, e)) (λ s. omega (arith, s, e))

even_odd : (h x y : ℕ) → y ≡ 2 * x + 1 → nat_eq (2 * h) y ≡ false
even_odd h x y e = ne_eqb (2 * h) y (λ s. omega (arith, s, e))

odd_even : (h x y : ℕ) → y ≡ 2 * x → nat_eq (2 * h + 1) y ≡ false
odd_even h x y e = ne_eqb (2 * h + 1) y (λ s. omega (arith, s, e))

even_or_odd : (f : ℕ) → (2 * (f / 2) ≡ f) ⊎ (2 * (f / 2) + 1 ≡ f)
even_or_odd f = grind arith

zero_alone : (phase : ℕ) → phase < 2 ^ 0 → 0 ≡ phase
zero_alone phase h = omega (arith, h)

all_in_one : (f : ℕ) → nat_eq 0 (f % 2 ^ 0) ≡ true
all_in_one f = let e : 0 ≡ f % 1 = omega arith in eq-eqb 0 (f % 1) e

half_phase : (phase l : ℕ) → phase < 2 ^ suc l → phase / 2 < 2 ^ l
half_phase phase l h = omega (arith, h)

nil_right : (xs : List ℕ) → xs ++ [] ≡ xs
nil_right [] = refl
nil_right (x ∷ xs) = ap (λ z. x ∷ z) (nil_right xs)

even_class : (level left h : ℕ) → filter (λ f. nat_eq h (f % 2 ^ level)) (frames (left + level)) ≡ under left level h → filter (λ f. nat_eq (2 * h) (f % 2 ^ suc level)) (frames (suc (left + level))) ≡ under left (suc level) (2 * h)
unfolding frames
even_class level left h e =
    let test : ℕ → Bool = λ f. nat_eq (2 * h) (f % 2 ^ suc level) in
    let fs = frames (left + level) in
    filter-append test (map (λ f. 2 * f) fs) (map (λ f. 2 * f + 1) fs)
    ∙ two_parts (filter test (map (λ f. 2 * f) fs)) (filter test (map (λ f. 2 * f + 1) fs)) (under left (suc level) (2 * h)) []
    (filter_mapped test (λ f. nat_eq h (f % 2 ^ level)) (λ f. 2 * f) fs (λ f. even_even h (f % 2 ^ level) (2 * f % 2 ^ suc level) (even_mod f level)) ∙ ap (λ x. map (λ f. 2 * f) x) e ∙ under_even left level h)
    (filter_mapped test (λ f. false) (λ f. 2 * f + 1) fs (λ f. even_odd h (f % 2 ^ level) ((2 * f + 1) % 2 ^ suc level) (odd_mod f level)) ∙ ap (λ x. map (λ f. 2 * f + 1) x) (none_pass (λ f. false) fs (λ f. refl)))
    ∙ nil_right (under left (suc level) (2 * h))

odd_class : (level left h : ℕ) → filter (λ f. nat_eq h (f % 2 ^ level)) (frames (left + level)) ≡ under left level h → filter (λ f. nat_eq (2 * h + 1) (f % 2 ^ suc level)) (frames (suc (left + level))) ≡ under left (suc level) (2 * h + 1)
unfolding frames
odd_class level left h e =
    let test : ℕ → Bool = λ f. nat_eq (2 * h + 1) (f % 2 ^ suc level) in
    let fs = frames (left + level) in
    filter-append test (map (λ f. 2 * f) fs) (map (λ f. 2 * f + 1) fs)
    ∙ two_parts (filter test (map (λ f. 2 * f) fs)) (filter test (map (λ f. 2 * f + 1) fs)) [] (under left (suc level) (2 * h + 1))
    (filter_mapped test (λ f. false) (λ f. 2 * f) fs (λ f. odd_even h (f % 2 ^ level) (2 * f % 2 ^ suc level) (even_mod f level)) ∙ ap (λ x. map (λ f. 2 * f) x) (none_pass (λ f. false) fs (λ f. refl)))
    (filter_mapped test (λ f. nat_eq h (f % 2 ^ level)) (λ f. 2 * f + 1) fs (λ f. odd_odd h (f % 2 ^ level) ((2 * f + 1) % 2 ^ suc level) (odd_mod f level)) ∙ ap (λ x. map (λ f. 2 * f + 1) x) e ∙ under_odd left level h)

-- the frames of one class, in their order
pub class_frames : (level left phase : ℕ) → phase < 2 ^ level → filter (λ f. nat_eq phase (f % 2 ^ level)) (frames (left + level)) ≡ under left level phase
class_frames zero left phase h =
    let e = zero_alone phase h in
    let n : left + 0 ≡ left = omega arith in
    subst (λ x. filter (λ f. nat_eq x (f % 2 ^ 0)) (frames (left + 0)) ≡ under left 0 x) e
    (all_pass (λ f. nat_eq 0 (f % 2 ^ 0)) (frames (left + 0)) all_in_one ∙ ap frames n ∙ frames_under left)
class_frames (suc level) left phase h =
    let n : left + suc level ≡ suc (left + level) = omega arith in
    ap (λ x. filter (λ f. nat_eq phase (f % 2 ^ suc level)) (frames x)) n ∙ elim (even_or_odd phase) [
      | inl e ↦ subst (λ x. filter (λ f. nat_eq x (f % 2 ^ suc level)) (frames (suc (left + level))) ≡ under left (suc level) x) e
          (even_class level left (phase / 2) (class_frames level left (phase / 2) (half_phase phase level h)))
      | inr e ↦ subst (λ x. filter (λ f. nat_eq x (f % 2 ^ suc level)) (frames (suc (left + level))) ≡ under left (suc level) x) e
          (odd_class level left (phase / 2) (class_frames level left (phase / 2) (half_phase phase level h)))
    ]

-- each of them leaves the phase, and none comes below it
below_next : (phase level : ℕ) → phase < 2 ^ level → phase < 2 ^ suc level
below_next phase level h = omega (arith, h)

shifted_below : (phase level : ℕ) → phase < 2 ^ level → phase + 2 ^ level < 2 ^ suc level
shifted_below phase level h = omega (arith, h)

pub both_below : (phase level : ℕ) → phase < 2 ^ level → (phase < 2 ^ suc level) × (phase + 2 ^ level < 2 ^ suc level)
both_below phase level h = (below_next phase level h, shifted_below phase level h)

weaker : (P Q : ℕ → Type 0) → ((f : ℕ) → P f → Q f) → (fs : List ℕ) → AllByRecursion P fs → AllByRecursion Q fs
weaker P Q h [] k = tt
weaker P Q h (f ∷ fs) k = (h f k.0, weaker P Q h fs k.1)

pub at_least : (left level phase : ℕ) → AllByRecursion (λ f. phase ≤ f) (under left level phase)
unfolding under
at_least zero level phase = (omega arith, tt)
at_least (suc left) level phase = both_parts (λ f. phase ≤ f) (under left (suc level) phase) (under left (suc level) (phase + 2 ^ level)) (at_least left (suc level) phase)
    (weaker (λ f. phase + 2 ^ level ≤ f) (λ f. phase ≤ f) (λ f h. omega (arith, h)) (under left (suc level) (phase + 2 ^ level)) (at_least left (suc level) (phase + 2 ^ level)))

one_more : (level : ℕ) → 1 + level ≡ suc level
one_more level = omega arith

added_mod : (phase m : ℕ) → phase < m → (phase + m) % m ≡ phase
added_mod phase m h = add-mod_right phase m ∙ mod-eq_of_lt h

shifted_mod : (f level phase : ℕ) → phase < 2 ^ level → f % 2 ^ suc level ≡ phase + 2 ^ level → f % 2 ^ level ≡ phase
shifted_mod f level phase h e = sym (mod-mod-pow f 1 level) ∙ ap (λ x. f % 2 ^ x % 2 ^ level) (one_more level) ∙ ap (λ x. x % 2 ^ level) e ∙ added_mod phase (2 ^ level) h

same_mod : (f level phase : ℕ) → phase < 2 ^ level → f % 2 ^ suc level ≡ phase → f % 2 ^ level ≡ phase
same_mod f level phase h e = sym (mod-mod-pow f 1 level) ∙ ap (λ x. f % 2 ^ x % 2 ^ level) (one_more level) ∙ ap (λ x. x % 2 ^ level) e ∙ mod-eq_of_lt h

pub leave_phase : (left level phase : ℕ) → phase < 2 ^ level → AllByRecursion (λ f. f % 2 ^ level ≡ phase) (under left level phase)
unfolding under
leave_phase zero level phase h = (mod-eq_of_lt h, tt)
leave_phase (suc left) level phase h = both_parts (λ f. f % 2 ^ level ≡ phase) (under left (suc level) phase) (under left (suc level) (phase + 2 ^ level))
    (weaker (λ f. f % 2 ^ suc level ≡ phase) (λ f. f % 2 ^ level ≡ phase) (λ f e. same_mod f level phase h e) (under left (suc level) phase) (leave_phase left (suc level) phase (below_next phase level h)))
    (weaker (λ f. f % 2 ^ suc level ≡ phase + 2 ^ level) (λ f. f % 2 ^ level ≡ phase) (λ f e. shifted_mod f level phase h e) (under left (suc level) (phase + 2 ^ level)) (leave_phase left (suc level) (phase + 2 ^ level) (shifted_below phase level h)))
