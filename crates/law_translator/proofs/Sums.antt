-- Sums over some of the keys of a plan, and what follows where the plan fits.
use Rattle.std.proofs.Common.{◌≡◌, ℕ, zero, suc, length, ◌+◌, ◌-◌, ◌*◌, ◌<◌, ◌≤◌, min, List, [], ◌∷◌, ◌++◌, refl, sym, ◌∙◌, inl, inr, ◌⊎◌, arith, ap}
use Rattle.std.proofs.lemmas.Bool.{cases_lt}
use Rattle.law_common.proofs.Numbers.{sum_up}
use Rattle.hub_keys.specs.declared.key.Key.{Key}
use Rattle.law_translator.specs.Plans.{laid_at, sum_at, Fits}
use Rattle.claims_world.specs.Plans.{Plan, laid}
use Rattle.law_translator.specs.Premises.{In}
use Rattle.law_translator.proofs.Keys.{Distinct, AllIn}

abbrev pub total : (Key → ℕ) → List Key → ℕ
total f [] = 0
total f (k ∷ ks) = f k + total f ks

less : (k : Key) (ys : List Key) → In k ys → List Key
less k [] m = absurd m
less k (y ∷ ys) (inl e) = ys
less k (y ∷ ys) (inr m) = y ∷ less k ys m

module _ (f : Key → ℕ) where
  total_less : (k : Key) (ys : List Key) (m : In k ys) → total f ys ≡ f k + total f (less k ys m)
  unfolding less
  total_less k [] m = absurd m
  total_less k (y ∷ ys) (inl e) = ap (λ (x : Key). f x + total f ys) (sym e)
  total_less k (y ∷ ys) (inr m) = omega (arith, total_less k ys m)

in_less : (j k : Key) (ys : List Key) (m : In k ys) → In j ys → (j ≡ k → ⊥) → In j (less k ys m)
unfolding less
in_less j k [] m n not = absurd m
in_less j k (y ∷ ys) (inl e) (inl e') not = absurd (not (e' ∙ sym e))
in_less j k (y ∷ ys) (inl e) (inr n) not = n
in_less j k (y ∷ ys) (inr m) (inl e') not = inl e'
in_less j k (y ∷ ys) (inr m) (inr n) not = inr (in_less j k ys m n not)

all_less : (k : Key) (ks ys : List Key) (m : In k ys) → AllIn ks ys → (In k ks → ⊥) → AllIn ks (less k ys m)
all_less k [] ys m all not = tt
all_less k (j ∷ js) ys m all not =
    (in_less j k ys m all.0 (λ e. not (inl (sym e))), all_less k js ys m all.1 (λ n. not (inr n)))

pub subset : (f : Key → ℕ) (ks ys : List Key) → AllIn ks ys → Distinct ks → total f ks ≤ total f ys
subset f [] ys all d = omega arith
subset f (k ∷ ks) ys all d =
    let rest = subset f ks (less k ys all.0) (all_less k ks ys all.0 all.1 d.0) d.1 in
    omega (arith, total_less f k ys all.0)

-- ---- what is due to be worked between two moments

abbrev pub due_at : Plan → Key → ℕ → ℕ
due_at p k v = laid p k v - laid p k (v - 1)

due_laid : (a s v : ℕ) → min a (188 * (v - s)) - min a (188 * (v - 1 - s)) ≤ min a (188 * (v - 1 + 1 - s)) - min a (188 * (v - 1 - s))
due_laid a s v = omega arith

total_due : (p : Plan) (v : ℕ) (ks : List Key) → total (λ k. due_at p k v) ks ≤ sum_at p (v - 1) ks
total_due p v [] = omega arith
total_due p v (k ∷ ks) =
    sum_up (due_at p k v) (laid_at p k (v - 1)) _ _ (due_laid (p.times k) (p.first k) v) (total_due p v ks)

chain : (x y z : ℕ) → x ≤ y → y ≤ z → z ≤ 188 → x ≤ 188
chain x y z h i j = omega arith

-- the keys of some entries have no more than 188 due
pub due_fits : (p : Plan) → Fits p → (v : ℕ) (ks : List Key) → AllIn ks p.keys → Distinct ks → total (λ k. due_at p k v) ks ≤ 188
due_fits p fits v ks all d =
    chain _ _ _ (subset (λ k. due_at p k v) ks p.keys all d) (total_due p v p.keys) (fits (v - 1))

filled : (a s b t v : ℕ) → s ≤ t
    → (min a (188 * (v - s)) - min a (188 * (v - 1 - s))) + ((min b (188 * (v - t)) - min b (188 * (v - 1 - t))) + 0) ≤ 188
    → 0 < min b (188 * (v - t)) - min b (188 * (v - 1 - t)) → a ≤ min a (188 * (v - s))
filled a s b t v before fits some = omega arith

-- where a later one has something due, an earlier one is laid whole
pub whole_before : (p : Plan) → Fits p → (v : ℕ) (k x : Key) → In k p.keys → In x p.keys → (k ≡ x → ⊥) → p.first k ≤ p.first x
    → 0 < due_at p x v → p.times k ≤ laid p k v
whole_before p fits v k x mk mx apart before some =
    let none : In k (x ∷ []) → ⊥ = λ m. elim m [ inl e ↦ apart e | inr n ↦ n ] in
    let two = due_fits p fits v (k ∷ x ∷ []) (mk, (mx, tt)) (none, (λ n. n, tt)) in
    filled (p.times k) (p.first k) (p.times x) (p.first x) v before two some

abbrev pub AllLater : Plan → Key → List Key → Type 0
AllLater p k [] = Unit {0}
AllLater p k (x ∷ xs) = (p.first k ≤ p.first x) × AllLater p k xs

abbrev pub Sorted : Plan → List Key → Type 0
Sorted p [] = Unit {0}
Sorted p (k ∷ ks) = AllLater p k ks × Sorted p ks

some_or_none : (n : ℕ) → (0 < n) ⊎ (n ≡ 0)
some_or_none n = elim (cases_lt 0 n) [ inl l ↦ inl l | inr m ↦ inr (omega arith) ]

-- either the later ones have nothing due, or this one is laid whole
pub later : (p : Plan) → Fits p → (v : ℕ) (k : Key) (ks : List Key) → In k p.keys → AllIn ks p.keys → (In k ks → ⊥) → AllLater p k ks
    → (total (λ j. due_at p j v) ks ≡ 0) ⊎ (p.times k ≤ laid p k v)
later p fits v k [] mk all not sorted = inl refl
later p fits v k (x ∷ xs) mk all not sorted =
    elim (some_or_none (due_at p x v)) [
      | inl some ↦ inr (whole_before p fits v k x mk all.0 (λ e. not (inl e)) sorted.0 some)
      | inr none ↦
          elim (later p fits v k xs mk all.1 (λ m. not (inr m)) sorted.1) [
            | inl rest ↦ inl (nothing _ _ none rest)
            | inr whole ↦ inr whole
          ]
    ]
  where
    nothing : (a b : ℕ) → a ≡ 0 → b ≡ 0 → a + b ≡ 0
    nothing a b h i = omega arith

pub all_later_snoc : (p : Plan) (k x : Key) (xs : List Key) → AllLater p k xs → p.first k ≤ p.first x → AllLater p k (xs ++ x ∷ [])
all_later_snoc p k x [] all le = (le, tt)
all_later_snoc p k x (y ∷ ys) all le = (all.0, all_later_snoc p k x ys all.1 le)

-- every key begins no later than this
abbrev pub AllBy : Plan → ℕ → List Key → Type 0
AllBy p u [] = Unit {0}
AllBy p u (k ∷ ks) = (p.first k ≤ u) × AllBy p u ks

pub sorted_snoc : (p : Plan) (u : ℕ) (x : Key) (xs : List Key) → Sorted p xs → AllBy p u xs → u ≡ p.first x → Sorted p (xs ++ x ∷ [])
sorted_snoc p u x [] sorted all e = (tt, tt)
sorted_snoc p u x (y ∷ ys) sorted all e =
    let le : p.first y ≤ p.first x = omega (arith, all.0) in
    (all_later_snoc p y x ys sorted.0 le, sorted_snoc p u x ys sorted.1 all.1 e)

-- ---- what is laid in all

one_more : (a b c d e f : ℕ) → a ≡ b + c → d ≡ e + f → a + d ≡ b + e + (c + f)
one_more a b c d e f h i = omega (arith, h, i)

rises_by : (p : Plan) (k : Key) (u : ℕ) → laid p k (suc u) ≡ laid p k u + laid_at p k u
rises_by p k u = omega arith

laid_step : (p : Plan) (u : ℕ) (ks : List Key) → total (λ k. laid p k (suc u)) ks ≡ total (λ k. laid p k u) ks + sum_at p u ks
laid_step p u [] = refl
laid_step p u (k ∷ ks) = one_more _ _ _ _ _ _ (rises_by p k u) (laid_step p u ks)

laid_none : (p : Plan) (ks : List Key) → total (λ k. laid p k 0) ks ≡ 0
laid_none p [] = refl
laid_none p (k ∷ ks) = omega (arith, laid_none p ks)

laid_all : (p : Plan) → Fits p → (u : ℕ) → total (λ k. laid p k u) p.keys ≤ 188 * u
laid_all p fits zero = omega (arith, laid_none p p.keys)
laid_all p fits (suc u) = risen _ _ _ u (laid_step p u p.keys) (fits u) (laid_all p fits u)
  where
    risen : (a b c u : ℕ) → a ≡ b + c → c ≤ 188 → b ≤ 188 * u → a ≤ 188 * suc u
    risen a b c u h i j = omega arith

-- in the first microframes at most 188 each
pub laid_fits : (p : Plan) → Fits p → (u : ℕ) (ks : List Key) → AllIn ks p.keys → Distinct ks → total (λ k. laid p k u) ks ≤ 188 * u
laid_fits p fits u ks all d = within _ _ _ (subset (λ k. laid p k u) ks p.keys all d) (laid_all p fits u)
  where
    within : (a b c : ℕ) → a ≤ b → b ≤ c → a ≤ c
    within a b c h i = omega arith

-- there are few: each has nine byte-times or more, and eight microframes have 1,504
abbrev pub AreSome : Plan → List Key → Type 0
AreSome p [] = Unit {0}
AreSome p (k ∷ ks) = (9 ≤ p.times k) × (p.first k < 8) × AreSome p ks

each_nine : (p : Plan) (ks : List Key) → AreSome p ks → 9 * length ks ≤ total (λ k. laid p k 8) ks
each_nine p [] some = omega arith
each_nine p (k ∷ ks) some = let rest = each_nine p ks some.2 in let t = some.0 in let f = some.1 in nine (p.times k) (p.first k) (length ks) _ t f rest
  where
    nine : (t f n r : ℕ) → 9 ≤ t → f < 8 → 9 * n ≤ r → 9 * suc n ≤ min t (188 * (8 - f)) + r
    nine t f n r a b c = omega arith

pub few : (p : Plan) → Fits p → (ks : List Key) → AllIn ks p.keys → Distinct ks → AreSome p ks → length ks < 256
few p fits ks all d some = few_keys _ _ (each_nine p ks some) (laid_fits p fits 8 ks all d)
  where
    few_keys : (n a : ℕ) → 9 * n ≤ a → a ≤ 188 * 8 → n < 256
    few_keys n a h i = omega arith
