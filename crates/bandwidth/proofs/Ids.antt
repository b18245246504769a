-- The ids of what is placed.
use Rattle.std.proofs.Common.{◌≡◌, ◌≢◌, ℕ, ◌+◌, ◌<◌, ◌≤◌, Bool, true, false, cond, List, [], ◌∷◌, length, get_or, refl, ap, sym, ◌∙◌, arith, eq-eqb, inl, inr, ◌⊎◌}
use Rattle.std.specs.Prelude.{zero, suc, not, nat_eq, nat_lt, filter, ◌||◌, Some, None}
use Rattle.std.specs.List.{list_any, position, position_or_len, remove}
use Rattle.std.proofs.lemmas.Bool.{ltb-true, ltb-false}
use borrow.Author.Tests.{eqb-true}
use Rattle.bandwidth.specs.declared.placements.Placed.{Placed}
use Rattle.bandwidth.specs.Admission.{AreDistinct}

neither : (a b : Bool) → (a || b) ≡ false → (a ≡ false) × (b ≡ false)
neither true b h = cc
neither false b h = (refl, h)

pub none_has : (placed : List Placed) (id : ℕ) → list_any (λ x. nat_eq x.want.id id) placed ≡ false → (k : ℕ) (d : Placed) → k < length placed → (get_or placed k d).want.id ≢ id
none_has [] id h k d l = absurd (omega arith)
none_has (x ∷ xs) id h zero d l = λ e. let t : nat_eq x.want.id id ≡ true = eq-eqb _ _ e in let f = (neither (nat_eq x.want.id id) _ h).0 in cc
none_has (x ∷ xs) id h (suc k) d l = none_has xs id (neither (nat_eq x.want.id id) _ h).1 k d (omega arith)

-- without an id that isn't there nothing is left out
pub without_none : (placed : List Placed) (id : ℕ) → list_any (λ x. nat_eq x.want.id id) placed ≡ false → placed ≡ filter (λ x. not (nat_eq x.want.id id)) placed
without_none [] id h = refl
without_none (x ∷ xs) id h =
    let here : nat_eq x.want.id id ≡ false = (neither (nat_eq x.want.id id) _ h).0 in
    rw here (ap (λ ys. x ∷ ys) (without_none xs id (neither (nat_eq x.want.id id) _ h).1))

tail_distinct : (x : Placed) (xs : List Placed) → AreDistinct (x ∷ xs) → AreDistinct xs
tail_distinct x xs all i j d h k = all (suc i) (suc j) d (omega arith) (omega arith)

off : (b : Bool) → (b ≡ true → ⊥) → b ≡ false
off true h = absurd (h refl)
off false h = refl

pub on_or_off : (b : Bool) → (b ≡ true) ⊎ (b ≡ false)
on_or_off true = inl refl
on_or_off false = inr refl

none_of : (xs : List Placed) (id : ℕ) → ((k : ℕ) (d : Placed) → k < length xs → (get_or xs k d).want.id ≢ id) → list_any (λ x. nat_eq x.want.id id) xs ≡ false
none_of [] id all = refl
none_of (x ∷ xs) id all =
    let here : nat_eq x.want.id id ≡ false = off _ (λ t. all 0 x (omega arith) (eqb-true x.want.id id t)) in
    rw here (none_of xs id (λ k d l. all (suc k) d (omega arith)))

head_distinct : (x : Placed) (xs : List Placed) (id : ℕ) → AreDistinct (x ∷ xs) → x.want.id ≡ id → list_any (λ y. nat_eq y.want.id id) xs ≡ false
head_distinct x xs id all e =
    none_of xs id (λ k d l. λ (t : (get_or xs k d).want.id ≡ id). all 0 (suc k) d (omega arith) (omega arith) (e ∙ sym t))

-- where it is there, exactly one is left out
pub without_one : (placed : List Placed) (id : ℕ) → AreDistinct placed → list_any (λ x. nat_eq x.want.id id) placed ≡ true → length (filter (λ x. not (nat_eq x.want.id id)) placed) + 1 ≡ length placed
without_one [] id all h = cc
without_one (x ∷ xs) id all h =
    elim (on_or_off (nat_eq x.want.id id)) [
      | inl t ↦
          let rest = without_none xs id (head_distinct x xs id all (eqb-true x.want.id id t)) in
          rw t (rw (← rest) (omega arith))
      | inr f ↦ rw f (omega (arith, without_one xs id (tail_distinct x xs all) (rw f at h)))
    ]

-- ---- taking out the one with an id

some_at : (b : Bool) (n i : ℕ) → cond b (Some n) None ≡ Some i → (b ≡ true) × (i ≡ n)
some_at true n i h = (refl, cc)
some_at false n i h = absurd cc

none_at : (b : Bool) (n : ℕ) → cond b (Some n) None ≡ None → b ≡ false
none_at true n h = absurd cc
none_at false n h = refl

abbrev pub of_id : ℕ → Placed → Bool
of_id id x = nat_eq x.want.id id

pub place_of : (placed : List Placed) (id i : ℕ) → position (of_id id) placed ≡ Some i → (i ≡ position_or_len (of_id id) placed) × (position_or_len (of_id id) placed < length placed)
place_of placed id i h =
    let f = some_at (nat_lt (position_or_len (of_id id) placed) (length placed)) (position_or_len (of_id id) placed) i h in
    (f.1, ltb-true _ _ f.0)

none_any : (placed : List Placed) (id : ℕ) → length placed ≤ position_or_len (of_id id) placed → list_any (of_id id) placed ≡ false
none_any [] id h = refl
none_any (x ∷ xs) id h =
    elim (on_or_off (of_id id x)) [
      | inl t ↦ let h' = rw t at h in absurd (omega arith)
      | inr f ↦ let h' = rw f at h in rw f (none_any xs id (omega arith))
    ]

pub nothing_out : (placed : List Placed) (id : ℕ) → position (of_id id) placed ≡ None → placed ≡ filter (λ x. not (of_id id x)) placed
nothing_out placed id h =
    let off = none_at (nat_lt (position_or_len (of_id id) placed) (length placed)) (position_or_len (of_id id) placed) h in
    without_none placed id (none_any placed id (ltb-false _ _ off))

one_out : (placed : List Placed) (id : ℕ) → AreDistinct placed → position_or_len (of_id id) placed < length placed → remove placed (position_or_len (of_id id) placed) ≡ filter (λ x. not (of_id id x)) placed
one_out [] id all h = absurd (omega arith)
one_out (x ∷ xs) id all h =
    elim (on_or_off (of_id id x)) [
      | inl t ↦ rw t (without_none xs id (head_distinct x xs id all (eqb-true x.want.id id t)))
      | inr f ↦
          let h' = rw f at h in
          let s : 1 + position_or_len (of_id id) xs ≡ suc (position_or_len (of_id id) xs) = omega arith in
          rw (f, s) (ap (λ ys. x ∷ ys) (one_out xs id (tail_distinct x xs all) (omega arith)))
    ]

pub taken_out : (placed : List Placed) (id i : ℕ) → AreDistinct placed → position (of_id id) placed ≡ Some i → remove placed i ≡ filter (λ x. not (of_id id x)) placed
taken_out placed id i all h = let at = place_of placed id i h in rw at.0 (one_out placed id all at.1)
