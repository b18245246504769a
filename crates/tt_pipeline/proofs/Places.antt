-- The place of the first element that passes, and what is done there.
use Rattle.std.proofs.Common.{◌≡◌, ℕ, ◌+◌, ◌<◌, ◌≤◌, Bool, true, false, cond, List, [], ◌∷◌, length, get_or, Option, Some, None, refl, ap, sym, arith, inl, inr, ◌⊎◌, slice_set}
use Rattle.std.specs.Prelude.{suc, nat_lt, nat_le, ◌||◌, if◌then◌else◌}
use Rattle.std.specs.List.{find, list_any, position, position_or_len, remove}
use Rattle.std.proofs.lemmas.Bool.{ltb-true, ltb-false, leb-true}
use Rattle.tt_pipeline.specs.declared.entry.Entry.{Entry}
use Rattle.tt_pipeline.specs.declared.rows.StartRow.TheVariants.{Enters, Joins, Forgotten}
use Rattle.tt_pipeline.specs.Starting.{with_first, without_first, later_row}

pub on_or_off : (b : Bool) → (b ≡ true) ⊎ (b ≡ false)
on_or_off true = inl refl
on_or_off false = inr refl

some_at : (b : Bool) (n i : ℕ) → cond b (Some n) None ≡ Some i → (b ≡ true) × (i ≡ n)
some_at true n i h = (refl, cc)
some_at false n i h = absurd cc

none_at : (b : Bool) (n : ℕ) → cond b (Some n) None ≡ None → b ≡ false
none_at true n h = absurd cc
none_at false n h = refl

module _ {X : Type 0} (p : X → Bool) where
  pub found : (xs : List X) (i : ℕ) → position p xs ≡ Some i → (i ≡ position_or_len p xs) × (position_or_len p xs < length xs)
  found xs i h =
      let f = some_at (nat_lt (position_or_len p xs) (length xs)) (position_or_len p xs) i h in
      (f.1, ltb-true _ _ f.0)

  pub not_found : (xs : List X) → position p xs ≡ None → nat_lt (position_or_len p xs) (length xs) ≡ false
  not_found xs h = none_at (nat_lt (position_or_len p xs) (length xs)) (position_or_len p xs) h

  none_any : (xs : List X) → length xs ≤ position_or_len p xs → list_any p xs ≡ false
  none_any [] h = refl
  none_any (x ∷ xs) h =
      elim (on_or_off (p x)) [
        | inl t ↦ let h' = rw t at h in absurd (omega arith)
        | inr f ↦ let h' = rw f at h in rw f (none_any xs (omega arith))
      ]

  pub set_there : (f : X → X) (xs : List X) (d : X) → position_or_len p xs < length xs → slice_set xs (position_or_len p xs) (f (get_or xs (position_or_len p xs) d)) ≡ with_first p f xs
  set_there f [] d h = absurd (omega arith)
  set_there f (x ∷ xs) d h =
      elim (on_or_off (p x)) [
        | inl t ↦ rw t refl
        | inr n ↦
            let h' = rw n at h in
            let s : 1 + position_or_len p xs ≡ suc (position_or_len p xs) = omega arith in
            rw (n, s) (ap (λ ys. x ∷ ys) (set_there f xs d (omega arith)))
      ]

  pub remove_there : (xs : List X) → position_or_len p xs < length xs → remove xs (position_or_len p xs) ≡ without_first p xs
  remove_there [] h = absurd (omega arith)
  remove_there (x ∷ xs) h =
      elim (on_or_off (p x)) [
        | inl t ↦ rw t refl
        | inr n ↦
            let h' = rw n at h in
            let s : 1 + position_or_len p xs ≡ suc (position_or_len p xs) = omega arith in
            rw (n, s) (ap (λ ys. x ∷ ys) (remove_there xs (omega arith)))
      ]

  pub with_none : (f : X → X) (xs : List X) → list_any p xs ≡ false → xs ≡ with_first p f xs
  with_none f [] h = refl
  with_none f (x ∷ xs) h =
      elim (on_or_off (p x)) [
        | inl t ↦ let h' = rw t at h in absurd cc
        | inr n ↦ let h' = rw n at h in rw n (ap (λ ys. x ∷ ys) (with_none f xs h'))
      ]

  pub without_none : (xs : List X) → list_any p xs ≡ false → xs ≡ without_first p xs
  without_none [] h = refl
  without_none (x ∷ xs) h =
      elim (on_or_off (p x)) [
        | inl t ↦ let h' = rw t at h in absurd cc
        | inr n ↦ let h' = rw n at h in rw n (ap (λ ys. x ∷ ys) (without_none xs h'))
      ]

  pub find_none : (xs : List X) → list_any p xs ≡ false → find p xs ≡ None
  find_none [] h = refl
  find_none (x ∷ xs) h =
      elim (on_or_off (p x)) [
        | inl t ↦ let h' = rw t at h in absurd cc
        | inr n ↦ let h' = rw n at h in rw n (find_none xs h')
      ]

  pub find_there : (xs : List X) (d : X) → position_or_len p xs < length xs → find p xs ≡ Some (get_or xs (position_or_len p xs) d)
  find_there [] d h = absurd (omega arith)
  find_there (x ∷ xs) d h =
      elim (on_or_off (p x)) [
        | inl t ↦ rw t refl
        | inr n ↦
            let h' = rw n at h in
            let s : 1 + position_or_len p xs ≡ suc (position_or_len p xs) = omega arith in
            rw (n, s) (find_there xs d (omega arith))
      ]

  -- no place: no element passes
  pub none_there : (xs : List X) → position p xs ≡ None → list_any p xs ≡ false
  none_there xs h = none_any xs (ltb-false _ _ (not_found xs h))

  -- what is done at the place of the first element that passes
  pub remove_at : (xs : List X) (i : ℕ) → position p xs ≡ Some i → remove xs i ≡ without_first p xs
  remove_at xs i h = let at = found xs i h in rw at.0 (remove_there xs at.1)

  pub set_at : (f : X → X) (xs : List X) (i : ℕ) (x : X) → position p xs ≡ Some i → x ≡ get_or xs i x → slice_set xs i (f x) ≡ with_first p f xs
  set_at f xs i x h is =
      let at = found xs i h in
      let there : slice_set xs (position_or_len p xs) (f (get_or xs (position_or_len p xs) x)) ≡ with_first p f xs = set_there f xs x at.1 in
      let e : get_or xs (position_or_len p xs) x ≡ x = rw (← at.0) (sym is) in
      rw at.0 (rw e at there)

  pub find_place : (xs : List X) (i : ℕ) (x : X) → position p xs ≡ Some i → x ≡ get_or xs i x → find p xs ≡ Some x
  find_place xs i x h is =
      let at = found xs i h in
      let e : get_or xs (position_or_len p xs) x ≡ x = rw (← at.0) (sym is) in
      rw e at (find_there xs x at.1)

-- a later part that joins stays within 1,024 bytes
pub joins_within : (n : ℕ) (o : Option Entry) (e : Entry) → o ≡ Some e → later_row n o ≡ Joins → e.came.bytes + n ≤ 1024
joins_within n None e is h = absurd cc
joins_within n (Some x) e is h =
    let same : x ≡ e = cc in
    let le : nat_le (x.came.bytes + n) 1024 ≡ true = joins_only (nat_le (x.came.bytes + n) 1024) h in
    rw (← same) (leb-true _ _ le)
  where
    joins_only : (b : Bool) → (if b then Joins else Forgotten) ≡ Joins → b ≡ true
    joins_only true h = refl
    joins_only false h = absurd cc

pub joins_some : (n : ℕ) (o : Option Entry) → o ≡ None → later_row n o ≡ Joins → ⊥
joins_some n None is h = cc
joins_some n (Some x) is h = cc

-- a start that enters finds room once the entry of its key is out
pub enters_within : (there : Bool) (all left : ℕ) → (if there || nat_lt all 256 then Enters else Forgotten) ≡ Enters → (there ≡ true → left + 1 ≡ all) → left ≤ all → all ≤ 256 → left < 256
enters_within true all left h fewer less fits = let e = fewer refl in omega arith
enters_within false all left h fewer less fits = let lt = ltb-true all 256 (enters_only (nat_lt all 256) h) in omega arith
  where
    enters_only : (b : Bool) → (if b then Enters else Forgotten) ≡ Enters → b ≡ true
    enters_only true h = refl
    enters_only false h = absurd cc
