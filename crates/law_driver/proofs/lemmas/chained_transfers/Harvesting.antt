-- A harvest leaves the transfers in turn, each at its place.
use Rattle.std.proofs.Common.{◌≡◌, ℕ, zero, suc, ◌+◌, ◌-◌, ◌<◌, ◌≤◌, Bool, true, false, not, ◌&&◌, ◌==◌, cond, nat_le, nat_lt, get_or, List, [], ◌∷◌, length, drop, slice_get, Option, Some, None, option_map, ap, sym, ◌∙◌, ⊎_elim, inl, inr, refl, arith}
use Rattle.std.specs.Prelude.{◌⊎◌, position}
use Rattle.std.specs.List.{position_or_len}
use Rattle.std.proofs.lemmas.List.Quantifiers.{position-Some}
use Rattle.std.proofs.lemmas.List.Sums.{fails_before_first}
use Rattle.std.proofs.lemmas.Option.{slice_get-get_or, same_Some}
use Rattle.std.proofs.lemmas.Bool.{false≢true}
use Rattle.std.proofs.lemmas.Bool.Decides.{nat_tests}
use Rattle.law_driver.proofs.Common.{waits_is}
use Rattle.law_common.proofs.Numbers.{same_number}
use Rattle.drv_table.specs.declared.content.Transfer.{Transfer}
use Rattle.drv_table.specs.DriverContent.{waits_for, next_after}
use Rattle.law_driver.specs.chained_transfers.Turns.{Turn, turn_of, turn_in, AreReportedTo}
use Rattle.law_driver.proofs.lemmas.chained_transfers.Chained.{within_list}

-- ---- the first that waits

get_drop : {X : Type 0} (xs : List X) (k i : ℕ) → slice_get (drop k xs) i ≡ slice_get xs (k + i)
get_drop [] zero i = refl
get_drop [] (suc k) i = refl
get_drop (x ∷ xs) zero i = let e : i ≡ 0 + i = omega arith in ap (slice_get (x ∷ xs)) e
get_drop (x ∷ xs) (suc k) i = let e : suc k + i ≡ suc (k + i) = omega arith in get_drop xs k i ∙ ap (slice_get (x ∷ xs)) (sym e)

record IsFound (p : Transfer → Bool) (xs : List Transfer) (i : ℕ) : Type 0 where
  one : Transfer
  here : slice_get xs i ≡ Some one
  holds : p one ≡ true
  before : (j : ℕ) (z : Transfer) → j < i → slice_get xs j ≡ Some z → p z ≡ false

FoundOr : (Transfer → Bool) → List Transfer → Option ℕ → Type 0
FoundOr p xs (Some i) = IsFound p xs i
FoundOr p xs None = (j : ℕ) (z : Transfer) → slice_get xs j ≡ Some z → p z ≡ false

at_place : (xs : List Transfer) (j : ℕ) (z d : Transfer) → slice_get xs j ≡ Some z → (j < length xs) × (get_or xs j d ≡ z)
at_place xs j z d here =
    let low = within_list (λ (y : Transfer). y) xs j z (ap (option_map (λ (y : Transfer). y)) here) in
    (low, same_Some (get_or xs j d) z (sym (slice_get-get_or xs j d low) ∙ here))

found_none : (p : Transfer → Bool) (xs : List Transfer) (z : Transfer) (j : ℕ) (b : Bool) → nat_lt (position_or_len p xs) (length xs) ≡ b → cond b (Some (position_or_len p xs)) None ≡ None → slice_get xs j ≡ Some z → p z ≡ false
found_none p xs z j true is none here = absurd (cc)
found_none p xs z j false is none here =
    let many : length xs ≤ position_or_len p xs = grind (arith, nat_tests) in
    let at = at_place xs j z z here in
    ap p (sym at.1) ∙ fails_before_first p xs j z (omega (arith, many, at.0))

found_or : (p : Transfer → Bool) (xs : List Transfer) (o : Option ℕ) → position p xs ≡ o → FoundOr p xs o
unfolding FoundOr
found_or p xs None is = λ j z here. found_none p xs z j (nat_lt (position_or_len p xs) (length xs)) refl is here
found_or p [] (Some i) is = absurd (cc)
found_or p (x ∷ xs) (Some i) is =
    let at = position-Some p (x ∷ xs) i x is in
    record {
      one = get_or (x ∷ xs) i x;
      here = slice_get-get_or (x ∷ xs) i x at.0;
      holds = at.1;
      before = λ j z less here. let w = at_place (x ∷ xs) j z x here in ap p (sym w.1) ∙ at.2 j less;
    }

-- ---- the next transfer of the endpoint

pub waits_not : (e : ℕ) (y : Transfer) → waits_for e y ≡ false → y.endpoint ≡ e → y.reported ≡ true
waits_not e y is of_e = by y.reported refl
  where
    by : (b : Bool) → y.reported ≡ b → y.reported ≡ true
    by true f = f
    by false f = absurd (false≢true (sym is ∙ ap (λ (b : Bool). (y.endpoint == e) && not b) f ∙ ap (λ (b : Bool). b && true) (ap (λ (n : ℕ). n == e) of_e ∙ same_number e)))

pub turn_at : (ts : List Transfer) (u : ℕ) (z : Turn) → turn_in ts u ≡ Some z → (y : Transfer) × (slice_get ts u ≡ Some y) × (z ≡ turn_of y)
turn_at ts u z there = by (slice_get ts u) refl there
  where
    by : (o : Option Transfer) → slice_get ts u ≡ o → option_map turn_of o ≡ Some z → (y : Transfer) × (slice_get ts u ≡ Some y) × (z ≡ turn_of y)
    by None is f = absurd (cc)
    by (Some y) is f = (y, is, sym (same_Some (turn_of y) z f))

low_or_high : (u t : ℕ) → (u ≤ t) ⊎ (t < u)
low_or_high u t = by_test (nat_le u t) refl
  where
    by_test : (b : Bool) → nat_le u t ≡ b → (u ≤ t) ⊎ (t < u)
    by_test true is = inl (grind (arith, nat_tests))
    by_test false is = inr (grind (arith, nat_tests))

-- all up to t are reported
pub next_waits : (ts : List Transfer) (e t : ℕ) → ((u : ℕ) (z : Turn) → u ≤ t → turn_in ts u ≡ Some z → z.endpoint ≡ e → z.reported ≡ true) → AreReportedTo (turn_in ts) e (next_after ts e t)
unfolding FoundOr
next_waits ts e t earlier = by (position (waits_for e) (drop (suc t) ts)) (found_or (waits_for e) (drop (suc t) ts) (position (waits_for e) (drop (suc t) ts)) refl)
  where
    behind : (u j : ℕ) (y : Transfer) → suc t + j ≡ u → slice_get ts u ≡ Some y → slice_get (drop (suc t) ts) j ≡ Some y
    behind u j y is here = get_drop ts (suc t) j ∙ ap (slice_get ts) is ∙ here

    by : (o : Option ℕ) → FoundOr (waits_for e) (drop (suc t) ts) o → AreReportedTo (turn_in ts) e (option_map (λ i. suc t + i) o)
    by None none = told
      where
        told : (u : ℕ) (z : Turn) → turn_in ts u ≡ Some z → z.endpoint ≡ e → z.reported ≡ true
        told u z there of_e = ⊎_elim (λ (low : u ≤ t). earlier u z low there of_e)
            (λ (high : t < u).
            let y = turn_at ts u z there in
            let sum : suc t + (u - suc t) ≡ u = omega (arith, high) in
            ap (λ (r : Turn). r.reported) y.2
            ∙ waits_not e y.0 (none (u - suc t) y.0 (behind u (u - suc t) y.0 sum y.1)) (sym (ap (λ (r : Turn). r.endpoint) y.2) ∙ of_e))
            (low_or_high u t)
    by (Some i) f =
        let w = waits_is e f.one f.holds in
        record {
          transfer = turn_of f.one;
          here = ap (option_map turn_of) (sym (get_drop ts (suc t) i) ∙ f.here);
          endpoint = w.0;
          waits = w.1;
          before = λ u z less there of_e. ⊎_elim (λ (low : u ≤ t). earlier u z low there of_e)
              (λ (high : t < u).
              let y = turn_at ts u z there in
              let sum : suc t + (u - suc t) ≡ u = omega (arith, high) in
              ap (λ (r : Turn). r.reported) y.2
              ∙ waits_not e y.0 (f.before (u - suc t) y.0 (omega (arith, less, high)) (behind u (u - suc t) y.0 sum y.1)) (sym (ap (λ (r : Turn). r.endpoint) y.2) ∙ of_e))
              (low_or_high u t);
        }
