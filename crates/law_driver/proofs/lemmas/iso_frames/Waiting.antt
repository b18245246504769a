-- The descriptors of an endpoint that wait, as a list.
use Rattle.std.proofs.Common.{◌≡◌, ◌≢◌, cond, ℕ, zero, suc, ◌+◌, ◌<◌, ◌≤◌, ◌==◌, ◌&&◌, Bool, true, false, List, [], ◌∷◌, ◌++◌, Option, Some, None, refl, ap, sym, ◌∙◌, ⊎_elim, arith}
use Rattle.std.proofs.lemmas.Bool.{cases_eq, eq-eqb, eqb-true}
use Rattle.std.proofs.lemmas.Option.{same_Some}
use Rattle.law_common.proofs.Numbers.{other_number}
use Rattle.claims_driver.specs.FrameListMembers.{Placed}
use Rattle.law_driver.specs.iso_frames.Frames.{mark, before, waiting_from}

pub same_waiting : (v w : ℕ → Option Placed) (e a n : ℕ) → ((t : ℕ) → a ≤ t → t < a + n → mark e (w t) ≡ mark e (v t)) → waiting_from w e a n ≡ waiting_from v e a n
unfolding waiting_from
same_waiting v w e a zero same = refl
same_waiting v w e a (suc n) same =
    ap (λ m. before m (waiting_from w e (suc a) n)) (same a (omega arith) (omega arith))
    ∙ ap (before (mark e (v a))) (same_waiting v w e (suc a) n (λ t low high. same t (omega (arith, low)) (omega (arith, high))))

pub none_waiting : (v : ℕ → Option Placed) (e a n : ℕ) → ((t : ℕ) → a ≤ t → t < a + n → mark e (v t) ≡ None) → waiting_from v e a n ≡ []
unfolding waiting_from
none_waiting v e a zero none = refl
none_waiting v e a (suc n) none =
    ap (λ m. before m (waiting_from v e (suc a) n)) (none a (omega arith) (omega arith)) ∙ none_waiting v e (suc a) n (λ t low high. none t (omega (arith, low)) (omega (arith, high)))

before_more : (m : Option ℕ) (xs ys : List ℕ) → before m (xs ++ ys) ≡ before m xs ++ ys
before_more None xs ys = refl
before_more (Some b) xs ys = refl

pub more_waiting : (v : ℕ → Option Placed) (e a n k : ℕ) → waiting_from v e a (n + k) ≡ waiting_from v e a n ++ waiting_from v e (a + n) k
unfolding waiting_from
more_waiting v e a zero k =
    let none : zero + k ≡ k = omega arith in
    let same : a ≡ a + zero = omega arith in
    ap (waiting_from v e a) none ∙ ap (λ b. waiting_from v e b k) same
more_waiting v e a (suc n) k =
    let longer : suc n + k ≡ suc (n + k) = omega arith in
    let later : suc a + n ≡ a + suc n = omega arith in
    ap (waiting_from v e a) longer
    ∙ ap (before (mark e (v a))) (more_waiting v e (suc a) n k)
    ∙ before_more (mark e (v a)) (waiting_from v e (suc a) n) (waiting_from v e (suc a + n) k)
    ∙ ap (λ b. before (mark e (v a)) (waiting_from v e (suc a) n) ++ waiting_from v e b k) later

-- the first one waits no more
pub first_gone : (v w : ℕ → Option Placed) (e a n t b : ℕ) → a ≤ t → t < a + n → mark e (v t) ≡ Some b → mark e (w t) ≡ None → ((u : ℕ) → u ≢ t → mark e (w u) ≡ mark e (v u)) → ((u : ℕ) → u < t → mark e (v u) ≡ None)
    → waiting_from v e a n ≡ b ∷ waiting_from w e a n
unfolding waiting_from
first_gone v w e a zero t b low high is now same none = absurd (omega (arith, low, high))
first_gone v w e a (suc n) t b low high is now same none =
    ⊎_elim
    (λ (at : a ≡ t).
    ap (λ m. before m (waiting_from v e (suc a) n)) (ap (λ u. mark e (v u)) at ∙ is)
    ∙ ap (λ xs. b ∷ xs) (sym (same_waiting v w e (suc a) n (λ u from to. same u (λ hit. omega (arith, from, at, hit)))) ∙ sym (ap (λ m. before m (waiting_from w e (suc a) n)) (ap (λ u. mark e (w u)) at ∙ now))))
    (λ (off : a ≢ t).
    ap (λ m. before m (waiting_from v e (suc a) n)) (none a (omega (arith, low, off)))
    ∙ first_gone v w e (suc a) n t b (omega (arith, low, off)) (omega (arith, high)) is now same none
    ∙ ap (λ xs. b ∷ xs) (sym (ap (λ m. before m (waiting_from w e (suc a) n)) (same a off ∙ none a (omega (arith, low, off)))))) (cases_eq a t)

-- ---- one at a time

pub mark_is : (e : ℕ) (y : Placed) → y.endpoint ≡ e → y.waits ≡ true → mark e (Some y) ≡ Some y.block
mark_is e y same waits = ap (λ b. cond (b && y.waits) (Some y.block) None) (eq-eqb y.endpoint e same) ∙ ap (λ b. cond b (Some y.block) None) waits

pub mark_quiet : (e : ℕ) (y : Placed) → y.waits ≡ false → mark e (Some y) ≡ None
mark_quiet e y off = ap (λ b. cond ((y.endpoint == e) && b) (Some y.block) None) off ∙ none (y.endpoint == e)
  where
    none : (b : Bool) → ◌≡◌ {A = Option ℕ} (cond (b && false) (Some y.block) None) None
    none true = refl
    none false = refl

pub mark_off : (e : ℕ) (y : Placed) → y.endpoint ≢ e → mark e (Some y) ≡ None
mark_off e y off = ap (λ b. cond (b && y.waits) (Some y.block) None) (other_number y.endpoint e off)

-- what is marked waits for the endpoint
pub record IsMarked (e b : ℕ) (o : Option Placed) : Type 0 where
  pub placed : Placed
  pub is : o ≡ Some placed
  pub endpoint : placed.endpoint ≡ e
  pub waits : placed.waits ≡ true
  pub block : placed.block ≡ b

pub marked : (e b : ℕ) (o : Option Placed) → mark e o ≡ Some b → IsMarked e b o
marked e b None m = absurd (cc)
marked e b (Some y) m = at (y.endpoint == e) y.waits refl refl m
  where
    at : (s w : Bool) → (y.endpoint == e) ≡ s → y.waits ≡ w → cond (s && w) (Some y.block) None ≡ Some b → IsMarked e b (Some y)
    at true true same waits m = record { placed = y; is = refl; endpoint = eqb-true y.endpoint e same; waits = waits; block = same_Some y.block b m }
    at true false same waits m = absurd (cc)
    at false true same waits m = absurd (cc)
    at false false same waits m = absurd (cc)
