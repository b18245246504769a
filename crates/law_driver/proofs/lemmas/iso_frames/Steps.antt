-- Frames in step stay in the class of their placement, and a span of the list has each once.
use Rattle.std.proofs.Common.{◌≡◌, ◌≢◌, ℕ, suc, ◌+◌, ◌-◌, ◌*◌, ◌%◌, ◌<◌, ◌≤◌, true, List, [], ◌∷◌, ◌++◌, length, Option, Some, None, refl, subst, ◌∙◌, ⊎_elim, arith}
use Rattle.std.specs.Prelude.{nat_eq}
use Rattle.std.specs.List.{AllByRecursion, list_any}
use Rattle.std.proofs.lemmas.Bool.{false≢true, or_cases, eqb-true, eq-eqb}
use Rattle.std.proofs.Math.Nat.{suc-mul}
use Rattle.bandwidth.specs.declared.placements.Placement.{Placement}
use Rattle.bandwidth.specs.Placements.{periods, frame_period, IsPlace}
use Rattle.bandwidth.specs.Sums.{is_active}
use Rattle.drv_periodic_table.specs.Frames.{list_frame, next_frame, frames_from, first_frame}
use Rattle.law_driver.specs.iso_frames.Steps.{StepsTo, AreInStep, AreApart}

-- ---- what holds of each period

by_period : (Q : ℕ → Type 0) (p : ℕ) (ps : List ℕ) → AllByRecursion Q ps → list_any (λ c. nat_eq c p) ps ≡ true → Q p
by_period Q p [] all on = absurd (false≢true on)
by_period Q p (c ∷ ps) all on =
    ⊎_elim (λ (same : nat_eq c p ≡ true). subst Q (eqb-true c p same) all.0) (λ (later : list_any (λ c. nat_eq c p) ps ≡ true). by_period Q p ps all.1 later) (or_cases (nat_eq c p) (list_any (λ c. nat_eq c p) ps) on)

-- one period later, in the list's elements
abbrev Later : ℕ → Type 0
Later k = (f : ℕ) → (f + 1 * frame_period k) % 1024 % frame_period k ≡ f % frame_period k

later_all : AllByRecursion Later periods
later_all = (λ f. omega arith, (λ f. omega arith, (λ f. omega arith, (λ f. omega arith, (λ f. omega arith, (λ f. omega arith, (λ f. omega arith, (λ f. omega arith, (λ f. omega arith, (λ f. omega arith, (λ f. omega arith, (λ f. omega arith, (λ f. omega arith, (λ f. omega arith, tt))))))))))))))

-- the next frame of the phase
abbrev Next : ℕ → Type 0
Next k = (f phase : ℕ) → phase < frame_period k → (f + (phase + frame_period k - f % frame_period k) % frame_period k) % 1024 % frame_period k ≡ phase

next_all : AllByRecursion Next periods
next_all = (λ f q h. omega (arith, h), (λ f q h. omega (arith, h), (λ f q h. omega (arith, h), (λ f q h. omega (arith, h), (λ f q h. omega (arith, h), (λ f q h. omega (arith, h), (λ f q h. omega (arith, h), (λ f q h. omega (arith, h), (λ f q h. omega (arith, h), (λ f q h. omega (arith, h), (λ f q h. omega (arith, h), (λ f q h. omega (arith, h), (λ f q h. omega (arith, h), (λ f q h. omega (arith, h), tt))))))))))))))

-- so many periods of at most 1,024 frames
abbrev Counts : ℕ → Type 0
Counts k = (n : ℕ) → n ≤ 8 → n * k ≤ 8192 → n * frame_period k ≤ 1024

counts_all : AllByRecursion Counts periods
counts_all = (λ n h k. omega (arith, h, k), (λ n h k. omega (arith, h, k), (λ n h k. omega (arith, h, k), (λ n h k. omega (arith, h, k), (λ n h k. omega (arith, h, k), (λ n h k. omega (arith, h, k), (λ n h k. omega (arith, h, k), (λ n h k. omega (arith, h, k), (λ n h k. omega (arith, h, k), (λ n h k. omega (arith, h, k), (λ n h k. omega (arith, h, k), (λ n h k. omega (arith, h, k), (λ n h k. omega (arith, h, k), (λ n h k. omega (arith, h, k), tt))))))))))))))

pub span_counts : (k n : ℕ) → list_any (λ c. nat_eq c k) periods ≡ true → n ≤ 8 → n * k ≤ 8192 → n * frame_period k ≤ 1024
span_counts k n is few short = by_period Counts k periods counts_all is n few short

-- ---- active in a frame

active_is : (p : Placement) (f : ℕ) → is_active p f ≡ true → f % frame_period p.period ≡ p.phase
active_is p f e = eqb-true (f % frame_period p.period) p.phase e

is_then : (p : Placement) (f : ℕ) → f % frame_period p.period ≡ p.phase → is_active p f ≡ true
is_then p f e = eq-eqb (f % frame_period p.period) p.phase e

pub later_active : (p : Placement) (f : ℕ) → IsPlace p → is_active p f ≡ true → is_active p (frames_from p f 1) ≡ true
later_active p f place e = is_then p (frames_from p f 1) (by_period Later p.period periods later_all place.period f ∙ active_is p f e)

pub first_active : (p : Placement) (n : ℕ) (last : Option ℕ) → IsPlace p → ((f : ℕ) → last ≡ Some f → is_active p f ≡ true) → is_active p (first_frame p n last) ≡ true
first_active p n None place each = is_then p (next_frame p (list_frame n + 2)) (by_period Next p.period periods next_all place.period (list_frame n + 2) p.phase place.phase)
first_active p n (Some f) place each = later_active p f place (each f refl)

-- ---- no frame twice

pub some_period : (p : ℕ) → 1 ≤ frame_period p
some_period p = omega arith

far : (p : Placement) (f q g : ℕ) (gs : List ℕ) → 1 ≤ q → f < 1024 → g ≡ (f + q) % 1024 → q + length gs * frame_period p.period < 1024 → StepsTo p g gs → AllByRecursion (λ h. h ≢ f) (g ∷ gs)
far p f q g [] some small is short steps = ((λ e. omega (arith, some, small, is, short, e)), tt)
far p f q g (h ∷ hs) some small is short steps =
    let more = suc-mul (length hs) (frame_period p.period) in
    let next : h ≡ (f + (q + frame_period p.period)) % 1024 = omega (arith, steps.0, is) in
    ((λ e. omega (arith, some, small, is, short, e)), far p f (q + frame_period p.period) h hs (omega (arith, some)) small next (omega (arith, short, more)) steps.1)

pub frames_in_step_are_apart : (p : Placement) (fs : List ℕ) → AllByRecursion (λ f. f < 1024) fs → length fs * frame_period p.period ≤ 1024 → AreInStep p fs → AreApart fs
frames_in_step_are_apart p [] small short steps = tt
frames_in_step_are_apart p (f ∷ []) small short steps = (tt, tt)
frames_in_step_are_apart p (f ∷ g ∷ gs) small short steps =
    let one = suc-mul (suc (length gs)) (frame_period p.period) in
    let two = suc-mul (length gs) (frame_period p.period) in
    let some = some_period p.period in
    let first : g ≡ (f + frame_period p.period) % 1024 = omega (arith, steps.0) in
    (far p f (frame_period p.period) g gs some small.0 first (omega (arith, short, one, two, some)) steps.1, frames_in_step_are_apart p (g ∷ gs) small.1 (omega (arith, short, one)) steps.1)

-- ---- more frames behind

abbrev pub LastOf : ℕ → List ℕ → ℕ
LastOf f [] = f
LastOf f (g ∷ gs) = LastOf g gs

pub joined : (p : Placement) (f g : ℕ) (fs gs : List ℕ) → StepsTo p f fs → g ≡ frames_from p (LastOf f fs) 1 → StepsTo p g gs → StepsTo p f (fs ++ g ∷ gs)
joined p f g [] gs one is two = (is, two)
joined p f g (h ∷ fs) gs one is two = (one.0, joined p h g fs gs one.1 is two)
