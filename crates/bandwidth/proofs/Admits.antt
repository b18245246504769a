-- What the best placement is, in both directions.
use Rattle.std.proofs.Common.{◌≡◌, ℕ, ◌+◌, ◌<◌, ◌≤◌, List, [], ◌∷◌, ◌++◌, Bool, true, false, cond, map, ap, sym, ◌∙◌, arith}
use Rattle.std.specs.Prelude.{zero, suc, Some, None, slice_get, filter}
use Rattle.std.specs.List.{flat_map, range_with_len}
use Rattle.bandwidth.specs.declared.placements.Want.{Want}
use Rattle.bandwidth.specs.declared.placements.Placement.{Placement}
use Rattle.bandwidth.specs.declared.placements.Placed.{Placed}
use Rattle.usb_base.specs.declared.rules.Rules.{Rules}
use Rattle.bandwidth.specs.Placements.{is_slack, allowed, allowed_by, in_phase, first_in, placement_at, placement_row, frame_period, IsWant, IsPlace}
use Rattle.bandwidth.specs.declared.shapes.Shape.{Shape}
use Rattle.bandwidth.specs.Shapes.{IsShape, IsOf, turns, cells}
use Rattle.std.proofs.Common.{◌*◌, mul_comm}
use Rattle.std.proofs.Math.Nat.{div-le_self}
use Rattle.bandwidth.proofs.Cells.{within_steps}
use Rattle.bandwidth.proofs.Turns.{whole_of}
use Rattle.bandwidth.proofs.Spans.{span_of, few_cells}
use Rattle.bandwidth.specs.Sums.{Fits}
use Rattle.bandwidth.specs.Admission.{joined, keeps, peak, best, IsBest, HasNone}
use Rattle.bandwidth.proofs.Budgets.{fits_fact, fits_test}
use Rattle.bandwidth.proofs.Least.{IsFirstLeast, least_found, least_absent, none_left}

-- P holds of each of these
Every : (Placement → Type 0) → List Placement → Type 0
Every P [] = Unit {0}
Every P (q ∷ qs) = P q × Every P qs

every_append : (P : Placement → Type 0) (ps qs : List Placement) → Every P ps → Every P qs → Every P (ps ++ qs)
unfolding Every
every_append P [] qs h k = k
every_append P (p ∷ ps) qs h k = (h.0, every_append P ps qs h.1 k)

every_at : (P : Placement → Type 0) (ps : List Placement) (i : ℕ) (q : Placement) → Every P ps → slice_get ps i ≡ Some q → P q
unfolding Every
every_at P [] i q h e = cc
every_at P (p ∷ ps) zero q h e = let s : p ≡ q = cc in rw (← s) h.0
every_at P (p ∷ ps) (suc i) q h e = every_at P ps i q h.1 e

every_filter : (P : Placement → Type 0) (test : Placement → Bool) (ps : List Placement) → Every P ps → Every P (filter test ps)
unfolding Every
every_filter P test [] h = tt
every_filter P test (p ∷ ps) h =
    elim (test p) as (λ t. Every P (cond t (p ∷ filter test ps) (filter test ps))) [
      | true ↦ (h.0, every_filter P test ps h.1)
      | false ↦ every_filter P test ps h.1
    ]

-- p is a placement of the table: its phase and its first microframe
pub record IsOption (w : Want) (p : Placement) : Type 0 where
  pub place : IsPlace p
  pub first : first_in p.smask < (placement_row w).starts
  pub at : p ≡ placement_at w p.phase (first_in p.smask)

option_at : (w : Want) (phase s : ℕ) → IsWant w → phase < frame_period w.period → s < (placement_row w).starts → IsOption w (placement_at w phase s)
option_at w phase s want h k =
    let e : first_in ((placement_row w).smask s) ≡ s = (span_of w want s k).first in
    record {
      place = record { period = want.period; phase = h };
      first = rw e k;
      at = ap (placement_at w phase) (sym e);
    }

phase_options : (w : Want) (phase : ℕ) → IsWant w → phase < frame_period w.period → (a n : ℕ) → a + n ≤ (placement_row w).starts → Every (IsOption w) (map (placement_at w phase) (range_with_len a n))
unfolding Every
phase_options w phase want h a zero l = tt
phase_options w phase want h a (suc n) l =
    (option_at w phase a want h (omega arith), phase_options w phase want h (a + 1) n (omega arith))

all_options : (w : Want) → IsWant w → (a n : ℕ) → a + n ≤ frame_period w.period → Every (IsOption w) (flat_map (in_phase w) (range_with_len a n))
unfolding Every
all_options w want a zero h = tt
all_options w want a (suc n) h =
    every_append (IsOption w) (in_phase w a) _
    (phase_options w a want (omega arith) 0 (placement_row w).starts (omega arith))
    (all_options w want (a + 1) n (omega arith))

-- a placement of the table
pub record IsOfTable (w : Want) (p : Placement) : Type 0 where
  pub place : ℕ
  pub at : slice_get (allowed w) place ≡ Some p

record IsIn (ps : List Placement) (p : Placement) : Type 0 where
  place : ℕ
  at : slice_get ps place ≡ Some p

in_rest : (q : Placement) (ps : List Placement) (p : Placement) → IsIn ps p → IsIn (q ∷ ps) p
in_rest q ps p is = record { place = suc is.place; at = is.at }

kept_next : (on : Bool) (q : Placement) (ps rest : List Placement) (i : ℕ) (p : Placement) → ((j : ℕ) → slice_get rest j ≡ Some p → IsIn ps p) → slice_get (cond on (q ∷ rest) rest) i ≡ Some p → IsIn (q ∷ ps) p
kept_next true q ps rest zero p more e = record { place = 0; at = e }
kept_next true q ps rest (suc i) p more e = in_rest q ps p (more i e)
kept_next false q ps rest i p more e = in_rest q ps p (more i e)

kept_in : (test : Placement → Bool) (ps : List Placement) (i : ℕ) (p : Placement) → slice_get (filter test ps) i ≡ Some p → IsIn ps p
kept_in test [] i p e = cc
kept_in test (q ∷ ps) i p e = kept_next (test q) q ps (filter test ps) i p (λ j at. kept_in test ps j p at) e

pub allowed_of_table : (rules : Rules) (w : Want) (i : ℕ) (p : Placement) → slice_get (allowed_by rules w) i ≡ Some p → IsOfTable w p
unfolding allowed_by
allowed_of_table rules w i p e =
    let is = kept_in (is_slack rules w) (allowed w) i p e in record { place = is.place; at = is.at }

allowed_options : (w : Want) → IsWant w → Every (IsOption w) (allowed w)
unfolding allowed
allowed_options w want = all_options w want 0 (frame_period w.period) (omega arith)

allowed_by_options : (rules : Rules) (w : Want) → IsWant w → Every (IsOption w) (allowed_by rules w)
unfolding allowed_by
allowed_by_options rules w want = every_filter (IsOption w) (is_slack rules w) (allowed w) (allowed_options w want)

found : (rules : Rules) (placed : List Placed) (w : Want) (p : Placement) → best rules placed w ≡ Some p → IsFirstLeast (peak placed w) (keeps placed w) (allowed_by rules w) p
unfolding best
found rules placed w p e = least_found (peak placed w) (keeps placed w) (allowed_by rules w) p e

pub best_option : (rules : Rules) (placed : List Placed) (w : Want) (p : Placement) → IsWant w → best rules placed w ≡ Some p → IsOption w p
best_option rules placed w p want e =
    let f = found rules placed w p e in every_at (IsOption w) (allowed_by rules w) f.place p (allowed_by_options rules w want) f.at

-- the shape of its first microframe is its own
pub option_is_of : (w : Want) (p : Placement) (x : Shape) → IsOption w p → IsShape w x → x.costs.from ≡ first_in p.smask → IsOf x p
option_is_of w p x opt shape e = record {
  place = opt.place;
  smask = ap (λ (q : Placement). q.smask) opt.at ∙ sym (rw e at shape.smask);
  cmask = ap (λ (q : Placement). q.cmask) opt.at ∙ sym (rw e at shape.cmask);
}

pub best_fits : (rules : Rules) (placed : List Placed) (w : Want) (p : Placement) → best rules placed w ≡ Some p → Fits (joined placed w p)
best_fits rules placed w p e = fits_fact _ (found rules placed w p e).passes

pub best_is : (rules : Rules) (placed : List Placed) (w : Want) (p : Placement) → best rules placed w ≡ Some p → IsBest rules placed w p
best_is rules placed w p e =
    let f = found rules placed w p e in
    record {
      place = f.place;
      at = f.at;
      fits = fits_fact _ f.passes;
      least = λ i q at fit. f.least i q at (fits_test _ fit);
      first = λ i q h at fit. f.first i q h at (fits_test _ fit);
    }

pub best_none : (rules : Rules) (placed : List Placed) (w : Want) → best rules placed w ≡ None → HasNone rules placed w
unfolding best
best_none rules placed w e i q at fit = least_absent (peak placed w) (keeps placed w) (allowed_by rules w) e i q at (fits_test _ fit)

pub none_best : (rules : Rules) (placed : List Placed) (w : Want) → HasNone rules placed w → best rules placed w ≡ None
unfolding best
none_best rules placed w all =
    none_left (peak placed w) (keeps placed w) (allowed_by rules w) (λ i q at t. all i q at (fits_fact _ t))

pub some_not_none : (rules : Rules) (placed : List Placed) (w : Want) (p : Placement) → best rules placed w ≡ Some p → HasNone rules placed w → ⊥
some_not_none rules placed w p e all = let b = best_is rules placed w p e in all b.place p b.at b.fits

-- the steps of a search and of the placement that it finds
pub all_steps : (w : Want) → IsWant w → frame_period w.period * ((placement_row w).starts * (turns w.period * cells w)) + turns w.period * cells w ≤ 40960
all_steps w want =
    let whole = whole_of w.period want.period in
    let once : frame_period w.period * turns w.period ≡ 1024 = mul_comm (frame_period w.period) (turns w.period) ∙ whole.divides in
    within_steps (frame_period w.period) (placement_row w).starts (turns w.period) (cells w)
    (omega (arith, once)) (div-le_self 1024 (frame_period w.period)) (few_cells w want)

pub option_turns : (w : Want) (p : Placement) → IsOption w p → p.period ≡ w.period
option_turns w p opt = ap (λ (q : Placement). q.period) opt.at
