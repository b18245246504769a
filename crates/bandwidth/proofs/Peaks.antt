-- A peak is at least each cost of its placement, and each sum of its first frame.
use Rattle.std.proofs.Common.{◌≡◌, ℕ, ◌+◌, ◌*◌, ◌/◌, ◌%◌, ◌<◌, ◌≤◌, true, List, ap, sym, subst, arith}
use Rattle.std.specs.Prelude.{zero, suc, slice_index}
use Rattle.bandwidth.specs.declared.placements.Want.{Want}
use Rattle.bandwidth.specs.declared.placements.Placement.{Placement}
use Rattle.bandwidth.specs.declared.placements.Placed.{Placed}
use Rattle.bandwidth.specs.declared.shapes.Shape.{Shape}
use Rattle.bandwidth.specs.Placements.{frame_period, IsPlace}
use Rattle.bandwidth.specs.Sums.{cost_in, is_active, load}
use Rattle.bandwidth.specs.Admission.{is_own, joined, peak}
use Rattle.bandwidth.specs.Shapes.{IsShape, IsOf}
use Rattle.bandwidth.specs.Tables.{CellsWithin, FrameWithin}
use Rattle.bandwidth.proofs.Budgets.{below_greatest, load_joined, own_sum, taken}
use Rattle.bandwidth.proofs.Spans.{own_of, shape_costs}
use Rattle.bandwidth.proofs.Turns.{active_of, both, whole_of}

or_none : (c b : ℕ) → (1 ≤ c → c ≤ b) → c ≤ b
or_none zero b h = omega arith
or_none (suc c) b h = h (omega arith)

own_peak : (placed : List Placed) (w : Want) (p : Placement) (m : ℕ) → IsPlace p → m < 8 → 1 ≤ cost_in w p m → cost_in w p m ≤ peak placed w p
unfolding peak
own_peak placed w p m place h some =
    let whole = whole_of p.period place.period in
    let phase = place.phase in
    let frame : (8 * p.phase + m) / 8 ≡ p.phase = omega arith in
    let cell : (8 * p.phase + m) % 8 ≡ m = omega arith in
    let inside : 8 * p.phase + m < 8192 = omega (arith, whole.most, phase) in
    let start : p.phase + 0 * frame_period p.period ≡ p.phase = omega arith in
    let first : is_active p p.phase ≡ true = rw start at (active_of p 0 phase) in
    let active : is_active p ((8 * p.phase + m) / 8) ≡ true = rw frame first in
    let there : cost_in w p ((8 * p.phase + m) % 8) ≡ cost_in w p m = ap (cost_in w p) cell in
    let some_there : 1 ≤ cost_in w p ((8 * p.phase + m) % 8) = omega (arith, there, some) in
    let own : is_own p (8 * p.phase + m) ≡ true = both _ _ active (own_of w p ((8 * p.phase + m) % 8) some_there) in
    omega (
      arith,
      below_greatest 8192 (own_sum placed w p) (8 * p.phase + m) inside,
      taken (is_own p (8 * p.phase + m)) (load (joined placed w p) (8 * p.phase + m)) own,
      load_joined placed w p (8 * p.phase + m),
      taken (is_active p ((8 * p.phase + m) / 8)) (cost_in w p ((8 * p.phase + m) % 8)) active,
      there,
    )

pub cost_peak : (placed : List Placed) (w : Want) (x : Shape) (p : Placement) → IsShape w x → IsOf x p → (m : ℕ) → m < 8 → slice_index x.costs.each m ≤ peak placed w p
cost_peak placed w x p shape of m h =
    let e : slice_index x.costs.each m ≡ cost_in w p m = shape_costs w x p shape of m h in
    let least : cost_in w p m ≤ peak placed w p = or_none (cost_in w p m) (peak placed w p) (λ some. own_peak placed w p m of.place h some) in
    omega (arith, e, least)

pub first_frame : (cells : List ℕ) (amount : ℕ → ℕ) (p : Placement) (n : ℕ) → IsPlace p → CellsWithin cells amount p n → FrameWithin cells p.phase amount n
first_frame cells amount p n place within m small some =
    let whole = whole_of p.period place.period in
    let phase = place.phase in
    let frame : (8 * p.phase + m) / 8 ≡ p.phase = omega arith in
    let cell : (8 * p.phase + m) % 8 ≡ m = omega arith in
    let inside : 8 * p.phase + m < 8192 = omega (arith, whole.most, phase) in
    let start : p.phase + 0 * frame_period p.period ≡ p.phase = omega arith in
    let first : is_active p p.phase ≡ true = rw start at (active_of p 0 phase) in
    let active : is_active p ((8 * p.phase + m) / 8) ≡ true = rw frame first in
    subst (λ k. slice_index cells (8 * p.phase + m) + amount k ≤ n) cell
    (within (8 * p.phase + m) inside active (subst (λ k. 1 ≤ amount k) (sym cell) some))
