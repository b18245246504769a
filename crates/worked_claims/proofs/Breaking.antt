-- Each world breaks its clause.
use Rattle.std.proofs.Common.{◌≡◌, ℕ, zero, suc, ◌+◌, ◌*◌, ◌≤◌, List, [], ◌∷◌, ap, refl, sym, subst, ◌∙◌, arith}
use Rattle.script_types.specs.declared.scripts.Line.{Line}
use Rattle.script_types.specs.declared.scripts.Script.{Script}
use Rattle.bus_wire.specs.Bus.{Fixed, fixed_of}
use Rattle.bus_world.specs.World.{World}
use Rattle.bus_world.specs.Opening.{opening_world}
use Rattle.bus_world.specs.Orders.{OrderedWorld, Left, Microframes, at_place, orders_of, ticks}
use Rattle.bus_world.specs.Budgets.{moment}
use Rattle.claims_world.specs.Microframes.{EndsWithin}
use Rattle.worked_claims.specs.Broken.{BreaksLent, BreaksMemory, BreaksSchedule, BreaksMicroframes, BreaksWithinLoad, BreaksInTime}
use Rattle.worked_claims.specs.Broken.{BreaksBudgets}

pub breaks_lent : BreaksLent
breaks_lent = λ fixed w k. cc (k.clean 0 0 refl (omega arith))

pub breaks_memory : BreaksMemory
breaks_memory = λ fixed w k. cc k.unrefused

pub breaks_schedule : BreaksSchedule
breaks_schedule = λ d k. cc (k.queues.each.0).queue.here

-- ---- where nothing is ordered nothing is

none_ordered : (fixed : Fixed) (w : World) (n : ℕ) → ticks fixed (at_place w []) n ≡ at_place w []
unfolding ticks
none_ordered fixed w zero = refl
none_ordered fixed w (suc n) = none_ordered fixed w n

pub breaks_microframes : BreaksMicroframes
breaks_microframes = λ s none n rest k.
    let is : moment s (0 + 2 * k.turns) ≡ at_place (opening_world s) [] =
    subst (λ (lines : List (ℕ × Line)). ticks (fixed_of s) (at_place (opening_world s) (orders_of lines)) (0 + 2 * k.turns) ≡ at_place
    (opening_world s) []) (sym none)
    (none_ordered (fixed_of s) (opening_world s) (0 + 2 * k.turns)) in
    cc (sym k.over ∙ ap (λ (p : OrderedWorld). p.orders) is)

pub breaks_within_load : BreaksWithinLoad
breaks_within_load = λ w k. let is : 100000001 ≤ 100000000 = k.fifth in omega (arith, is)

pub breaks_in_time : BreaksInTime
breaks_in_time = λ fixed w k. let is : 25000000 ≤ 0 = k.fifth refl refl in omega (arith, is)

pub breaks_budgets : BreaksBudgets
breaks_budgets = λ rules p k. let is : 125010000 ≤ 100000000 = k.fits.loads 0 (omega arith) in omega (arith, is)
