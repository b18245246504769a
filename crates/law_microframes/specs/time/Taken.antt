-- What one event of the walk of the ring takes of the time that is left (EHCI 1.0, 4.4, 4.8 and 4.10.3; USB 2.0, 5.11.3).
--     made_by step n           how many transactions were made, after an event of this kind
--     Takes step new old       the event leaves less time by the least price or more where it makes a transaction, and no more time in any case
--     EventsTakeTime           the law, of each event of the walk of the ring
use Rattle.std.specs.Prelude.{ℕ, suc, ◌+◌, ◌*◌, ◌≤◌}
use Rattle.async_walk.specs.declared.state.WalkStep.{WalkStep}
use Rattle.async_walk.specs.declared.state.WalkStep.TheVariants as steps
use Rattle.async_walk.specs.Rows.{WalkPlace, at_event, event_row, step_of}
use Rattle.bus_wire.specs.Bus.{Bus, Fixed}
use Rattle.bus_world.specs.World.{walk_next}
use Rattle.claims_world.specs.Microframes.{least_price}

abbrev pub made_by : WalkStep → ℕ → ℕ
made_by steps.Fetch n = n
made_by steps.Advance n = n
made_by steps.Transact n = suc n
made_by steps.WriteBack n = n
made_by steps.Skip n = n
made_by steps.Ended n = n
made_by steps.Fault n = n

abbrev pub Takes : WalkStep → ℕ → ℕ → Type 0
Takes step new old = made_by step 0 * least_price + new ≤ old

abbrev pub EventsTakeTime : Type 0
EventsTakeTime = (fixed : Fixed) (p : WalkPlace) (b : Bus) → Takes (step_of (event_row p) (at_event p)) (walk_next fixed p b).place.walk.left p.walk.left
