-- The transactions of the periodic part have the time that they need in each microframe that isn't held (USB 2.0, 5.9 and 5.11.3; EHCI 1.0,
-- 4.4, 4.6 and 4.10.3), while no more than 4 microseconds went for what was made again.
--     LeaveTheRest s              at each moment of the run of a script nothing but the transactions of the periodic part takes time of it
--     TextsLeaveTheRest           the law, of each script that a text spells
--     TextsAreInTime              the law, of each script that a text spells
use Rattle.std.specs.Prelude.{ℕ, List}
use Rattle.script_types.specs.declared.scripts.Script.{Script}
use Rattle.script_text.specs.Faults.{Spells}
use Rattle.bus_wire.specs.Bus.{fixed_of}
use Rattle.bus_world.specs.Budgets.{moment}
use Rattle.claims_world.specs.WithinLoad.{payments, repeats, LeavesTheRest}
use Rattle.claims_world.specs.InTime.{ArriveInTime}

abbrev pub LeaveTheRest : Script → Type 0
LeaveTheRest s = (k : ℕ) → LeavesTheRest (fixed_of s) (moment s k).world (payments s k) (repeats s k)

abbrev pub TextsLeaveTheRest : Type 0
TextsLeaveTheRest = (text : List ℕ) (s : Script) → Spells text s → LeaveTheRest s

abbrev pub TextsAreInTime : Type 0
TextsAreInTime = (text : List ℕ) (s : Script) → Spells text s → ArriveInTime s
