-- In a run the driver rests only where all that it was asked for is done (EHCI 1.0, 4.6 to 4.8 and 4.10): a driver that leaves a token
-- unread, or never gives back what left, doesn't. Nor does it do other things instead: what can be given back now is, and what has no line
-- is read, at every second event at the latest.
--     WorksOn w d            so it is at an event of the driver that leaves d
--     RestsThroughout s      .. at each of its events in the run of a script
use Rattle.std.specs.Prelude.{◌≡◌, ℕ, suc, true}
use Rattle.script_types.specs.declared.scripts.Script.{Script}
use Rattle.drv_table.specs.DriverContent.{DriverContent}
use Rattle.drv_table.specs.Rows.{driver_row}
use Rattle.bus_world.specs.Budgets.{moment}
use Rattle.bus_world.specs.World.{World, driver_parts}
use Rattle.claims_world.specs.Releases.{is_drivers}
use Rattle.claims_answers.specs.Resting.{RestsOnlyWhenDone}
use Rattle.claims_answers.specs.Turns.{TakesTurns}

pub record WorksOn (w : World) (d : DriverContent) : Type 0 where
  pub rests : RestsOnlyWhenDone (driver_parts w)
  pub turns : TakesTurns (driver_row (driver_parts w)) (driver_parts w) d

abbrev pub RestsThroughout : Script → Type 0
RestsThroughout s = (k : ℕ) → is_drivers (moment s k).orders ≡ true → WorksOn (moment s k).world (moment s (suc k)).world.driver
