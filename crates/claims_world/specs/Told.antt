-- In a run each line that the driver writes has its reason in the words that it reads (EHCI 1.0, 3.3.2, 3.4.3, 3.5.3, 3.6.3, 4.10 and 4.15;
-- USB 2.0, 8.5.3), and as many bytes as were moved; between its events, and where a command is accepted, no line is written. What was asked
-- of a transfer stays as it was accepted, and what was moved in a qTD is noted as its token is read.
--     LinesHaveReasons s      so it is at each event of the run of a script
use Rattle.std.specs.Prelude.{◌≡◌, ℕ, suc, true}
use Rattle.script_types.specs.declared.scripts.Script.{Script}
use Rattle.drv_table.specs.DriverContent.{DriverContent}
use Rattle.drv_table.specs.Rows.{driver_row}
use Rattle.bus_world.specs.Budgets.{moment}
use Rattle.bus_world.specs.World.{World, driver_parts}
use Rattle.claims_world.specs.Releases.{is_drivers}
use Rattle.claims_answers.specs.Passing.{KeepsTransfers}
use Rattle.claims_answers.specs.Telling.{AreTold}
use Rattle.claims_world.specs.Heard.{is_controllers}

-- the lines of w, and those that the driver's event from w on wrote
abbrev pub WritesForReasons : World → DriverContent → Type 0
WritesForReasons w d = AreTold (driver_parts w) d.notes d.reports d.store

abbrev pub ReadsRightly : World → DriverContent → Type 0
ReadsRightly w d = KeepsTransfers (driver_row (driver_parts w)) (driver_parts w) d

pub record LinesHaveReasons (s : Script) : Type 0 where
  pub driver : (k : ℕ) → is_drivers (moment s k).orders ≡ true → WritesForReasons (moment s k).world (moment s (suc k)).world.driver
  pub kept : (k : ℕ) → is_drivers (moment s k).orders ≡ true → ReadsRightly (moment s k).world (moment s (suc k)).world.driver
  pub controller : (k : ℕ) → is_controllers (moment s k).orders ≡ true → (moment s (suc k)).world.driver ≡ (moment s k).world.driver
