-- What is placed, along a run (USB 2.0, 11.18; EHCI 1.0, 4.12).
--     PlacesAreRight d       each may be asked for, and is placed as it may be
--     ScriptsPlaceRight      so it is at each moment of each script that fits
--     ScriptsNameApart       no two endpoints of a driver have one name, at each moment of each script that fits
--     TextsPlanHubs          the plan of each translator fits, at each moment of each script that a text spells
use Rattle.std.specs.Prelude.{ℕ, List}
use Rattle.std.specs.List.{AllByRecursion}
use Rattle.script_types.specs.declared.scripts.Script.{Script}
use Rattle.script_text.specs.Faults.{Spells}
use Rattle.script_fits.specs.Fits.{IsFit}
use Rattle.drv_table.specs.DriverContent.{DriverContent}
use Rattle.bus_world.specs.Budgets.{moment}
use Rattle.law_queues.specs.open_laws.Opens.{AreNamesApart}
use Rattle.law_translator.specs.hub_plans.Laws.{IsPlacedRight}
use Rattle.law_microframes.specs.plans.Plans.{HubPlansStand}

abbrev pub PlacesAreRight : DriverContent → Type 0
PlacesAreRight d = AllByRecursion IsPlacedRight d.periodic.plan.placed

abbrev pub ScriptsPlaceRight : Type 0
ScriptsPlaceRight = (s : Script) → IsFit s → (k : ℕ) → PlacesAreRight (moment s k).world.driver

abbrev pub ScriptsNameApart : Type 0
ScriptsNameApart = (s : Script) → IsFit s → (k : ℕ) → AreNamesApart (moment s k).world.driver

abbrev pub TextsPlanHubs : Type 0
TextsPlanHubs = (text : List ℕ) (s : Script) → Spells text s → HubPlansStand s
