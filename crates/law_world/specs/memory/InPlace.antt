-- Laws of worlds with endpoints of every kind: all that the driver has is in place in memory (EHCI 1.0, 3, 4.6 and 4.8), by which its ring
-- and its frame list stand there.
--     HasAllInPlace w        the driver's runs, members and fixed words are in place; the words of memory stand for its frame list; what a
--                            stalled endpoint is owed goes elsewhere; and isochronous descriptors that are still to be linked lead to what
--                            stands first in their frames
--     MixedHasAllInPlace     so it is in a mixed world
--     TextsKeepAllInPlace    and at each moment of each script that a text spells
--     without_runs w         the world, with no run in its driver's book
--     BreaksInPlace          this one hasn't its frame list in place
use Rattle.std.specs.Prelude.{ℕ, List, []}
use Rattle.script_types.specs.declared.scripts.Script.{Script}
use Rattle.script_text.specs.Faults.{Spells}
use Rattle.bus_world.specs.Budgets.{moment}
use Rattle.bus_world.specs.World.{World}
use Rattle.law_frame_list.specs.list_driver.Keeping.{KeepsItsList}
use Rattle.law_driver.specs.in_place.InPlace.{IsInPlace}
use Rattle.law_world.specs.memory.Mixed.{IsMixedWorld}

pub record HasAllInPlace (w : World) : Type 0 where
  pub place : IsInPlace w.memory w.driver
  pub list : KeepsItsList w.memory w.driver

abbrev pub MixedHasAllInPlace : Type 0
MixedHasAllInPlace = (w : World) → IsMixedWorld w → HasAllInPlace w

abbrev pub TextsKeepAllInPlace : Type 0
TextsKeepAllInPlace = (text : List ℕ) (s : Script) → Spells text s → (k : ℕ) → HasAllInPlace (moment s k).world

-- ---- a world that breaks it

abbrev pub without_runs : World → World
without_runs w = record w { driver = record w.driver { book = record w.driver.book { slots = [] } } }

abbrev pub BreaksInPlace : Type 0
BreaksInPlace = (w : World) → HasAllInPlace (without_runs w) → ⊥
