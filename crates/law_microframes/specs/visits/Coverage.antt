-- The walk of the frames leaves none out (EHCI 1.0, 4.6 and 4.7), while members are linked and unlinked.
--     ChainIsStanding    what the words of memory link in a frame stands there
--     TextsVisitEach     the law, of each script that a text spells: in a microframe each structure that was linked in its frame as it
--                        began, and is linked there still, was visited once the walk is over
use Rattle.std.specs.Prelude.{ℕ, ◌<◌, List}
use Rattle.script_types.specs.declared.scripts.Script.{Script}
use Rattle.script_text.specs.Faults.{Spells}
use Rattle.word_mem.specs.Memory.{Mem}
use Rattle.drv_chains.specs.declared.members.Predecessor.TheVariants.{Element}
use Rattle.drv_periodic.specs.Periodic.{address_of}
use Rattle.drv_table.specs.DriverContent.{DriverContent}
use Rattle.law_descriptors.specs.RowLaws.{HasFrames}
use Rattle.claims_world.specs.Visits.{next_of, IsLedTo, VisitsEach}
use Rattle.law_microframes.specs.visits.Visited.{StandsIn}

abbrev pub ChainIsStanding : Type 0
ChainIsStanding = (m : Mem) (d : DriverContent) (f n : ℕ) → HasFrames m d → f < 1024
    → IsLedTo m n (next_of m (address_of d.periodic.list.list (Element f))) → StandsIn d f n

abbrev pub TextsVisitEach : Type 0
TextsVisitEach = (text : List ℕ) (s : Script) → Spells text s → VisitsEach s
