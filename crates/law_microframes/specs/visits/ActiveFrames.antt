-- In which frame an isochronous descriptor is met of which something is active (EHCI 1.0, 3.3, 3.4, 4.6, 4.7 and 4.12.3): a member stands in that frame alone for which its descriptor
-- is, so one to which the walk goes on is for the frame of the microframe. Of those that were unlinked in the microframe some may be active still: they wait at an endpoint that was
-- cancelled, and are unlinked before they are reported.
--     ScheduledIsAlone          each member of the frame list stands in the frame of its descriptor alone, while something of it is active
--     QueueIsNotActive          where a queue head is a member, no descriptor begins
--     AloneIsInFrame            where the walk goes on to one that is alone so, it is for the frame of the microframe
--     VisitsGoOnInFrame, ScriptsGoOnInFrame
--                               so it is at each moment of a script that fits
--     NextIsInFrame             where the walk goes on to one that may be met, it is for the frame of the microframe, or waits and was unlinked
use Rattle.std.specs.Prelude.{◌≡◌, ◌⊎◌, ℕ, Bool, true, List, Option, Some}
use Rattle.script_types.specs.declared.scripts.Script.{Script}
use Rattle.script_fits.specs.Fits.{IsFit}
use Rattle.law_scripts.specs.byte_answers.Bytes.{IsByteScript}
use Rattle.drv_chains.specs.declared.members.Member.{Member}
use Rattle.drv_chains.specs.declared.members.QueueHead.{QueueHead}
use Rattle.drv_chains.specs.declared.members.Member.TheVariants.{Each}
use Rattle.drv_members.specs.Members.{is_linked}
use Rattle.law_frames.specs.Met.{Kind}
use Rattle.law_descriptors.specs.Meeting.{met}
use Rattle.claims_driver.specs.Unlinked.{led}
use Rattle.law_descriptors.specs.Recent.{AreRecent}
use Rattle.bus_world.specs.World.{World}
use Rattle.bus_world.specs.Budgets.{moment}
use Rattle.law_world.specs.memory.Mixed.{Standing, IsMixedAt}
use Rattle.law_world.specs.memory.PlacedLaws.{FitsMixed}
use Rattle.claims_world.specs.Visits.{begins, frame_in}
use Rattle.law_microframes.specs.visits.Visited.{IsNext, VisitsGoOn}
use Rattle.law_microframes.specs.visits.OneDescriptor.{HasOneActive, IsActiveDescriptor, IsAloneAs}
use Rattle.law_microframes.specs.visits.Began.{IsAhead, WaitsLeft}

-- ---- members

abbrev pub ScheduledIsAlone : Type 0
ScheduledIsAlone = (s : Standing) (w : World) (x : Member) → IsMixedAt s w → is_linked w.driver.periodic.list.members.schedule x ≡ true → IsAloneAs w.driver w.memory (begins x) x

abbrev pub QueueIsNotActive : Type 0
QueueIsNotActive = (s : Standing) (w : World) (q : QueueHead) (e f n : ℕ) → IsMixedAt s w → is_linked w.driver.periodic.list.members.schedule (Each q) ≡ true → begins (Each q) ≡ n
    → IsActiveDescriptor w.driver w.memory e f n → ⊥

-- ---- to what the walk goes on

abbrev pub AloneIsInFrame : Type 0
AloneIsInFrame = (w : World) (kept : ℕ → Bool) (height : ℕ → ℕ) (who : ℕ → Member) (vs : List ℕ) (e f n : ℕ) → IsNext kept height who (frame_in w.control.frame.index) vs n
    → IsAloneAs w.driver w.memory n (who n) → IsActiveDescriptor w.driver w.memory e f n → f ≡ frame_in w.control.frame.index

abbrev pub NextIsInFrame : Type 0
NextIsInFrame = (s : Standing) (w : World) (left : ℕ → Option Kind) (kept : ℕ → Bool) (height : ℕ → ℕ) (who : ℕ → Member) (vs : List ℕ) (e f n : ℕ) (kind : Kind) → IsMixedAt s w
    → HasOneActive w.driver w.memory → AreRecent w.driver w.registers.frame_index left → ((x : Member) → is_linked (led w.driver) x ≡ true → who (begins x) ≡ x)
    → IsNext kept height who (frame_in w.control.frame.index) vs n → met w.driver left n ≡ Some kind → IsActiveDescriptor w.driver w.memory e f n
    → (f ≡ frame_in w.control.frame.index) ⊎ WaitsLeft w.driver left n e

-- ---- along a run

abbrev pub VisitsGoOnInFrame : Type 0
VisitsGoOnInFrame = (start w : World) (vs : List ℕ) (e f n : ℕ) → VisitsGoOn start w vs → IsAhead w n → IsActiveDescriptor w.driver w.memory e f n → f ≡ frame_in w.control.frame.index

abbrev pub ScriptsGoOnInFrame : Type 0
ScriptsGoOnInFrame = (s : Script) → IsFit s → IsByteScript s → FitsMixed s → (k e f n : ℕ) → IsAhead (moment s k).world n
    → IsActiveDescriptor (moment s k).world.driver (moment s k).world.memory e f n → f ≡ frame_in (moment s k).world.control.frame.index
